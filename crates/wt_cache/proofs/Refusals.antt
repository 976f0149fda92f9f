-- A fault that is passed on, and what follows a configuration that was accepted.
use Rattle.std.proofs.Common.{◌≡◌, Option, Some, None, Ok, Err, IsOkUnless, MatchOption, Result}
use Rattle.wt_keys.specs.declared.fault.Fault.{Fault}
use Rattle.wt_keys.specs.declared.fault.Fault.TheVariants as fault
use Rattle.wt_keys.specs.declared.fault.Field.{Field}

pub passed-on : (A B : Type 0) (o : Option Field) (f : Fault)
    → MatchOption o (IsOkUnless {T = A} (Err f) fault.NoMemory) (λ field. ◌≡◌ {A = Result A Fault} (Err f) (Err (fault.BadConfig field)))
    → MatchOption o (IsOkUnless {T = B} (Err f) fault.NoMemory) (λ field. ◌≡◌ {A = Result B Fault} (Err f) (Err (fault.BadConfig field)))
passed-on A B None f h = h
passed-on A B (Some field) f h = cc

pub accepted : (A B : Type 0) (o : Option Field) (x : A) (r : Result B Fault)
    → MatchOption o (IsOkUnless {T = A} (Ok x) fault.NoMemory) (λ field. ◌≡◌ {A = Result A Fault} (Ok x) (Err (fault.BadConfig field)))
    → IsOkUnless {T = B} r fault.NoMemory
    → MatchOption o (IsOkUnless {T = B} r fault.NoMemory) (λ field. ◌≡◌ {A = Result B Fault} r (Err (fault.BadConfig field)))
accepted A B None x r h ok = ok
accepted A B (Some field) x r h ok = cc
