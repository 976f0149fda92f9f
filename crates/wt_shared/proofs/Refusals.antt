-- What a cache's own opening refused or made, passed on.
use Rattle.std.proofs.Common.{◌≡◌, Option, Some, None, Ok, Err, Result, refl}
use Rattle.wt_keys.specs.declared.fault.Fault.{Fault}
use Rattle.wt_keys.specs.declared.fault.Fault.TheVariants as fault
use Rattle.wt_keys.specs.declared.fault.Field.{Field}
use Rattle.wt_regions.specs.Lawful.{FailsByField}

-- a fault is passed on
pub fails_on : (A B : Type 0) (o : Option Field) (f : Fault) → FailsByField {R = A} o (Err f) → FailsByField {R = B} o (Err f)
fails_on A B None f h = h
fails_on A B (Some field) f h = cc

-- behind a cache that was made only memory is refused
pub fails_none : (A B : Type 0) (o : Option Field) (a : A) → FailsByField {R = A} o (Ok a) → FailsByField {R = B} o (Err fault.NoMemory)
fails_none A B None a h = refl
fails_none A B (Some field) a h = absurd (cc)

-- or what is made of it
pub fails_made : (A B : Type 0) (o : Option Field) (a : A) (b : B) → FailsByField {R = A} o (Ok a) → FailsByField {R = B} o (Ok b)
fails_made A B None a b h = tt
fails_made A B (Some field) a b h = absurd (cc)
