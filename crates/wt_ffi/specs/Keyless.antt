-- What C is told of a call that names no key.
use Rattle.std.specs.Prelude.{ℕ}
use Rattle.wt_core.specs.declared.calls.Call.{Call}
use Rattle.wt_core.specs.declared.calls.Call.TheVariants as call
use Rattle.wt_ffi.specs.declared.token.Timed.{Timed}
use Rattle.wt_ffi.specs.declared.answer.Answer.{Answer}
use Rattle.wt_ffi.specs.declared.opened.Opened.{Opened}
use Rattle.wt_ffi.specs.declared.opened.Opened.TheVariants.{Numbers, Names}
use Rattle.wt_ffi.specs.declared.keyless.Keyless.{Keyless}
use Rattle.wt_ffi.specs.declared.keyless.Keyless.TheVariants.{Clear, Clean, Slide}
use Rattle.wt_ffi.specs.Numbered as numbers
use Rattle.wt_ffi.specs.Named as names

-- the call, for keys of either kind
abbrev pub keyless_call : {K : Type 0} → Keyless → ℕ → Call K Timed
keyless_call Clear now = call.Clear now
keyless_call Clean now = call.Clean now
keyless_call (Slide wider) now = call.Slide wider now

-- the cache after a call with this answer
abbrev pub after : Answer → Keyless → ℕ → Opened → Opened
after told what now (Numbers c) = Numbers (numbers.after told (keyless_call what now) c)
after told what now (Names c) = Names (names.after told (keyless_call what now) c)

-- the number that a call with this answer returns
abbrev pub number_after : Answer → Keyless → ℕ → Opened → ℕ
number_after told what now (Numbers c) = numbers.number_after told (keyless_call what now) c
number_after told what now (Names c) = names.number_after told (keyless_call what now) c

-- the answer of a call, by its kind
abbrev pub answer_after : Answer → Keyless → ℕ → Opened → Answer
answer_after told what now (Numbers c) = numbers.answer_after told (keyless_call what now) c
answer_after told what now (Names c) = names.answer_after told (keyless_call what now) c

-- the state refuses the call
abbrev pub IsRefused : Keyless → ℕ → Opened → Type 0
IsRefused what now (Numbers c) = numbers.IsRefused (keyless_call what now) c
IsRefused what now (Names c) = names.IsRefused (keyless_call what now) c

-- the call takes no memory in this state
abbrev pub IsFree : Keyless → ℕ → Opened → Type 0
IsFree what now (Numbers c) = numbers.IsFree (keyless_call what now) c
IsFree what now (Names c) = names.IsFree (keyless_call what now) c
