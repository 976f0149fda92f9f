-- What C is told of a call if keys are numbers.
use Rattle.std.specs.Prelude.{ℕ, nat_eq}
use Rattle.wt_core.specs.declared.calls.Call.{Call}
use Rattle.wt_ffi.specs.declared.token.Timed.{Timed}
use Rattle.wt_ffi.specs.declared.answer.Answer.{Answer}
use Rattle.wt_ffi.specs.Calls as calls
use Rattle.wt_ffi.specs.Open.{Open}

-- the cache after a call by number with this answer
abbrev pub after : Answer → Call ℕ Timed → Open ℕ → Open ℕ
after told = calls.after nat_eq (λ k. k) told.kind

-- the number that a call by number with this answer returns
abbrev pub number_after : Answer → Call ℕ Timed → Open ℕ → ℕ
number_after told = calls.number_after nat_eq (λ k. k) told.kind

-- the answer of a call by number, by its kind
abbrev pub answer_after : Answer → Call ℕ Timed → Open ℕ → Answer
answer_after told = calls.answer_after nat_eq (λ k. k) told.kind

-- the state refuses the call
abbrev pub IsRefused : Call ℕ Timed → Open ℕ → Type 0
IsRefused = calls.IsRefused nat_eq (λ k. k)

-- a call by number takes no memory in this state
abbrev pub IsFree : Call ℕ Timed → Open ℕ → Type 0
IsFree = calls.IsFree nat_eq
