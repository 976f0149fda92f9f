-- What C is told of a call if keys are names.
use Rattle.std.specs.Prelude.{ℕ, nat_eq, List}
use Rattle.std.specs.Cmp.Lexicographic.{pointwise}
use Rattle.wt_keys.specs.Hash.{word_of_name}
use Rattle.wt_core.specs.declared.calls.Call.{Call}
use Rattle.wt_ffi.specs.declared.token.Timed.{Timed}
use Rattle.wt_ffi.specs.declared.answer.Answer.{Answer}
use Rattle.wt_ffi.specs.Calls as calls
use Rattle.wt_ffi.specs.Open.{Open}

-- the cache after a call by name with this answer
abbrev pub after : Answer → Call (List ℕ) Timed → Open (List ℕ) → Open (List ℕ)
after told = calls.after (pointwise nat_eq) word_of_name told.kind

-- the number that a call by name with this answer returns
abbrev pub number_after : Answer → Call (List ℕ) Timed → Open (List ℕ) → ℕ
number_after told = calls.number_after (pointwise nat_eq) word_of_name told.kind

-- the answer of a call by name, by its kind
abbrev pub answer_after : Answer → Call (List ℕ) Timed → Open (List ℕ) → Answer
answer_after told = calls.answer_after (pointwise nat_eq) word_of_name told.kind

-- the state refuses the call
abbrev pub IsRefused : Call (List ℕ) Timed → Open (List ℕ) → Type 0
IsRefused = calls.IsRefused (pointwise nat_eq) word_of_name

-- a call by name takes no memory in this state
abbrev pub IsFree : Call (List ℕ) Timed → Open (List ℕ) → Type 0
IsFree = calls.IsFree (pointwise nat_eq)
