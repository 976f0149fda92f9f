-- What C is told of a call.
use Rattle.std.specs.Prelude.{IsSome, ℕ, ◌==◌, Bool, true, if◌then◌else◌, length}
use Rattle.wt_keys.specs.Faults.{fault_number}
use Rattle.wt_ffi.specs.Tokens.{timed_measure}
use Rattle.wt_regions.specs.Notices.{appended, emptied}
use Rattle.wt_core.specs.declared.calls.Call.{Call}
use Rattle.wt_core.specs.declared.calls.Call.TheVariants as call
use Rattle.wt_core.specs.declared.calls.Land.TheVariants as land
use Rattle.wt_core.specs.declared.calls.Reply.{Reply}
use Rattle.wt_core.specs.declared.calls.Reply.TheVariants.{Hit, Absent, HitLead, Join, Lead, Kept, Loose, Failed, Gone, Stored, Dropped, Cleared, Forgot, Cleaned, Slid, Refused}
use Rattle.wt_core.specs.State.{Made}
use Rattle.wt_core.specs.Run.{taken}
use Rattle.wt_core.specs.Step.{refusal_of}
use Rattle.wt_core.specs.Landings.{TakesNone}
use Rattle.wt_ffi.specs.declared.token.Timed.{Timed}
use Rattle.wt_ffi.specs.declared.answer.Answer.{Answer}
use Rattle.wt_ffi.specs.Open.{Open}

-- the put of this value, by its key and its moment
abbrev pub put : {K : Type 0} → Timed → K → ℕ → Call K Timed
put value key now = call.Put key value now

-- the end of this load with a value, by its key and its moment
abbrev pub keep : {K : Type 0} → ℕ → Timed → K → ℕ → Call K Timed
keep id value key now = call.Land id key (land.Keep value) now

-- the end of this load with a value that isn't stored, by its key and its moment
abbrev pub loose : {K : Type 0} → ℕ → K → ℕ → Call K Timed
loose id key now = call.Land id key land.Loose now

-- the end of this load without a value, by its key and its moment
abbrev pub failed : {K : Type 0} → ℕ → K → ℕ → Call K Timed
failed id key now = call.Land id key land.Failed now

-- 1 for true
abbrev pub bit : Bool → ℕ
bit b = if b then 1 else 0

-- an answer with no token
abbrev pub plain : ℕ → ℕ → ℕ → Answer
plain kind number notices = record { kind = kind; weight = 0; token = 0; number = number; notices = notices }

-- an answer with a token
abbrev pub hit : ℕ → Timed → ℕ → ℕ → Answer
hit kind v number notices = record { kind = kind; weight = v.weight; token = v.token; number = number; notices = notices }

-- the answer that tells a reply and the number of its notices
abbrev pub answer_of : Reply Timed → ℕ → Answer
answer_of (Hit v) n = hit 1 v 0 n
answer_of Absent n = plain 2 0 n
answer_of (HitLead v id) n = hit 3 v id n
answer_of (Join id) n = plain 4 id n
answer_of (Lead id) n = plain 5 id n
answer_of (Kept sharers) n = plain 6 sharers n
answer_of (Loose sharers) n = plain 7 sharers n
answer_of (Failed sharers) n = plain 8 sharers n
answer_of Gone n = plain 9 0 n
answer_of Stored n = plain 10 0 n
answer_of (Dropped was) n = plain 11 (bit was) n
answer_of Cleared n = plain 12 0 n
answer_of (Forgot was) n = plain 13 (bit was) n
answer_of Cleaned n = plain 14 0 n
answer_of (Refused f) n = plain 15 (fault_number f) n
answer_of (Slid moved) n = plain 16 (bit moved) n

-- the number of a reply's fault, or 0
abbrev pub number_of : Reply Timed → ℕ
number_of (Refused f) = fault_number f
number_of _ = 0

-- the cache with no notices
abbrev pub quiet : {K : Type 0} → Open K → Open K
quiet c = record { core = c.core; notices = emptied c.notices }

-- keys are compared by eq, and counted by their words
module _ {K : Type 0} (eq : K → K → Bool) (word : K → ℕ) where
  -- what the definition makes of a call
  abbrev pub made_of : Call K Timed → Open K → Made K Timed
  made_of call c = taken eq word timed_measure c.core call

  -- the definition's state after the call, with the notices of this call alone
  abbrev pub called : Call K Timed → Open K → Open K
  called call c = let made = made_of call c in record { core = made.state; notices = appended made.notices (emptied c.notices) }

  -- the cache after a call, by the kind of its answer: if that is 0, memory was refused and the notices alone are gone
  abbrev pub after : ℕ → Call K Timed → Open K → Open K
  after kind call c = if kind == 0 then quiet c else called call c

  -- the number that the call returns: 1 if memory was refused, else that of the reply's fault, or 0
  abbrev pub number_after : ℕ → Call K Timed → Open K → ℕ
  number_after kind call c = if kind == 0 then 1 else number_of (made_of call c).reply

  -- the answer that C reads
  abbrev pub answer_after : ℕ → Call K Timed → Open K → Answer
  answer_after kind call c = if kind == 0 then plain 0 1 0 else answer_of (made_of call c).reply (length (made_of call c).notices)

  -- the state refuses the call
  abbrev pub IsRefused : Call K Timed → Open K → Type 0
  IsRefused call c = IsSome (refusal_of eq word timed_measure c.core call)

-- the call takes no memory in this state: a share of a token is a copy
abbrev pub IsFree : {K : Type 0} → (K → K → Bool) → Call K Timed → Open K → Type 0
IsFree eq call c = TakesNone true eq timed_measure c.core call
