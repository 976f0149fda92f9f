-- What became of a call on a shared cache, of a peek, and of a reading of its numbers.
use Rattle.std.proofs.Common.{◌≡◌, ℕ, Bool, true, length, Option, Result, ap, ◌∙◌}
use Rattle.wt_ffi.specs.Tokens.{timed_measure}
use Rattle.wt_core.specs.declared.calls.Call.{Call}
use Rattle.wt_core.specs.declared.calls.Reply.{Reply}
use Rattle.wt_shared.specs.Numbers.{Shows}
use Rattle.wt_shared.specs.Peeks.{Peeks}
use Rattle.wt_shared.specs.Shared.{View, Becomes}
use Rattle.wt_shared.specs.declared.numbers.Numbers.{Numbers as Shown}
use Rattle.wt_shared.specs.declared.unmade.Unmade.{Unmade}
use Rattle.wt_ffi.specs.declared.answer.Answer.{Answer}
use Rattle.wt_ffi.specs.declared.shows.Numbers.{Numbers}
use Rattle.wt_ffi.specs.declared.token.Timed.{Timed}
use Rattle.wt_ffi.specs.SharedNumbers.{AreTold, fault_told, numbers_told}
use Rattle.wt_ffi.specs.SharedPeeks.{HasFound, reply_told}
use Rattle.wt_ffi.specs.Sharing.{HasOutcome, answer_told, number_told}

-- an outcome that is told with the number of notices that the caller has then
pub has_outcome : {K : Type 0} (eq : K → K → Bool) (word : K → ℕ) (call : Call K Timed) (old new : View K Timed) (before told : Answer) (result left : ℕ)
    (outcome : Result (Reply Timed) Unmade) → Becomes eq word timed_measure true outcome call old new
    → told ≡ answer_told outcome left before → left ≡ length new.left → result ≡ number_told outcome
    → HasOutcome eq word call old new before told result
has_outcome eq word call old new before told result left outcome state answer count number = record {
  outcome = outcome;
  state = state;
  answer = answer ∙ ap (λ (n : ℕ). answer_told outcome n before) count;
  number = number;
}

-- what was found, told as the reply of a look
pub has_found : {K : Type 0} (eq : K → K → Bool) (word : K → ℕ) (key : K) (now : ℕ) (old new : View K Timed) (before told : Answer) (result : ℕ)
    (found : Result (Option Timed) Unmade) (reply : Result (Reply Timed) Unmade) → Peeks eq word timed_measure true found key now old new
    → reply ≡ reply_told found → told ≡ answer_told reply 0 before → result ≡ number_told reply
    → HasFound eq word key now old new before told result
has_found eq word key now old new before told result found reply state is answer number = record {
  outcome = found;
  state = state;
  answer = answer ∙ ap (λ (r : Result (Reply Timed) Unmade). answer_told r 0 before) is;
  number = number ∙ ap number_told is;
}

-- what was read, told as numbers
pub are_told : {K : Type 0} (eq : K → K → Bool) (word : K → ℕ) (old new : View K Timed) (before told : Numbers) (result : ℕ)
    (shown : Result Shown Unmade) → Shows eq word timed_measure shown old new
    → told ≡ numbers_told shown before → result ≡ fault_told shown
    → AreTold eq word old new before told result
are_told eq word old new before told result shown state answer number = record {
  outcome = shown;
  state = state;
  answer = answer;
  number = number;
}
