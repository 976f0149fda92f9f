-- What C's peeks at a cache that threads share promise, which are no steps.
use Rattle.std.specs.Prelude.{◌≡◌, ℕ, nat_eq, Bool, true, Option, IfSome, IsNone, IsSome, Result, Ok, Err}
use Rattle.std.specs.Cmp.Lexicographic.{pointwise}
use Rattle.wt_keys.specs.Hash.{word_of_name}
use Rattle.wt_ffi.specs.Tokens.{timed_measure}
use Rattle.wt_core.specs.declared.calls.Reply.{Reply}
use Rattle.wt_core.specs.Peeks.{look_reply}
use Rattle.wt_shared.specs.Peeks.{Peeks}
use Rattle.wt_shared.specs.Shared.{View}
use Rattle.wt_shared.specs.declared.unmade.Unmade.{Unmade}
use Rattle.wt_ffi.specs.declared.answer.Answer.{Answer}
use Rattle.wt_ffi.specs.declared.shared.handle.SharedHandle.{SharedHandle}
use Rattle.wt_ffi.specs.declared.text.Text.{Text}
use Rattle.wt_ffi.specs.declared.token.Timed.{Timed}
use Rattle.wt_ffi.specs.Names.{name_of}
use Rattle.wt_ffi.specs.Sharing.{IsIdle, answer_told, names_in, number_told, numbers_in, shared_asked, shared_number_for_none, sharing_of}

-- the reply of a look that finds this, or why there is none
abbrev pub reply_told : Result (Option Timed) Unmade → Result (Reply Timed) Unmade
reply_told (Ok found) = Ok (look_reply found)
reply_told (Err why) = Err why

-- what a peek found, if keys are compared by eq and counted by their words
pub record HasFound {K : Type 0} (eq : K → K → Bool) (word : K → ℕ) (key : K) (now : ℕ) (old new : View K Timed) (before told : Answer) (result : ℕ) : Type 0 where
  -- the token that a look would hit, or none, or why there was no peek
  pub outcome : Result (Option Timed) Unmade
  -- it is what the sequential cache finds right behind all calls that the caller then has seen; a busy peek changes nothing
  pub state : Peeks eq word timed_measure true outcome key now old new
  -- the answer that a look would have, with no notice
  pub answer : told ≡ answer_told (reply_told outcome) 0 before
  pub number : result ≡ number_told (reply_told outcome)

-- a peek by number
pub record IsSharedPeek (key now : ℕ) (old new : SharedHandle) (before told : Answer) (result : ℕ) : Type 0 where
  pub state : IfSome (numbers_in old) (λ m. IfSome (numbers_in new) (λ n. HasFound nat_eq (λ k. k) key now m n before told result))
  -- an open handle stays open
  pub still : IsSome (numbers_in old) → IsSome (numbers_in new)
  -- nothing happens if the handle is closed
  pub closed : IsNone (sharing_of old) → (result ≡ 100) × IsIdle old new before told
  -- nor if its keys are names
  pub other : IsSome (names_in old) → (result ≡ 103) × IsIdle old new before told

-- a peek by name
pub record IsSharedNamePeek (key : Text) (now : ℕ) (old new : SharedHandle) (before told : Answer) (result : ℕ) : Type 0 where
  pub state : IfSome (shared_asked key old) (λ a. IfSome (names_in new) (λ n. HasFound (pointwise nat_eq) word_of_name a.name now a.caller n before told result))
  -- an open handle stays open
  pub still : IsSome (names_in old) → IsSome (names_in new)
  -- nothing happens if the name is too long, the handle closed or its keys numbers
  pub unasked : IsNone (shared_asked key old) → (result ≡ shared_number_for_none (name_of key) (sharing_of old)) × IsIdle old new before told
