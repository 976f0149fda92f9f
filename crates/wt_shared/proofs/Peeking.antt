-- What was found behind the whole history, and what its caller sees of it.
use Rattle.std.proofs.Common.{◌≡◌, ℕ, Bool, List, Option, Some, None, Result, Ok, Err, ap, sym, subst, ◌∙◌}
use mathlib.Core.List.{IsPrefix}
use Rattle.wt_regions.specs.declared.notices.Notice.{Notice}
use Rattle.wt_regions.specs.declared.weighs.Measure.{Measure}
use Rattle.wt_core.specs.declared.calls.Call.{Call}
use Rattle.wt_core.specs.declared.config.Config.{Config}
use Rattle.wt_core.specs.State.{State}
use Rattle.wt_history.specs.Logged.{Logged}
use Rattle.wt_shared.specs.declared.kept.Kept.{Kept}
use Rattle.wt_shared.specs.declared.known.Known.{Known}
use Rattle.wt_shared.specs.declared.unmade.Unmade.{Unmade}
use Rattle.wt_shared.specs.declared.unmade.Unmade.TheVariants.{Busy, NoMemory, Lost}
use Rattle.wt_shared.specs.Peeks.{Finds, IsFound, IsPeeked, IsRead, Peeks}
use Rattle.wt_shared.specs.Shared.{IsKept, state_after}

module _ {K V : Type 0} (eq : K → K → Bool) (word : K → ℕ) (measure : V → Measure) (copied : Bool) where
  -- what was found is found behind all that the caller then has seen
  peeked : (known known' : Known K V) (n n' : ℕ) (left left' : List (Notice K V)) (key : K) (now : ℕ) (kept : Kept K V) (found : Option (Option V))
      → IsKept eq word measure known kept → IsRead eq word measure copied known key now kept found
      → known'.config ≡ known.config → known'.seen ≡ kept.log → n' ≡ n → left' ≡ left
      → IsPeeked eq word measure copied key now (record { known = known; number = n; left = left }) (record { known = known'; number = n'; left = left' }) found
  peeked known known' n n' left left' key now kept found whole read config seen number is =
      let at : kept.core ≡ state_after eq word measure known'.config known'.seen.entries =
      whole.state ∙ ap (λ (c : Config). state_after eq word measure c kept.log.entries) (sym config)
      ∙ ap (λ (t : Logged (Call K V)). state_after eq word measure known'.config t.entries) (sym seen) in
      record {
        seen = subst (λ (t : Logged (Call K V)). IsPrefix known.seen.entries t.entries) (sym seen) read.before;
        look = subst (λ (s : State K V). IsFound eq word measure copied key now s found) at read.look;
        number = number;
        left = is;
        config = config;
        book = ap (λ (t : Logged (Call K V)). t.book) seen ∙ whole.book;
      }

  -- the same, by what was returned
  pub peeks : (known known' : Known K V) (n n' : ℕ) (left left' : List (Notice K V)) (key : K) (now : ℕ) (kept : Kept K V) (found : Result (Option V) Unmade)
      → IsKept eq word measure known kept → Finds eq word measure copied found known key now kept
      → known'.config ≡ known.config → known'.seen ≡ kept.log → n' ≡ n → left' ≡ left
      → Peeks eq word measure copied found key now (record { known = known; number = n; left = left }) (record { known = known'; number = n'; left = left' })
  peeks known known' n n' left left' key now kept (Ok found) whole read config seen number is =
      peeked known known' n n' left left' key now kept (Some found) whole read config seen number is
  peeks known known' n n' left left' key now kept (Err NoMemory) whole read config seen number is =
      peeked known known' n n' left left' key now kept None whole read config seen number is
  peeks known known' n n' left left' key now kept (Err Busy) whole read config seen number is = absurd read
  peeks known known' n n' left left' key now kept (Err Lost) whole read config seen number is = tt
