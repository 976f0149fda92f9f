-- What was read behind the whole history, and what its caller sees of it.
use Rattle.std.proofs.Common.{◌≡◌, ℕ, Bool, List, Result, Ok, Err, ap, sym, subst, ◌∙◌}
use mathlib.Core.List.{IsPrefix}
use Rattle.wt_regions.specs.declared.notices.Notice.{Notice}
use Rattle.wt_regions.specs.declared.weighs.Measure.{Measure}
use Rattle.wt_core.specs.declared.calls.Call.{Call}
use Rattle.wt_core.specs.declared.config.Config.{Config}
use Rattle.wt_core.specs.Lawful.{IsLawful}
use Rattle.wt_core.specs.State.{State}
use Rattle.wt_history.specs.Logged.{Logged}
use Rattle.wt_shared.specs.declared.kept.Kept.{Kept}
use Rattle.wt_shared.specs.declared.known.Known.{Known}
use Rattle.wt_shared.specs.declared.numbers.Numbers.{Numbers}
use Rattle.wt_shared.specs.declared.unmade.Unmade.{Unmade}
use Rattle.wt_shared.specs.declared.unmade.Unmade.TheVariants.{Busy, NoMemory, Lost}
use Rattle.wt_shared.specs.Numbers.{AreShown, IsRead, Reads, Shows, numbers_of}
use Rattle.wt_shared.specs.Shared.{IsKept, state_after}

module _ {K V : Type 0} (eq : K → K → Bool) (word : K → ℕ) (measure : V → Measure) where
  -- what was read is the outcome of all that the caller then has seen
  shown : (known known' : Known K V) (n n' : ℕ) (left left' : List (Notice K V)) (kept : Kept K V) (numbers : Numbers)
      → IsKept eq word measure known kept → IsRead eq word measure known kept numbers
      → known'.config ≡ known.config → known'.seen ≡ kept.log → n' ≡ n → left' ≡ left
      → AreShown eq word measure (record { known = known; number = n; left = left }) (record { known = known'; number = n'; left = left' }) numbers
  shown known known' n n' left left' kept numbers whole read config seen number is =
      let at : kept.core ≡ state_after eq word measure known'.config known'.seen.entries =
      whole.state ∙ ap (λ (c : Config). state_after eq word measure c kept.log.entries) (sym config)
      ∙ ap (λ (t : Logged (Call K V)). state_after eq word measure known'.config t.entries) (sym seen) in
      record {
        seen = subst (λ (t : Logged (Call K V)). IsPrefix known.seen.entries t.entries) (sym seen) read.before;
        answer = subst (λ (s : State K V). numbers ≡ numbers_of s) at read.answer;
        lawful = subst (IsLawful eq measure) at read.lawful;
        number = number;
        left = is;
        config = config;
        book = ap (λ (t : Logged (Call K V)). t.book) seen ∙ whole.book;
      }

  -- the same, by what was returned
  pub shows : (known known' : Known K V) (n n' : ℕ) (left left' : List (Notice K V)) (kept : Kept K V) (numbers : Result Numbers Unmade)
      → IsKept eq word measure known kept → Reads eq word measure numbers known kept
      → known'.config ≡ known.config → known'.seen ≡ kept.log → n' ≡ n → left' ≡ left
      → Shows eq word measure numbers (record { known = known; number = n; left = left }) (record { known = known'; number = n'; left = left' })
  shows known known' n n' left left' kept (Ok numbers) whole read config seen number is =
      shown known known' n n' left left' kept numbers whole read config seen number is
  shows known known' n n' left left' kept (Err NoMemory) whole read config seen number is = absurd read
  shows known known' n n' left left' kept (Err Busy) whole read config seen number is = absurd read
  shows known known' n n' left left' kept (Err Lost) whole read config seen number is = tt
