-- What a caller is told of a load that it ran itself: by the ticket that knows the outcome.
use Rattle.std.proofs.Common.{◌≡◌, ◌∙◌, ℕ, Bool, true, false, refl, ap, inl, inr}
use Rattle.std.specs.Prelude.{Result, Ok, Err, IsErrAnd, IsTrue, if◌then◌else◌}
use Rattle.wt_keys.specs.declared.fault.Fault.{Fault}
use Rattle.wt_keys.specs.declared.fault.Fault.TheVariants.{NoMemory, Mixed}
use Rattle.wt_flights.specs.Outcomes.{AnswersKey, is_error, refusal_of}
use Rattle.wt_cache.specs.Loads.{IsToldOf, outcome_of, value_in}

module _ {K V R : Type 0} (answers : V → K → Bool) (key : K) where
  -- the outcome, if the load was landed
  pub told_value : (loaded : Result V ℕ) (landed : Result R Fault) (done : R) (told : Result V Fault)
      → landed ≡ Ok done → told ≡ value_in (outcome_of loaded) → IsToldOf loaded landed told
  told_value (Ok value) (Ok d) done told is tells = inl tells
  told_value (Err code) (Ok d) done told is tells = tells
  told_value loaded (Err f) done told is tells = absurd (cc is)

  -- or that the share of its value was refused
  pub told_refusal : (loaded : Result V ℕ) (landed : Result R Fault) (done : R) (told : Result V Fault) (f : Fault)
      → landed ≡ Ok done → AnswersKey answers key (outcome_of loaded) → f ≡ refusal_of answers key (outcome_of loaded)
      → (IsTrue (is_error (outcome_of loaded)) → ⊥) → IsErrAnd told (λ g. g ≡ f) → IsToldOf loaded landed told
  told_refusal (Ok value) (Ok d) done (Err g) f is fits why fails tells =
      inr (ap (λ h. Err h) (tells ∙ (why ∙ ap (λ b. if b then NoMemory else Mixed) fits)))
  told_refusal (Ok value) (Ok d) done (Ok v) f is fits why fails tells = absurd tells
  told_refusal (Err code) (Ok d) done told f is fits why fails tells = absurd (fails refl)
  told_refusal loaded (Err g) done told f is fits why fails tells = absurd (cc is)
