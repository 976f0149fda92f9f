-- One slide more.
use Rattle.std.proofs.Common.{◌≡◌, ℕ, suc, ◌+◌, Bool, refl, arith}
use Rattle.wt_regions.specs.declared.weighs.Measure.{Measure}
use Rattle.wt_core.specs.State.{State}
use Rattle.wt_adviser.specs.Follow.{slid_by, slid_towards}

module _ {K V : Type 0} (eq : K → K → Bool) (word : K → ℕ) (measure : V → Measure) (want now : ℕ) (s : State K V) where
  -- no slide changes nothing
  pub slid-none : slid_by eq word measure 0 want now s ≡ s
  unfolding slid_by
  slid-none = refl

  -- one more is the last
  pub slid-more : (n : ℕ) → slid_by eq word measure (n + 1) want now s ≡ slid_towards eq word measure want now (slid_by eq word measure n want now s)
  unfolding slid_by
  slid-more n = let one : n + 1 ≡ suc n = omega arith in λ i. slid_by eq word measure (one i) want now s
