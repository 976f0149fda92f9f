-- A window that follows the advice.
use Rattle.std.specs.Prelude.{ℕ, zero, suc, ◌==◌, nat_lt, Bool, if◌then◌else◌}
use Rattle.wt_regions.specs.declared.weighs.Measure.{Measure}
use Rattle.wt_core.specs.declared.calls.Call.TheVariants.{Slide}
use Rattle.wt_core.specs.Run.{taken}
use Rattle.wt_core.specs.State.{State}

module _ {K V : Type 0} (eq : K → K → Bool) (word : K → ℕ) (measure : V → Measure) where
  -- after a slide towards the window that is wanted, unless it is that wide
  unfoldable pub slid_towards : ℕ → ℕ → State K V → State K V
  slid_towards wanted now s =
      if s.regions.caps.window == wanted then s
      else (taken eq word measure s (Slide (nat_lt s.regions.caps.window wanted) now)).state

  -- after so many of them
  unfoldable pub slid_by : ℕ → ℕ → ℕ → State K V → State K V
  slid_by zero wanted now s = s
  slid_by (suc n) wanted now s = slid_towards wanted now (slid_by n wanted now s)
