-- Which values the calls at a place of a history hit.
use Rattle.std.specs.Prelude.{ℕ, Bool}
use Rattle.wt_regions.specs.declared.weighs.Measure.{Measure}
use Rattle.wt_core.specs.declared.calls.Call.TheVariants.{Look, Seek}
use Rattle.wt_core.specs.Run.{taken}
use Rattle.wt_core.specs.State.{State}
use Rattle.wt_core.specs.Step.{step}
use Rattle.wt_shards.specs.Served.{HitsOnly}

module _ {K V : Type 0} (eq : K → K → Bool) (word : K → ℕ) (measure : V → Measure) where
  -- in this state a look, a seek and a peek of the key hit no value but one of which this holds
  pub record ServesOnly (P : V → Type 0) (s : State K V) (k : K) (now : ℕ) : Type 0 where
    pub look : HitsOnly P (taken eq word measure s (Look k now)).reply
    pub seek : HitsOnly P (taken eq word measure s (Seek k now)).reply
    -- a peek finds what a look would be answered, even where the look is refused
    pub peek : HitsOnly P (step eq word measure s (Look k now)).reply
