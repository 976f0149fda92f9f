-- What is true of the calls that a caller has seen.
use Rattle.std.specs.Prelude.{◌≡◌, ℕ, ◌+◌, Bool, List, ◌∷◌, ◌++◌, None, IfSome}
use Rattle.wt_regions.specs.declared.weighs.Measure.{Measure}
use Rattle.wt_core.specs.declared.calls.Call.{Call}
use Rattle.wt_core.specs.declared.calls.Call.TheVariants.{Land, Put}
use Rattle.wt_core.specs.declared.calls.Land.{Land as Landing}
use Rattle.wt_core.specs.declared.config.Config.{Config}
use Rattle.wt_core.specs.Laws.{HasOneCurrent, IsLandedOnce, joins, sharers_told}
use Rattle.wt_core.specs.Lawful.{IsLawful}
use Rattle.wt_core.specs.Run.{taken}
use Rattle.wt_core.specs.Stale.{StaleIsUnstored}
use Rattle.wt_core.specs.State.{opening}
use Rattle.wt_core.specs.Step.{refusal_of}
use Rattle.wt_shards.specs.Brought.{IsFresh}
use Rattle.wt_shards.specs.Served.{IsBroughtYoung}
use Rattle.wt_shared.specs.Served.{ServesOnly}
use Rattle.wt_shared.specs.Shared.{state_after}

-- keys are compared by eq and counted by their words; a value has a measure
module _ {K V : Type 0} (eq : K → K → Bool) (word : K → ℕ) (measure : V → Measure) where
  -- what is true of these calls, as of every run of a cache that was empty before
  pub record IsRun (config : Config) (calls : List (Call K V)) : Type 0 where
    -- a key has at most one current load behind them
    pub current : HasOneCurrent eq word measure (opening config) calls
    -- an id is opened at most once among them, and is then open or landed once
    pub landed : (id : ℕ) → IsLandedOnce eq word measure (opening config) calls id
    -- a landing among them tells of the lead and of each of them that joins the load
    pub shared : (before after : List (Call K V)) (id : ℕ) (k : K) (what : Landing V) (now : ℕ)
        → before ++ Land id k what now ∷ after ≡ calls
        → IfSome (sharers_told (taken eq word measure (state_after eq word measure config before) (Land id k what now)).reply) (λ n. n ≡ joins eq word measure id (opening config) calls + 1)
    -- a load that a seek behind them opens, and that a later call makes stale, lands without being stored
    pub stale : StaleIsUnstored eq word measure (state_after eq word measure config calls)
    -- at each place among them, and behind them, no value of a key is hit but one that the calls before brought for it, not too long ago
    pub young : (before after : List (Call K V)) (k : K) (now : ℕ) → before ++ after ≡ calls
        → ServesOnly eq word measure (IsBroughtYoung eq word measure config before k now) (state_after eq word measure config before) k now
    -- behind a put of the key among them no other value is hit but one that calls between brought for the key, if the put wasn't refused
    pub own : (before between after : List (Call K V)) (k : K) (v : V) (now later : ℕ) → (before ++ Put k v now ∷ between) ++ after ≡ calls
        -- as each call says of its place
        → IsLawful eq measure (state_after eq word measure config before)
        → refusal_of eq word measure (state_after eq word measure config before) (Put k v now) ≡ None
        → ServesOnly eq word measure (IsFresh eq word measure config before (Put k v now) between k) (state_after eq word measure config (before ++ Put k v now ∷ between)) k later
