-- What a peek at a shared cache promises, which is no step.
use Rattle.std.specs.Prelude.{◌≡◌, ℕ, max, Bool, false, Option, Some, None, IfSome, IsSome, IsTrue, Result, Ok, Err}
use mathlib.Core.List.{IsPrefix}
use Rattle.wt_regions.specs.declared.weighs.Measure.{Measure}
use Rattle.wt_regions.specs.Lists.{has_at}
use Rattle.wt_core.specs.declared.calls.Call.TheVariants.{Look}
use Rattle.wt_core.specs.Peeks.{look_reply}
use Rattle.wt_core.specs.State.{State}
use Rattle.wt_core.specs.Step.{step}
use Rattle.wt_shared.specs.declared.kept.Kept.{Kept}
use Rattle.wt_shared.specs.declared.known.Known.{Known}
use Rattle.wt_shared.specs.declared.unmade.Unmade.{Unmade}
use Rattle.wt_shared.specs.declared.unmade.Unmade.TheVariants.{Busy, NoMemory, Lost}
use Rattle.wt_shared.specs.Shared.{View, state_after}

-- keys are compared by eq and counted by their words; a value has a measure; a share of a value is a copy, or may take memory
module _ {K V : Type 0} (eq : K → K → Bool) (word : K → ℕ) (measure : V → Measure) (copied : Bool) where
  -- what was found in this state, by a look that isn't made; or memory was refused
  pub record IsFound (key : K) (now : ℕ) (s : State K V) (found : Option (Option V)) : Type 0 where
    -- what a look would be answered
    pub answer : IfSome found (λ value. look_reply value ≡ (step eq word measure s (Look key now)).reply)
    -- only a share takes memory, and none if it is a copy
    pub miss_succeeds : has_at eq key (max s.latest now) s.regions ≡ false → IsSome found
    pub copied_succeeds : IsTrue copied → IsSome found

  -- what was found in what is shared, behind its whole history
  pub record IsRead (known : Known K V) (key : K) (now : ℕ) (kept : Kept K V) (found : Option (Option V)) : Type 0 where
    pub before : IsPrefix known.seen.entries kept.log.entries
    pub look : IsFound key now kept.core found

  -- the same, by what is returned
  abbrev pub Finds : Result (Option V) Unmade → Known K V → K → ℕ → Kept K V → Type 0
  Finds (Ok found) known key now kept = IsRead known key now kept (Some found)
  Finds (Err NoMemory) known key now kept = IsRead known key now kept None
  Finds (Err Busy) known key now kept = ⊥
  Finds (Err Lost) known key now kept = Unit {0}

  -- a peek finds what a look would be answered right behind all calls that its caller has then seen; or memory was refused
  pub record IsPeeked (key : K) (now : ℕ) (old new : View K V) (found : Option (Option V)) : Type 0 where
    -- these are at least those that it had seen before
    pub seen : IsPrefix old.known.seen.entries new.known.seen.entries
    pub look : IsFound key now (state_after eq word measure new.known.config new.known.seen.entries) found
    -- the latest call is that of before, with its notices
    pub number : new.number ≡ old.number
    pub left : new.left ≡ old.left
    -- it is the same cache
    pub config : new.known.config ≡ old.known.config
    pub book : new.known.seen.book ≡ old.known.seen.book

  -- what becomes of a peek, by what it returns; of a cache that is lost nothing is said
  abbrev pub Peeks : Result (Option V) Unmade → K → ℕ → View K V → View K V → Type 0
  Peeks (Ok found) key now old new = IsPeeked key now old new (Some found)
  Peeks (Err NoMemory) key now old new = IsPeeked key now old new None
  Peeks (Err Busy) key now old new = new ≡ old
  Peeks (Err Lost) key now old new = Unit {0}
