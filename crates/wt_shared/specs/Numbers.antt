-- What a read of a shared cache's numbers promises, which is no step.
use Rattle.std.specs.Prelude.{◌≡◌, ℕ, Bool, length, Result, Ok, Err}
use mathlib.Core.List.{IsPrefix}
use Rattle.wt_regions.specs.declared.weighs.Measure.{Measure}
use Rattle.wt_core.specs.Lawful.{IsLawful}
use Rattle.wt_core.specs.State.{State, stats_of}
use Rattle.wt_shared.specs.declared.kept.Kept.{Kept}
use Rattle.wt_shared.specs.declared.known.Known.{Known}
use Rattle.wt_shared.specs.declared.numbers.Numbers.{Numbers}
use Rattle.wt_shared.specs.declared.unmade.Unmade.{Unmade}
use Rattle.wt_shared.specs.declared.unmade.Unmade.TheVariants.{Busy, NoMemory, Lost}
use Rattle.wt_shared.specs.Shared.{View, state_after}

-- the numbers of a cache in this state
abbrev pub numbers_of : {K V : Type 0} → State K V → Numbers
numbers_of s = record { stats = stats_of s; step = s.step; latest = s.latest; flights = length s.flights.rows }

-- keys are compared by eq and counted by their words; a value has a measure
module _ {K V : Type 0} (eq : K → K → Bool) (word : K → ℕ) (measure : V → Measure) where
  -- the numbers of what is shared, behind its whole history
  pub record IsRead (known : Known K V) (kept : Kept K V) (numbers : Numbers) : Type 0 where
    pub before : IsPrefix known.seen.entries kept.log.entries
    pub answer : numbers ≡ numbers_of kept.core
    pub lawful : IsLawful eq measure kept.core

  -- the same, by what is returned
  abbrev pub Reads : Result Numbers Unmade → Known K V → Kept K V → Type 0
  Reads (Ok numbers) known kept = IsRead known kept numbers
  Reads (Err NoMemory) known kept = ⊥
  Reads (Err Busy) known kept = ⊥
  Reads (Err Lost) known kept = Unit {0}

  -- the numbers are those right behind all calls that the caller has then seen
  pub record AreShown (old new : View K V) (numbers : Numbers) : Type 0 where
    -- these are at least those that it had seen before
    pub seen : IsPrefix old.known.seen.entries new.known.seen.entries
    pub answer : numbers ≡ numbers_of (state_after eq word measure new.known.config new.known.seen.entries)
    -- what holds of a cache at all times
    pub lawful : IsLawful eq measure (state_after eq word measure new.known.config new.known.seen.entries)
    -- the latest call is that of before, with its notices
    pub number : new.number ≡ old.number
    pub left : new.left ≡ old.left
    -- it is the same cache
    pub config : new.known.config ≡ old.known.config
    pub book : new.known.seen.book ≡ old.known.seen.book

  -- what becomes of the read, by what it returns: it takes no memory, and of a cache that is lost nothing is said
  abbrev pub Shows : Result Numbers Unmade → View K V → View K V → Type 0
  Shows (Ok numbers) old new = AreShown old new numbers
  Shows (Err NoMemory) old new = ⊥
  Shows (Err Busy) old new = new ≡ old
  Shows (Err Lost) old new = Unit {0}
