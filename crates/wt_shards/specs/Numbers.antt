-- The numbers of shards at places of their histories.
use Rattle.std.specs.Prelude.{◌≡◌, ℕ, zero, suc, ◌+◌, ◌*◌, ◌<◌, ◌≤◌, List}
use Rattle.wt_core.specs.declared.calls.Call.{Call}
use Rattle.wt_core.specs.declared.stats.Stats.{Stats}
use Rattle.wt_core.specs.Lawful.{AreSmall}
use Rattle.wt_core.specs.State.{stats_of}
use Rattle.wt_core.specs.Sums.{no_numbers, sums_of}
use Rattle.wt_shards.specs.History.{state_at}
use Rattle.wt_shards.specs.Members.{Members}
use Rattle.wt_shards.specs.Passes.{Seen, SeenMore, front_at}
use Rattle.wt_shards.specs.Place.{Layout, Place, place_of}
use Rattle.wt_shards.specs.Totals.{IsHistory}

-- as many entries at most, and as much weight
pub record AreWithin (most bound : ℕ) (t : Stats) : Type 0 where
  pub entries : t.entries ≤ most
  pub weight : t.weight ≤ bound

module _ {K V : Type 0} (members : Members K V) where
  -- the numbers of a shard that made these calls
  pub record AreNumbersOf (p : Place) (calls : List (Call K V)) (t : Stats) : Type 0 where
    pub whole : IsHistory members p calls
    pub numbers : t ≡ stats_of (state_at members p calls)
    pub looked : t.hits + t.misses ≡ t.lookups
    pub within : AreWithin p.config.entries p.config.bound t
    pub small : AreSmall t

  -- the numbers of the first shards, each after the calls that were seen of it, added up
  abbrev pub numbers_seen : Layout → Seen K V → ℕ → Stats
  numbers_seen l seen zero = no_numbers
  numbers_seen l seen (suc n) = sums_of (numbers_seen l seen n) (stats_of (state_at members (place_of n l) (front_at n seen)))

  -- what the numbers of all shards promise. `old` and `new` are what the pass shows before and after
  pub record AreSeenNumbers (l : Layout) (old new : Seen K V) (t : Stats) : Type 0 where
    -- no step is counted
    pub same : new.counts ≡ old.counts
    -- of each shard at least as much is seen as before
    pub later : SeenMore old new
    -- of each shard in use its history is seen, up to a place
    pub whole : (i : ℕ) → i < l.shards → IsHistory members (place_of i l) (front_at i new)
    -- each shard has its numbers at that place; these are their sums
    pub numbers : t ≡ numbers_seen l new l.shards
    pub looked : t.hits + t.misses ≡ t.lookups
    pub within : AreWithin (l.shards * l.config.entries) (l.shards * l.config.bound) t
