-- What a caller's reads promise.
use Rattle.std.specs.Prelude.{◌≡◌, ℕ, Option, Result}
use Rattle.wt_keys.specs.declared.fault.Fault.{Fault}
use Rattle.wt_regions.specs.Notices.{emptied}
use Rattle.wt_core.specs.declared.stats.Stats.{Stats}
use Rattle.wt_shards.specs.Members.{Members}
use Rattle.wt_shards.specs.Numbers.{AreSeenNumbers}
use Rattle.wt_shards.specs.Peeks.{IsHomePeek}
use Rattle.wt_shards.specs.Place.{home_at}
use Rattle.wt_shards.specs.Tells.{IsHomeRead}
use Rattle.wt_cache.specs.Calling.{Calling}

-- what a caller's peek promises: that of the cache, with its pass
pub record IsLentPeek {K V : Type 0} (members : Members K V) (key : K) (now : ℕ)
    (old new : Calling K V) (result : Result (Option V) Fault) : Type 0 where
  -- the peek at the key's shard
  pub made : IsHomePeek members (home_at members.word key old.cache.layout) key now old.pass new.pass result
  -- the caller's cache and its own list are the same
  pub same : (new.cache ≡ old.cache) × (new.left ≡ old.left)

-- what a caller's read promises: that of the cache, with its pass and with its list, which is emptied first
pub record IsLentRead {K V : Type 0} (members : Members K V) (key : K) (now : ℕ)
    (old new : Calling K V) (result : Result (Option V) Fault) : Type 0 where
  -- the read at the key's shard
  pub made : IsHomeRead members (home_at members.word key old.cache.layout) key now old.pass new.pass (emptied old.left) new.left result
  -- the caller's cache is the same
  pub same : new.cache ≡ old.cache

-- what a caller's numbers promise: those of the cache, with its pass
pub record AreLentNumbers {K V : Type 0} (members : Members K V) (old new : Calling K V) (t : Stats) : Type 0 where
  -- the numbers of all shards
  pub made : AreSeenNumbers members old.cache.layout old.pass new.pass t
  -- the caller's cache and its own list are the same
  pub same : (new.cache ≡ old.cache) × (new.left ≡ old.left)
