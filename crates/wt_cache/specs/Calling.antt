-- What is seen of a caller.
use Rattle.wt_regions.specs.Notices.{NoticeList}
use Rattle.wt_shards.specs.Passes.{Seen}
use Rattle.wt_cache.specs.Cached.{Cached}

-- what is seen of a caller: its cache, what is seen of its pass, and the list of what left in its latest call
pub record Calling (K V : Type 0) : Type 0 where
  pub cache : Cached
  pub pass : Seen K V
  pub left : NoticeList K V
