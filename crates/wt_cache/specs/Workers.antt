-- What a worker promises of the loads that it took.
use Rattle.std.specs.Prelude.{◌≡◌, ℕ, List, map, Result}
use Rattle.wt_flights.specs.Outcomes.{Leading}
use Rattle.wt_regions.specs.Notices.{NoticeList}
use Rattle.wt_shards.specs.Members.{Members}
use Rattle.wt_shards.specs.Passes.{Seen}
use Rattle.wt_shards.specs.Place.{Layout}
use Rattle.wt_cache.specs.Line.{name}
use Rattle.wt_cache.specs.Loads.{AreRun}
use Rattle.wt_cache.specs.Moves.{HasTaken}
use Rattle.wt_cache.specs.declared.line_view.LineView.{LineView}

-- `jobs` loads were taken off the line and run, in the order of the takes, and nothing else was done with the pass. `hold` and `held` are
-- the puts and takes of the line pass before and after, and `start` is the list of notices before each run
pub record HasWorked {K V : Type 0} (members : Members K V) (returns : K → Result V ℕ → Type 0) (l : Layout) (start : NoticeList K V)
    (jobs : ℕ) (hold held : LineView K) (old new : Seen K V) : Type 0 where
  -- the loads that were taken
  pub taken : HasTaken jobs hold held
  -- their leads: of these ids and keys
  pub leads : List (Leading K)
  pub named : map name leads ≡ map (λ t. t.1) taken.taken
  -- each was landed once, at the moment that its lead has here, with what its loader may return
  pub ran : AreRun members returns l start leads old new
