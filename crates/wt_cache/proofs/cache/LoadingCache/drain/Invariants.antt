use Rattle.std.proofs.Common.{◌≡◌, ◌≤◌, List}
use Rattle.wt_flights.specs.Outcomes.{Leading}
use Rattle.wt_shards.specs.Members.{members_by}
use Rattle.wt_cache.specs.Loads.{AreRun, MayReturn}
use Rattle.wt_cache.proofs.cache.LoadingCache.drain.Given as goal

abbrev pub invariant-loop : goal.invariant-loop
invariant-loop g l = record {
  can_next : (goal.iterator-loop g).can_next l.iterator';
  is_finite : (goal.iterator-loop g).is_finite l.iterator';
  same : l.aside ≡ l.initial.aside;
  ran : (leads : List (Leading g.row.K.Denot)) × AreRun (members_by g.K.PartialEq.eq g.K.CacheKey.word g.V.Weighs.measure g.V.Answers.answers)
      (MayReturn g.L.Loader.may_return) l.self.layout l.initial.aside leads l.initial.pass l.pass;
}
