use Rattle.std.proofs.Common.{◌≡◌, ◌^◌, ◌≤◌}
use Rattle.wt_shards.specs.Members.{members_by}
use Rattle.wt_cache.specs.Loads.{MayReturn}
use Rattle.wt_cache.specs.Moves.{HasLanded, HasTaken}
use Rattle.wt_cache.specs.Workers.{HasWorked}
use Rattle.wt_cache.proofs.cache.LoadingCache.run_worker.Given as goal

abbrev pub invariant-loop : goal.invariant-loop
invariant-loop g l = record {
  can_next : (goal.iterator-loop g).can_next l.iterator';
  is_finite : (goal.iterator-loop g).is_finite l.iterator';
  notices : l.notices ≡ l.initial.notices;
  failed : l.report.failed ≤ l.report.jobs;
  jobs : l.report.jobs ≤ 2 ^ 40;
  landed : HasLanded l.report.jobs l.initial.pass.counts l.pass.counts;
  taken : HasTaken l.report.jobs l.initial.line_pass l.line_pass;
  worked : HasWorked (members_by g.K.PartialEq.eq g.K.CacheKey.word g.V.Weighs.measure g.V.Answers.answers)
      (MayReturn g.L.Loader.may_return) l.self.layout l.initial.notices l.report.jobs l.initial.line_pass l.line_pass l.initial.pass l.pass;
}
