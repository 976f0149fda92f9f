use Rattle.std.proofs.Common.{refl, ◌∙◌, arith, subst}
use Rattle.wt_regions.specs.Notices.{NoticeList}
use Rattle.wt_shards.specs.Members.{members_by}
use Rattle.wt_cache.specs.Loads.{IsRunAside, MayReturn}
use Rattle.wt_cache.proofs.Chains.{worked_counts, worked_more, worked_none}
use Rattle.wt_cache.proofs.Runs.{taken_none}
use Rattle.wt_cache.proofs.Moved.{landed_none}
use Rattle.wt_cache.proofs.cache.LoadingCache.run_worker.Goals as goal

pub returns-in_default-clause-taken : goal.returns-in_default-clause-taken
returns-in_default-clause-taken g c = taken_none _

pub returns-in_default-clause-ran : goal.returns-in_default-clause-ran
returns-in_default-clause-ran g c = worked_none _ _ _ _ _ _

pub loop-init : goal.loop-init
loop-init g c = record {
  can_next = tt;
  is_finite = tt;
  notices = refl;
  failed = omega arith;
  jobs = omega arith;
  landed = landed_none _ _;
  taken = taken_none _;
  worked = worked_none _ _ _ _ _ _;
}

pub loop-preserved : goal.loop-preserved
loop-preserved g c =
    let members = members_by g.K.PartialEq.eq g.K.CacheKey.word g.V.Weighs.measure g.V.Answers.answers in
    let returns = MayReturn g.L.Loader.may_return in
    let before = c.loop.invariant in
    let more = c.work.ensures.jobs in
    let fewer = c.if-report-ge-MOST_JOBS.false in
    let IsAside = λ (start : NoticeList g.row.K.Denot g.row.V.Denot). IsRunAside members returns c.args.self.now.layout start
    c.in-Some-next.lead c.loop.pass c.work.new.pass in
    let worked = worked_more members returns c.args.self.now.layout _ _ _ _ _ _ _ _ _ before.worked c.in-Some-next.ensures.moved
    (subst IsAside before.notices c.work.ensures.ran) in record {
      can_next = tt;
      is_finite = tt;
      notices = c.work.ensures.notices ∙ before.notices;
      failed = c.work.ensures.failed;
      jobs = omega (arith, more, fewer);
      landed = rw more (worked_counts _ _ _ _ _ _ _ _ _ worked);
      taken = rw more worked.taken;
      worked = rw more worked;
    }
