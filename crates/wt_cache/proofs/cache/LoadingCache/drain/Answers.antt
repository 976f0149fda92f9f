use Rattle.std.proofs.Common.{[], ◌∷◌, ◌++◌, ◌∙◌, ap, refl, subst}
use Rattle.wt_regions.specs.Notices.{NoticeList}
use Rattle.wt_shards.specs.Members.{members_by}
use Rattle.wt_cache.specs.Loads.{IsRunAside, MayReturn}
use Rattle.wt_cache.proofs.Chains.{run_after}
use Rattle.wt_cache.proofs.Runs.{emptied_back}
use Rattle.wt_cache.proofs.cache.LoadingCache.drain.Goals as goal

pub loop-init : goal.loop-init
loop-init g c = record { can_next = tt; is_finite = tt; same = refl; ran = ([], refl) }

pub loop-preserved : goal.loop-preserved
loop-preserved g c =
    let members = members_by g.K.PartialEq.eq g.K.CacheKey.word g.V.Weighs.measure g.V.Answers.answers in
    let returns = MayReturn g.L.Loader.may_return in
    let before = c.loop.invariant in
    let made = c.run.ensures.made in
    let lead = c.in-Some-take.lead in
    let IsAside = λ (start : NoticeList g.row.K.Denot g.row.V.Denot). IsRunAside members returns c.args.self.now.layout start lead
    c.loop.pass c.run.new.pass in
    record {
      can_next = tt;
      is_finite = tt;
      same = c.empty.ensures ∙ emptied_back _ c.loop.aside _ (ap (λ t. t.list) before.same ∙ c.requires.none) made.landed.made.made.told
          ∙ before.same;
      ran = (
        before.ran.0 ++ lead ∷ [],
        run_after members returns c.args.self.now.layout c.args.aside.now before.ran.0 lead c.args.pass.now c.loop.pass c.run.new.pass
            before.ran.1 (subst IsAside before.same (
              _,
              record { loaded = made.loaded; landed = c.run.result.landed; run = made.landed },
            )),
      );
    }
