use Rattle.std.proofs.Common.{arith, ◌∙◌, add-one, subst, Ok}
use Rattle.wt_regions.specs.Notices.{NoticeList}
use Rattle.wt_core.specs.declared.calls.Call.TheVariants.{Slide}
use Rattle.wt_core.specs.declared.calls.Reply.TheVariants.{Slid}
use Rattle.wt_shards.specs.Contract.{IsHomeCall}
use Rattle.wt_shards.specs.Members.{members_by}
use Rattle.wt_shards.specs.Place.{home_at}
use Rattle.wt_cache.proofs.followers.slide.Goals as goal

pub loop-slides-preserved : goal.loop-slides-preserved
loop-slides-preserved g c =
    let before = c.loop-slides.invariant in
    let wider = c.loop-slides.claim.wider in
    let IsMadeFrom = λ (from to : NoticeList g.row.K.Denot g.row.V.Denot). IsHomeCall
    (members_by g.K.PartialEq.eq g.K.CacheKey.word g.V.Weighs.measure g.V.Answers.answers)
    (home_at g.K.CacheKey.word c.args.key c.args.cache.now.layout) (Slide wider c.args.now) Slid c.loop-slides.pass
    c.slide.new.pass from to (Ok c.in_ok-done.done) in
    let test = c.loop-slides-test.true in
    rw add-one (record {
      few = omega (arith, test);
      same = c.slide.ensures.none ∙ before.same;
      made = (
        c.loop-slides.pass,
        before.made,
        record {
          wider = wider;
          done = c.in_ok-done.done;
          made = subst (λ (list : NoticeList g.row.K.Denot g.row.V.Denot). IsMadeFrom list list) before.same
              (subst (λ (list : NoticeList g.row.K.Denot g.row.V.Denot). IsMadeFrom c.loop-slides.notices list) c.slide.ensures.none
              c.in_ok-done.ensures.made);
        },
      );
    })
