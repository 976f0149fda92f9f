use Rattle.std.proofs.Common.{◌≡◌, refl, sym, ap, ◌∙◌, arith}
use Rattle.wt_core.specs.State.{State}
use Rattle.wt_core.proofs.Slid.{kept-next}
use Rattle.wt_adviser.specs.declared.adviser.Seen.{Seen}
use Rattle.wt_adviser.specs.Advice.{saw_by}
use Rattle.wt_adviser.specs.Follow.{slid_by, slid_towards}
use Rattle.wt_adviser.proofs.SlidBy.{slid-none, slid-more}
use Rattle.wt_adviser.proofs.following.follow.Goals as goal

pub loop-slides-preserved : goal.loop-slides-preserved
loop-slides-preserved g c =
    let K = g.row.K.Denot in
    let V = g.row.V.Denot in
    let eq = g.K.PartialEq.eq in
    let word = g.K.CacheKey.word in
    let measure = g.V.Weighs.measure in
    let want = c.wanted-wanted.result in
    let now = c.args.now in
    let first : State K V = c.args.core.now in
    let inv = c.loop-slides.invariant in
    let n = c.loop-slides.slides in
    record {
      few = omega (arith, c.loop-slides-test.true);
      adviser = inv.adviser;
      wanted = inv.wanted;
      core = c.in_ok-slide_towards.ensures.state
          ∙ ap (λ (s : State K V). slid_towards eq word measure want now s) inv.core
          ∙ sym (slid-more eq word measure want now first n);
      same = kept-next first.regions.caps c.loop-slides.core.regions.caps c.slide_towards.new.core.regions.caps inv.same
          c.in_ok-slide_towards.ensures.same;
    }

pub returns-then-is_whole-clause-advice : goal.returns-then-is_whole-clause-advice
returns-then-is_whole-clause-advice g c =
    let eq = g.K.PartialEq.eq in
    let word = g.K.CacheKey.word in
    c.loop-slides.invariant.adviser
    ∙ ap (λ (s : Seen). saw_by eq word s c.args.key c.args.adviser.now) (c.is_whole.ensures c.if-is_whole.true)

pub returns-then-is_whole-clause-state : goal.returns-then-is_whole-clause-state
returns-then-is_whole-clause-state g c =
    let K = g.row.K.Denot in
    let V = g.row.V.Denot in
    let eq = g.K.PartialEq.eq in
    let word = g.K.CacheKey.word in
    let measure = g.V.Weighs.measure in
    let now = c.args.now in
    let first : State K V = c.args.core.now in
    let inv = c.loop-slides.invariant in
    let four : c.loop-slides.slides ≡ 4 = omega (arith, c.loop-slides-test.false, inv.few) in
    inv.core ∙ ap (λ n. slid_by eq word measure n c.wanted-wanted.result now first) four
    ∙ ap (λ w. slid_by eq word measure 4 w now first) inv.wanted

pub loop-slides-init : goal.loop-slides-init
loop-slides-init g c = record {
  few = omega arith;
  adviser = c.saw_by-seen.ensures;
  wanted = c.wanted-wanted.ensures.answer;
  core =
      sym (slid-none g.K.PartialEq.eq g.K.CacheKey.word g.V.Weighs.measure c.wanted-wanted.result c.args.now c.args.core.now);
  same = refl;
}
