use Rattle.std.proofs.Common.{◌-◌, ◌≡◌, ◌≤◌}
use Rattle.wt_regions.specs.Slide.{KeepsAllButWindow}
use Rattle.wt_adviser.specs.Advice.{saw_by, wanted}
use Rattle.wt_adviser.specs.Follow.{slid_by}
use Rattle.wt_adviser.proofs.following.follow.Given as goal

abbrev pub invariant-loop-slides : goal.invariant-loop-slides
invariant-loop-slides g l = record {
  few : l.slides ≤ 4;
  adviser : l.adviser ≡ saw_by g.K.PartialEq.eq g.K.CacheKey.word l.seen l.fn.key l.fn.adviser;
  wanted : l.wanted ≡ wanted l.adviser;
  core : l.core ≡ slid_by g.K.PartialEq.eq g.K.CacheKey.word g.V.Weighs.measure l.slides l.wanted l.fn.now l.fn.core;
  same : KeepsAllButWindow l.fn.core.regions.caps l.core.regions.caps;
}

abbrev pub decreases-loop-slides : goal.decreases-loop-slides
decreases-loop-slides g l = 4 - l.slides
