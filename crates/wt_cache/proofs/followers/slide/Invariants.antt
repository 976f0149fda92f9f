use Rattle.std.proofs.Common.{◌-◌, ◌≡◌, ◌≤◌}
use Rattle.wt_shards.specs.Members.{members_by}
use Rattle.wt_shards.specs.Place.{home_at}
use Rattle.wt_cache.specs.Follows.{AreSlides}
use Rattle.wt_cache.proofs.followers.slide.Given as goal

abbrev pub invariant-loop-slides : goal.invariant-loop-slides
invariant-loop-slides g l = record {
  few : l.slides ≤ 4;
  same : l.notices ≡ l.initial.notices;
  made : AreSlides (members_by g.K.PartialEq.eq g.K.CacheKey.word g.V.Weighs.measure g.V.Answers.answers)
      (home_at g.K.CacheKey.word l.key l.cache.layout) l.now l.initial.notices l.slides l.initial.pass l.pass;
}

abbrev pub decreases-loop-slides : goal.decreases-loop-slides
decreases-loop-slides g l = 4 - l.slides
