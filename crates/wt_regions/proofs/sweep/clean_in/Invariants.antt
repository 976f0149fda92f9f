use Rattle.std.proofs.Common.{◌≡◌}
use Rattle.wt_regions.proofs.Sweeps.{IsCleaning}
use Rattle.wt_regions.proofs.sweep.clean_in.Given as goal

abbrev pub invariant-loop-left : goal.invariant-loop-left
invariant-loop-left g l = IsCleaning g.K.PartialEq.eq
    (g.met.K.Eq g.world.𝓛 g.world.𝓜 g.world.𝓡 ((λ s x. x), (λ x. x), (λ x. x), λ x. x)).laws l.fn.now l.fn.caps
    l.fn.cache.entries l.fn.notices l.fn.weight l.left l.cache.entries l.notices l.weight
    × (l.cache.cap ≡ l.fn.cache.cap)

abbrev pub decreases-loop-left : goal.decreases-loop-left
decreases-loop-left g l = l.left
