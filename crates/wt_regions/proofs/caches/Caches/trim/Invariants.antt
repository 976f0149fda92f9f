use Rattle.std.proofs.Common.{length}
use Rattle.wt_regions.proofs.Loop.{IsTrimming}
use Rattle.wt_regions.specs.Lists.{all_entries}
use Rattle.wt_regions.proofs.caches.Caches.trim.Given as goal

abbrev pub invariant-loop-self : goal.invariant-loop-self
invariant-loop-self g l = IsTrimming g.K.PartialEq.eq l.key l.initial.self l.initial.notices l.self l.notices l.weight

abbrev pub decreases-loop-self : goal.decreases-loop-self
decreases-loop-self g l = length (all_entries l.self)
