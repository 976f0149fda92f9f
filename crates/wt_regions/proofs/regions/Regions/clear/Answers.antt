use Rattle.std.proofs.Common.{arith}
use Rattle.wt_regions.specs.Lists.{lifeless}
use Rattle.wt_regions.proofs.Sound.{empty-lawful}
use Rattle.wt_regions.proofs.regions.Regions.clear.Goals as goal

pub invariant_of-self : goal.invariant_of-self
invariant_of-self g c =
    rw c.clear.ensures.state (
      empty-lawful g.K.PartialEq.eq g.V.Weighs.measure c.self.inside.caches.caps c.self.invariant.0.fit,
      omega arith,
      λ _. empty-lawful g.K.PartialEq.eq (lifeless g.V.Weighs.measure) c.self.inside.caches.caps c.self.invariant.0.fit,
    )
