use Rattle.std.proofs.Common.{arith, ◌-◌}
use Rattle.wt_regions.proofs.Settled.{distinct_turned}
use Rattle.wt_regions.proofs.Slides.{last-fresh, past-length}
use Rattle.wt_regions.proofs.caches.Caches.narrow.Goals as goal

pub move_past-requires-clause-fresh : goal.move_past-requires-clause-fresh
move_past-requires-clause-fresh g c κs within =
    let i = c.self.inside in
    let laws = (g.met.K.Eq g.world.𝓛 g.world.𝓜 g.world.𝓡 ((λ s x. x), (λ x. x), (λ x. x), λ x. x)).laws in
    let placed = rw (← c.self.view_is) at c.requires.placed in
    last-fresh g.K.PartialEq.eq laws i.probation.entries i.window.entries
    (distinct_turned g.K.PartialEq.eq laws i.window.entries i.probation.entries i.protected.entries placed.distinct)

pub resize-requires-clause-fits : goal.resize-requires-clause-fits
resize-requires-clause-fits g c κs within =
    let i = c.self.inside in
    let placed = rw (← c.self.view_is) at c.requires.placed in
    let some = rw (← c.self.view_is) at c.requires.some in
    rw c.in_ok-move_past.ensures.left
    (past-length (i.caps.window - 1) i.window.entries (omega (arith, placed.window, some)))
