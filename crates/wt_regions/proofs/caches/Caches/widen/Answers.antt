use Rattle.std.proofs.Common.{arith, ◌≤◌, length, suc}
use Rattle.wt_regions.proofs.Apart.{distinct_after}
use Rattle.wt_regions.proofs.Slides.{last-fresh, past-length}
use Rattle.wt_regions.specs.Lists.{protected_cap}
use Rattle.wt_regions.specs.Slide.{wider_caps}
use Rattle.wt_regions.proofs.caches.Caches.widen.Goals as goal

pub move_past-requires-clause-fresh : goal.move_past-requires-clause-fresh
move_past-requires-clause-fresh g c κs within =
    let i = c.self.inside in
    let laws = (g.met.K.Eq g.world.𝓛 g.world.𝓜 g.world.𝓡 ((λ s x. x), (λ x. x), (λ x. x), λ x. x)).laws in
    let placed = rw (← c.self.view_is) at c.requires.placed in
    last-fresh g.K.PartialEq.eq laws i.probation.entries i.protected.entries
    (distinct_after g.K.PartialEq.eq i.window.entries _ placed.distinct)

pub resize-requires-3-clause-fits : goal.resize-requires-3-clause-fits
resize-requires-3-clause-fits g c κs within =
    let i = c.self.inside in
    let placed = rw (← c.self.view_is) at c.requires.placed in
    let low : length i.protected.entries ≤ suc (protected_cap (wider_caps i.caps)) = omega (arith, placed.protected) in
    rw (c.protected_cap-2.ensures, c.in_ok-move_past.ensures.left, c.protected_cap.ensures)
    (past-length (protected_cap (wider_caps i.caps)) i.protected.entries low)
