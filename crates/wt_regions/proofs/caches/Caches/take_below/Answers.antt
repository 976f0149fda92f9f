use Rattle.wt_regions.proofs.Moves.{lookup-append}
use Rattle.wt_regions.proofs.caches.Caches.take_below.Goals as goal

pub returns-in-Some-clause-held : goal.returns-in-Some-clause-held
returns-in-Some-clause-held g c = simp (lookup-append, ← c.self.view_is) (rw (← c.pop-first.ensures.value, c.in-Some.is))

pub returns-clause-held : goal.returns-clause-held
returns-clause-held g c = simp (lookup-append, ← c.self.view_is)
    (rw (← c.pop-first.ensures.value, c.in_default.is, ← c.pop-second.ensures.value))
