use Rattle.wt_flights.proofs.Laws.{lawful}
use Rattle.wt_flights.proofs.older.Older.len.Goals as goal

pub returns-clause-lawful : goal.returns-clause-lawful
returns-clause-lawful g c = rw (← c.self.view_is)
    (lawful g.K.PartialEq.eq (g.met.K.CacheKey g.world.𝓛 g.world.𝓜 g.world.𝓡
    ((λ s x. x), (λ x. x), (λ x. x), λ x. x)).same _ _ _ _ _ _ c.self.invariant)
