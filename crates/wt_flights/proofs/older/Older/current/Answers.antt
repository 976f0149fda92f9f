use Rattle.std.proofs.Common.{◌∙◌, sym}
use Rattle.wt_flights.proofs.Lookups.{finds_current, nothing_in}
use Rattle.wt_flights.proofs.older.Older.current.Goals as goal

pub returns-then-is_empty : goal.returns-then-is_empty
returns-then-is_empty g c = rw (← c.self.view_is)
    (sym (finds_current g.K.PartialEq.eq
    (g.met.K.Eq g.world.𝓛 g.world.𝓜 g.world.𝓡 ((λ s x. x), (λ x. x), (λ x. x), λ x. x)).laws
    (g.met.K.CacheKey g.world.𝓛 g.world.𝓜 g.world.𝓡 ((λ s x. x), (λ x. x), (λ x. x), λ x. x)).same _ _ _ _
    c.args.key c.self.invariant.tied
    ∙ nothing_in (g.K.PartialEq.eq c.args.key) c.self.inside.by_key.entries
    (c.is_empty.ensures.0 c.if-is_empty.true)))

pub returns : goal.returns
returns g c = rw (← c.self.view_is)
    (c.copied.ensures ∙ c.get.ensures.value
    ∙ sym (finds_current g.K.PartialEq.eq
    (g.met.K.Eq g.world.𝓛 g.world.𝓜 g.world.𝓡 ((λ s x. x), (λ x. x), (λ x. x), λ x. x)).laws
    (g.met.K.CacheKey g.world.𝓛 g.world.𝓜 g.world.𝓡 ((λ s x. x), (λ x. x), (λ x. x), λ x. x)).same _ _ _ _
    c.args.key c.self.invariant.tied))
