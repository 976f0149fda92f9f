use Rattle.std.proofs.Common.{sym, ◌∙◌}
use Rattle.wt_core.proofs.OwnExpired.{without-unheld}
use Rattle.wt_core.proofs.expired.expire.Goals as goal

pub returns-then-not-has-clause-state : goal.returns-then-not-has-clause-state
returns-then-not-has-clause-state g c =
    let laws = (g.met.K.Eq g.world.𝓛 g.world.𝓜 g.world.𝓡 ((λ s x. x), (λ x. x), (λ x. x), λ x. x)).laws in
    c.remove.ensures.state ∙ without-unheld g.K.PartialEq.eq laws c.args.key c.args.now c.args.regions.now
    (sym c.has.ensures ∙ c.if-not-has.true)
