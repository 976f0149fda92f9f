use Rattle.wt_core.proofs.StaleLoads.{stale_is_unstored}
use Rattle.wt_core.proofs.laws.stale_results_are_not_stored.Goals as goal

pub returns : goal.returns
returns g c = λ s. stale_is_unstored g.K.PartialEq.eq
    (g.met.K.CacheKey g.world.𝓛 g.world.𝓜 g.world.𝓡 ((λ s x. x), (λ x. x), (λ x. x), λ x. x)).same _ _ s
