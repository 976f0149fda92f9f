use Rattle.wt_shards.proofs.Used.{serves-used}
use Rattle.wt_shards.proofs.laws.served_values_were_used.Goals as goal

pub returns : goal.returns
returns g c = λ config. serves-used g.K.PartialEq.eq
    (g.met.K.CacheKey g.world.𝓛 g.world.𝓜 g.world.𝓡 ((λ s x. x), (λ x. x), (λ x. x), λ x. x)).same
    g.K.CacheKey.word g.V.Weighs.measure config
