use Rattle.wt_shards.proofs.Fresh.{serves-brought}
use Rattle.wt_shards.proofs.laws.served_values_were_brought.Goals as goal

pub returns : goal.returns
returns g c = λ config. serves-brought g.K.PartialEq.eq
    (g.met.K.CacheKey g.world.𝓛 g.world.𝓜 g.world.𝓡 ((λ s x. x), (λ x. x), (λ x. x), λ x. x)).same
    g.K.CacheKey.word g.V.Weighs.measure config
