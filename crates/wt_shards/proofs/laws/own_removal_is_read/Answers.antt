use Rattle.wt_shards.proofs.Fresh.{reads-own-removal}
use Rattle.wt_shards.proofs.laws.own_removal_is_read.Goals as goal

pub returns : goal.returns
returns g c = λ config. reads-own-removal g.K.PartialEq.eq
    (g.met.K.CacheKey g.world.𝓛 g.world.𝓜 g.world.𝓡 ((λ s x. x), (λ x. x), (λ x. x), λ x. x)).same
    g.K.CacheKey.word g.V.Weighs.measure config
    (g.met.K.Eq g.world.𝓛 g.world.𝓜 g.world.𝓡 ((λ s x. x), (λ x. x), (λ x. x), λ x. x)).laws
