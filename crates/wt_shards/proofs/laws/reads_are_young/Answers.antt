use Rattle.wt_shards.proofs.Young.{reads-young}
use Rattle.wt_shards.proofs.laws.reads_are_young.Goals as goal

pub returns : goal.returns
returns g c = λ p. reads-young g.K.PartialEq.eq
    (g.met.K.CacheKey g.world.𝓛 g.world.𝓜 g.world.𝓡 ((λ s x. x), (λ x. x), (λ x. x), λ x. x)).same
    g.K.CacheKey.word g.V.Weighs.measure g.V.Answers.answers p
