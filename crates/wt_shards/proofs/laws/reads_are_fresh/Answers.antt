use Rattle.wt_shards.proofs.Fresh.{reads-fresh}
use Rattle.wt_shards.proofs.laws.reads_are_fresh.Goals as goal

pub returns : goal.returns
returns g c = λ p. reads-fresh g.K.PartialEq.eq
    (g.met.K.CacheKey g.world.𝓛 g.world.𝓜 g.world.𝓡 ((λ s x. x), (λ x. x), (λ x. x), λ x. x)).same
    (g.met.K.Eq g.world.𝓛 g.world.𝓜 g.world.𝓡 ((λ s x. x), (λ x. x), (λ x. x), λ x. x)).laws
    g.K.CacheKey.word g.V.Weighs.measure g.V.Answers.answers p
