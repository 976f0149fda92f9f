use Rattle.wt_keys.proofs.SeededLemmas.{tells_keys_apart}
use Rattle.wt_keys.proofs.seeded.seeds_tell_keys_apart.Goals as goal

pub returns : goal.returns
returns g c = tells_keys_apart g.K.PartialEq.eq
    (g.met.K.CacheKey g.world.𝓛 g.world.𝓜 g.world.𝓡 ((λ s x. x), (λ x. x), (λ x. x), λ x. x)).same g.K.Hash.hash_input
