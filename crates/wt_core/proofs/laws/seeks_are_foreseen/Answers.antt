use Rattle.wt_core.proofs.Foresees.{foresees}
use Rattle.wt_core.proofs.laws.seeks_are_foreseen.Goals as goal

pub returns : goal.returns
returns g c = λ s. foresees g.K.PartialEq.eq g.K.CacheKey.word g.V.Weighs.measure s
