use Rattle.wt_core.proofs.Unkept.{unkept_keeps}
use Rattle.wt_core.proofs.laws.unkept_landings_keep_entries.Goals as goal

pub returns : goal.returns
returns g c = λ s. unkept_keeps g.K.PartialEq.eq g.K.CacheKey.word g.V.Weighs.measure s
