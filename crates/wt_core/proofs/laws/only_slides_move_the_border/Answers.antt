use Rattle.wt_core.proofs.StepBounds.{limits-kept}
use Rattle.wt_core.proofs.laws.only_slides_move_the_border.Goals as goal

pub returns : goal.returns
returns g c = λ s calls. limits-kept g.K.PartialEq.eq g.K.CacheKey.word g.V.Weighs.measure s calls
