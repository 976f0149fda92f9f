use Rattle.std.proofs.Common.{rules}
use Rattle.wt_sketch.specs.Sketch.{estimate_of}
use Rattle.wt_regions.proofs.settle.estimate_for.Goals as goal

pub returns : goal.returns
unfolding estimate_of
returns g c = search rules
