use Rattle.wt_sketch.proofs.Packed.{halved, sevens_16}
use Rattle.wt_sketch.proofs.words.halve.Goals as goal

pub returns : goal.returns
returns c = rw sevens_16 at (halved 16 c.args.word)
