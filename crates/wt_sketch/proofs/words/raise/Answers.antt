use Rattle.std.proofs.Common.{◌<◌, arith, ◌^◌, ◌/◌}
use Rattle.wt_sketch.proofs.Packed.{raise_word, raise_fits}
use Rattle.wt_sketch.specs.Sketch.{at}
use Rattle.wt_sketch.specs.Nibbles.{unpacked}
use Rattle.wt_sketch.proofs.words.raise.Goals as goal

pub overflow_add-row : goal.overflow_add-row
overflow_add-row c =
    let low : at (unpacked c.args.row.now) c.args.place < 15 = omega arith in
    let word : at c.args.row.now (c.args.place / 16) < 2 ^ 64 = omega arith in
    let below = raise_fits c.args.row.now c.args.place c.requires low word in
    omega (arith, below)

pub returns-clause-row : goal.returns-clause-row
returns-clause-row c = let low : at (unpacked c.args.row.now) c.args.place < 15 = omega arith in
    raise_word c.args.row.now c.args.place c.requires low
