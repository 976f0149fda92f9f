use Rattle.std.proofs.Common.{arith}
use Rattle.wt_sketch.proofs.Packed.{halved_words}
use Rattle.wt_sketch.proofs.words.halve_row.Goals as goal

pub returns-clause-row : goal.returns-clause-row
returns-clause-row c =
    let inv = c.loop-word.invariant in
    halved_words c.args.row.now c.loop-word.word-items inv.len (λ k h. inv.done k (omega arith))
