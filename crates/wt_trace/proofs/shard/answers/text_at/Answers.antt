use Rattle.wt_trace.proofs.Ends.{pieces-at}
use Rattle.wt_trace.proofs.shard.answers.text_at.Goals as goal

pub between-requires-clause-order : goal.between-requires-clause-order
between-requires-clause-order c =
    rw c.start_of.ensures (pieces-at c.args.text.now 0 c.args.ends.now c.args.i c.requires.within
    c.requires.ends).1

pub between-requires-clause-within : goal.between-requires-clause-within
between-requires-clause-within c = (pieces-at c.args.text.now 0 c.args.ends.now c.args.i c.requires.within c.requires.ends).2

pub returns : goal.returns
returns c = rw (c.between.ensures, c.start_of.ensures)
    (pieces-at c.args.text.now 0 c.args.ends.now c.args.i c.requires.within c.requires.ends).0
