use Rattle.std.proofs.Common.{◌≡◌, ◌++◌, length}
use Rattle.wt_trace.specs.Trace.{joined}
use Rattle.wt_trace.proofs.trace.pieces.next_piece.Given as goal

abbrev pub invariant-loop-piece : goal.invariant-loop-piece
invariant-loop-piece g l = l.piece ++ joined l.later ≡ l.fn.piece ++ joined l.fn.later

abbrev pub decreases-loop-piece : goal.decreases-loop-piece
decreases-loop-piece g l = length l.later
