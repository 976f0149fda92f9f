use Rattle.std.proofs.Common.{◌≡◌, ◌+◌, ◌≤◌, length}
use Rattle.wt_turns.specs.ByTurn.{first_open}
use Rattle.wt_turns.proofs.by_turn.first_open.Given as goal

abbrev pub invariant-loop-line : goal.invariant-loop-line
invariant-loop-line g l = record {
  left : first_open l.n l.rest ≡ first_open l.fn.first l.fn.lines;
  within : l.n + length l.rest ≤ 1000002;
}

abbrev pub decreases-loop-line : goal.decreases-loop-line
decreases-loop-line g l = length l.rest
