use Rattle.std.proofs.Common.{◌<◌, ℕ, get_or, IsOk}
use Rattle.wt_turns.specs.Turns.{unmade}
use Rattle.wt_turns.proofs.by_turn.crew.stop_of.Given as goal

abbrev pub invariant-loop-t : goal.invariant-loop-t
invariant-loop-t g l = record { fine : (u : ℕ) → u < l.t → IsOk (get_or l.ran.items u unmade) }
