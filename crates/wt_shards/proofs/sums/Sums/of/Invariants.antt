use Rattle.std.proofs.Common.{◌≡◌, ℕ, List, ◌++◌}
use Rattle.wt_shards.specs.Endings.{AreSummed}
use Rattle.wt_shards.specs.Passes.{Seen}
use Rattle.wt_shards.proofs.sums.Sums.of.Given as goal

abbrev pub invariant-loop-pass : goal.invariant-loop-pass
invariant-loop-pass g l =
    (done : List (Seen g.row.K.Denot g.row.V.Denot)) × (l.initial.passes.items ≡ l.passes.items ++ done)
    × ((i : ℕ) → AreSummed i done l.sums)

abbrev pub decreases-loop-pass : goal.decreases-loop-pass
decreases-loop-pass g l = goal.left-loop-pass g l
