use Rattle.std.proofs.Common.{◌≡◌, ◌++◌, List, ℕ, length}
use Rattle.std.specs.Io.KnownBytes.{Appends}
use Rattle.wt_trace.proofs.run.write_out.Given as goal

abbrev pub invariant-loop-rest : goal.invariant-loop-rest
invariant-loop-rest g l = record {
  taken : (front : List ℕ) × (l.bytes ≡ front ++ l.rest)
      × Appends (g.W.Write.contents l.initial.writer.inner) (g.W.Write.contents l.writer.inner) front;
  fine : l.writer.failures ≡ l.initial.writer.failures;
}

abbrev pub decreases-loop-rest : goal.decreases-loop-rest
decreases-loop-rest g l = length l.rest
