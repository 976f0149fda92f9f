use Rattle.std.proofs.Common.{◌≡◌, ◌+◌, ◌≤◌, ◌<◌, ℕ, [], IfSome, None, get_or, length, vec_len}
use Rattle.wt_trace.specs.Trace.{IsFaultless, lines_of, trace_from}
use Rattle.wt_trace.proofs.Joins.{AreSoFar}
use Rattle.wt_trace.proofs.trace.parsing.put_together.Given as goal

abbrev pub invariant-loop-t : goal.invariant-loop-t
invariant-loop-t g l = record {
  far : AreSoFar g.K.TraceKey.read l.first l.chunks l.t l.all;
  few : l.first + length l.all.lines ≤ 1000001;
  len : vec_len l.read ≡ length l.chunks;
  each : (k : ℕ) → l.t ≤ k → k < length l.chunks
      → IfSome (get_or l.read.items k None)
      (IsFaultless (trace_from g.K.TraceKey.read l.first (lines_of (get_or l.chunks k []))));
}
