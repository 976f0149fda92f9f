use Rattle.std.proofs.Common.{◌≡◌, ◌+◌, ◌++◌, ◌≤◌, length}
use Rattle.wt_trace.specs.Trace.{lines_of, trace_from}
use Rattle.wt_trace.proofs.trace.read_lines.Given as goal

abbrev pub invariant-loop-rest : goal.invariant-loop-rest
invariant-loop-rest g l = record {
  lines : l.lines.items ++ (trace_from g.K.TraceKey.read l.n (lines_of l.rest)).lines
      ≡ (trace_from g.K.TraceKey.read l.fn.first (lines_of l.fn.bytes)).lines;
  verdict : (trace_from g.K.TraceKey.read l.n (lines_of l.rest)).verdict
      ≡ (trace_from g.K.TraceKey.read l.fn.first (lines_of l.fn.bytes)).verdict;
  few : l.n ≤ 1000001;
  counted : l.n ≡ l.fn.first + length l.lines.items;
}

abbrev pub decreases-loop-rest : goal.decreases-loop-rest
decreases-loop-rest g l = length l.rest
