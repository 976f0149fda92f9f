use Rattle.std.proofs.Common.{◌≡◌, ◌≤◌, ◌++◌, map, length}
use Rattle.wt_trace.specs.Keys.{keys_by}
use Rattle.wt_trace.specs.Standing.{standing_of, lines_by, standings_after}
use Rattle.wt_trace.specs.Trace.{lines_of, trace_from}
use Rattle.wt_trace.proofs.report.show_lines.Given as goal

abbrev pub invariant-loop-rest : goal.invariant-loop-rest
invariant-loop-rest g l =
    let keys = keys_by g.K.PartialEq.eq g.K.CacheKey.word g.K.TraceKey.read g.K.TraceKey.shown in
    let left = trace_from g.K.TraceKey.read l.n (lines_of l.rest) in
    let all = trace_from g.K.TraceKey.read l.fn.first (lines_of l.fn.bytes) in
    record {
      text : l.out.items ++ lines_by keys l.n left.lines (map standing_of l.shards) ≡ l.initial.out.items
          ++ lines_by keys l.fn.first all.lines (map standing_of l.initial.shards);
      standings : standings_after keys l.n left.lines (map standing_of l.shards)
          ≡ standings_after keys l.fn.first all.lines (map standing_of l.initial.shards);
      verdict : left.verdict ≡ all.verdict;
      few : l.n ≤ 1000001;
    }

abbrev pub decreases-loop-rest : goal.decreases-loop-rest
decreases-loop-rest g l = length l.rest
