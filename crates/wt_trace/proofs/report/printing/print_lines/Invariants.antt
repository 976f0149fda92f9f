use Rattle.std.proofs.Common.{◌≡◌, ◌++◌}
use Rattle.wt_trace.specs.Report.{lines_text}
use Rattle.wt_trace.proofs.report.printing.print_lines.Given as goal

abbrev pub invariant-loop-i : goal.invariant-loop-i
invariant-loop-i l = l.out.items ≡ l.initial.out.items ++ lines_text l.first l.all l.from l.i
