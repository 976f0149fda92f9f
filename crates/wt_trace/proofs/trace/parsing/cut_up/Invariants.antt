use Rattle.std.proofs.Common.{◌≡◌, ◌++◌}
use Rattle.wt_trace.specs.Trace.{lines_of, lines_of_all}
use Rattle.wt_trace.proofs.trace.parsing.cut_up.Given as goal

abbrev pub invariant-loop-t : goal.invariant-loop-t
invariant-loop-t l = lines_of_all l.out.items ++ lines_of l.rest ≡ lines_of l.fn.bytes
