use Rattle.std.proofs.Common.{◌≡◌, ◌*◌, ◌++◌, min, length}
use Rattle.std.specs.Vec.Iter.{into_iter_items}
use Rattle.wt_trace.specs.Report.{lines_text}
use Rattle.wt_trace.proofs.report.printing.lines_on_threads.Given as goal

abbrev pub invariant-loop-piece : goal.invariant-loop-piece
invariant-loop-piece g l = record {
  order : l.yielded ++ into_iter_items l.piece-iterator ≡ into_iter_items l.initial.piece-iterator;
  text : l.text ≡ lines_text l.lines.first l.lines.all.now 0 (min (length l.yielded * l.most) l.lines.count);
}
