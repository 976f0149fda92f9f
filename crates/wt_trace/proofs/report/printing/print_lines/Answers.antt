use Rattle.std.proofs.Common.{ap, refl, sym, ◌∙◌, ◌+◌, ◌++◌, List, ℕ, append_assoc}
use Rattle.wt_trace.specs.Report.{line_text, lines_text}
use Rattle.wt_trace.proofs.Sums.{flat_map-range_with_len}
use Rattle.wt_trace.proofs.report.printing.print_lines.Goals as goal

pub loop-i-preserved : goal.loop-i-preserved
loop-i-preserved c =
    let text = line_text c.args.first c.args.all.now in
    let before = c.args.out.now.items in
    let at = c.args.from + c.loop-i.i in
    let lines = lines_text c.args.first c.args.all.now c.args.from c.loop-i.i in
    c.in_ok-print_line.ensures
    ∙ ap (λ (xs : List ℕ). xs ++ text at) c.loop-i.invariant
    ∙ append_assoc before lines (text at)
    ∙ ap (λ (xs : List ℕ). before ++ xs) (sym (flat_map-range_with_len text c.args.from c.loop-i.i at refl))
