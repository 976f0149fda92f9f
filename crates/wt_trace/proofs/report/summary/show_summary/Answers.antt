use Rattle.std.proofs.Common.{◌∙◌, ◌++◌, ap}
use Rattle.wt_trace.proofs.Sums.{summary_of-totals}
use Rattle.wt_trace.proofs.report.summary.show_summary.Goals as goal

pub returns : goal.returns
returns c = c.in_ok-show_numbers.ensures
    ∙ ap (λ xs. c.args.out.now.items ++ xs)
    (summary_of-totals c.totals_of-sum.result c.args.all.now c.totals_of-sum.ensures)
