use Rattle.std.proofs.Common.{◌*◌, ◌+◌, ◌^◌, take}
use Rattle.wt_core.specs.Sums.{AreBelow, AreSums}
use Rattle.wt_trace.specs.Answers.{ShardAnswers}
use Rattle.wt_trace.proofs.report.summary.totals_of.Given as goal

abbrev pub invariant-loop-answers : goal.invariant-loop-answers
invariant-loop-answers l = record {
  totals : AreSums (λ (a : ShardAnswers). a.stats) l.sum (take l.answers-index l.all);
  below : AreBelow (2 ^ 61 * l.answers-index + 1) l.sum;
}
