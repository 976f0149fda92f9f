use Rattle.std.proofs.Common.{◌*◌, ◌+◌, ◌^◌, take}
use Rattle.wt_core.specs.State.{stats_of}
use Rattle.wt_core.specs.Sums.{AreBelow, AreSums}
use Rattle.wt_trace.specs.Answers.{Work}
use Rattle.wt_trace.proofs.report.totals.Given as goal

abbrev pub invariant-loop-shard : goal.invariant-loop-shard
invariant-loop-shard g l = record {
  totals : AreSums (λ (w : Work g.row.K.Denot). stats_of w.cache.state) l.sum (take l.shard-index l.shards);
  below : AreBelow (2 ^ 61 * l.shard-index + 1) l.sum;
}
