use Rattle.std.proofs.Common.{◌≡◌, ◌+◌, length, true}
use Rattle.wt_trace.specs.Answers.{answers_from, belongs, new_cache}
use Rattle.wt_trace.specs.Stops.{AreAsked}
use Rattle.wt_trace.specs.Keys.{keys_by}
use Rattle.wt_trace.proofs.InOrder.{IsSoFar}
use Rattle.wt_trace.proofs.shard.answers_of.Given as goal

abbrev pub invariant-loop-line : goal.invariant-loop-line
invariant-loop-line g l =
    let keys = keys_by g.K.PartialEq.eq g.K.CacheKey.word g.K.TraceKey.read g.K.TraceKey.shown in
    let o = l.job.options.now in
    let all = answers_from keys o l.number l.fn.first l.fn.lines (new_cache o) in
    let asked = AreAsked (belongs keys o l.number) (λ m. g.G.Gate.answers l.job.gate.now m true) in
    record {
      far : IsSoFar keys o l.number all l.text.items l.ends.items l.n l.rest l.shard.cache;
      options : l.shard.options ≡ o;
      number : l.shard.shard ≡ l.number;
      asked : asked l.n l.rest → asked l.fn.first l.fn.lines;
      numbers : l.n + length l.rest ≡ l.fn.first + length l.fn.lines;
    }

abbrev pub decreases-loop-line : goal.decreases-loop-line
decreases-loop-line g l = length l.rest
