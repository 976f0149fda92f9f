use Rattle.std.proofs.Common.{◌≡◌, ◌<◌, ℕ, map, true, false}
use Rattle.std.specs.List.{range_with_len}
use Rattle.wt_trace.specs.Answers.{answers, belongs}
use Rattle.wt_trace.specs.Stops.{AreAsked}
use Rattle.wt_trace.specs.Keys.{keys_by}
use Rattle.wt_trace.proofs.Places.{AreLeft}
use Rattle.wt_trace.proofs.report.on_threads.answers_by_shard.Given as goal

abbrev pub invariant-loop-shard : goal.invariant-loop-shard
invariant-loop-shard g l =
    let keys = keys_by g.K.PartialEq.eq g.K.CacheKey.word g.K.TraceKey.read g.K.TraceKey.shown in
    let o = l.job.options.now in
    let gate = g.G.Gate.answers l.job.gate.now in
    let made = answers keys o l.first l.read.lines in
    let asked : ℕ → Type 0 = λ s. AreAsked (belongs keys o s) (λ n. gate n true) l.first l.read.lines in
    record {
      all : l.all.items ≡ map made (range_with_len 0 l.shard);
      left : AreLeft made (λ n. gate n false) asked o.shards l.job.threads l.shard l.parts.items;
      asked : (s : ℕ) → s < l.shard → asked s;
    }
