use Rattle.std.proofs.Common.{◌≡◌, ◌<◌, ◌%◌, ℕ, map, true}
use Rattle.std.specs.List.{range_with_len}
use Rattle.wt_trace.specs.Answers.{answers, belongs}
use Rattle.wt_trace.specs.Keys.{keys_by}
use Rattle.wt_trace.specs.Parts.{part_at}
use Rattle.wt_trace.specs.Stops.{AreAsked}
use Rattle.wt_trace.proofs.report.on_threads.part_of.Given as goal

abbrev pub invariant-loop-shard : goal.invariant-loop-shard
invariant-loop-shard g l =
    let keys = keys_by g.K.PartialEq.eq g.K.CacheKey.word g.K.TraceKey.read g.K.TraceKey.shown in
    let o = l.job.options.now in
    record {
      made : l.places.items ≡ map (part_at (answers keys o l.first l.read.lines) l.job.threads l.t) (range_with_len 0 l.shard);
      asked : (s : ℕ) → s < l.shard → s % l.job.threads ≡ l.t
          → AreAsked (belongs keys o s) (λ n. g.G.Gate.answers l.job.gate.now n true) l.first l.read.lines;
    }
