use Rattle.std.proofs.Common.{◌≡◌, ◌++◌, map, take, drop}
use Rattle.std.specs.List.{flat_map}
use Rattle.wt_trace.specs.Keys.{keys_by}
use Rattle.wt_trace.specs.Standing.{standing_of, added_text, next_standing}
use Rattle.wt_trace.proofs.report.show_line.Given as goal

abbrev pub invariant-loop-shard : goal.invariant-loop-shard
invariant-loop-shard g l =
    let keys = keys_by g.K.PartialEq.eq g.K.CacheKey.word g.K.TraceKey.read g.K.TraceKey.shown in
    record {
      text : l.out.items ≡ l.initial.out.items
          ++ flat_map (added_text keys l.n l.line) (take l.shard-index (map standing_of l.initial.shards));
      standings : map standing_of l.shards
          ≡ map (next_standing keys l.n l.line) (take l.shard-index (map standing_of l.initial.shards))
          ++ drop l.shard-index (map standing_of l.initial.shards);
    }
