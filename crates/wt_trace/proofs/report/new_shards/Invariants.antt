use Rattle.std.proofs.Common.{◌≡◌, map, vec_len}
use Rattle.std.specs.List.{range_with_len}
use Rattle.wt_trace.specs.Standing.{standing_of, new_standing}
use Rattle.wt_trace.proofs.report.new_shards.Given as goal

abbrev pub invariant-loop-number : goal.invariant-loop-number
invariant-loop-number g l = record {
  made : map standing_of l.shards.items ≡ map (new_standing l.options) (range_with_len 0 l.number);
  count : vec_len l.shards ≡ l.number;
}
