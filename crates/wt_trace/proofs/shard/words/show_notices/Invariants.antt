use Rattle.std.proofs.Common.{◌≡◌, ◌++◌, take}
use Rattle.std.specs.List.{flat_map}
use Rattle.wt_trace.specs.Words.{notice_text}
use Rattle.wt_trace.proofs.shard.words.show_notices.Given as goal

abbrev pub invariant-loop-notice : goal.invariant-loop-notice
invariant-loop-notice g l =
    l.out.items ≡ l.initial.out.items
    ++ flat_map (notice_text g.K.TraceKey.shown) (take l.notice-index l.notices)
