use Rattle.std.proofs.Common.{◌≡◌, ◌+◌, ◌≤◌, take, drop, length}
use Rattle.circular_buffer.specs.Buffer.{buffer}
use Rattle.wt_core.specs.Run.{run}
use Rattle.wt_shards.specs.Outline.{shade_measure}
use Rattle.wt_shards.proofs.lag.catch_up.Given as goal

abbrev pub invariant-loop-i : goal.invariant-loop-i
invariant-loop-i g l =
    (l.lagging ≡ run g.K.PartialEq.eq g.K.CacheKey.word shade_measure l.initial.lagging (take l.i l.initial.ring.items))
    × (l.ring ≡ buffer (drop l.i l.initial.ring.items) l.initial.ring.capacity)
    × (l.lagging.regions.caps.entries ≤ l.aside.room + length l.aside.list)
