use Rattle.std.proofs.Common.{◌≡◌, length}
use Rattle.wt_regions.proofs.Sweeps.{IsClearing}
use Rattle.wt_regions.proofs.sweep.clear_in.Given as goal

abbrev pub invariant-loop-held : goal.invariant-loop-held
invariant-loop-held g l = IsClearing l.fn.now l.fn.caps l.fn.cache.entries l.fn.notices
    (length l.cache.entries) l.cache.entries l.notices × (l.cache.cap ≡ l.fn.cache.cap)

abbrev pub decreases-loop-held : goal.decreases-loop-held
decreases-loop-held g l = length l.cache.entries
