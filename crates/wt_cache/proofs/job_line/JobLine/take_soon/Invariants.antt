use Rattle.std.proofs.Common.{◌≡◌}
use Rattle.wt_cache.proofs.job_line.JobLine.take_soon.Given as goal

-- nothing was taken yet
abbrev pub invariant-loop-turn : goal.invariant-loop-turn
invariant-loop-turn g l = l.pass ≡ l.initial.pass
