use Rattle.std.proofs.Common.{◌≡◌}
use Rattle.wt_cache.proofs.job_line.JobLine.next.Given as goal

-- nothing was taken yet
abbrev pub invariant-loop : goal.invariant-loop
invariant-loop g l = record {
  can_next : (goal.iterator-loop g).can_next l.iterator';
  is_finite : (goal.iterator-loop g).is_finite l.iterator';
  pass : l.pass ≡ l.initial.pass;
}
