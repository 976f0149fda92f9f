use Rattle.std.proofs.Common.{◌≡◌, ℕ, ◌^◌, ◌<◌, ◌≤◌, ◌-◌}
use Rattle.wt_keys.specs.Hash.{bits_from, bits_for}
use Rattle.wt_keys.proofs.rows.bits_for.Given as goal

-- the width before, if there is one, is too narrow
pub record IsSeeking (entries bits : ℕ) : Type 0 where
  pub range : (6 ≤ bits) × (bits ≤ 16)
  pub rest : bits_from (16 - bits) bits entries ≡ bits_for entries
  pub narrow : 6 < bits → 2 ^ (bits - 1) < entries

abbrev pub invariant-loop-bits : goal.invariant-loop-bits
invariant-loop-bits l = IsSeeking l.entries l.bits

abbrev pub decreases-loop-bits : goal.decreases-loop-bits
decreases-loop-bits l = 16 - l.bits
