use Rattle.std.proofs.Common.{◌≡◌, ℕ, ◌<◌, ◌≤◌, List, length, map}
use Rattle.wt_sketch.specs.Nibbles.{nibbles}
use Rattle.wt_sketch.specs.Sketch.{half}
use Rattle.wt_sketch.specs.Sketch.{at}
use Rattle.wt_sketch.proofs.words.halve_row.Given as goal

-- the words up to i are halved, the others as they were
pub record IsHalving (old new : List ℕ) (i : ℕ) : Type 0 where
  pub len : length new ≡ length old
  pub done : (k : ℕ) → k < i → nibbles 16 (at new k) ≡ map half (nibbles 16 (at old k))
  pub rest : (k : ℕ) → i ≤ k → at new k ≡ at old k

abbrev pub invariant-loop-word : goal.invariant-loop-word
invariant-loop-word l = IsHalving l.fn.row l.word-items l.word-index
