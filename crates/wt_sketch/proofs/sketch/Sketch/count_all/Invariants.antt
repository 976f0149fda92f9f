use Rattle.std.proofs.Common.{◌≡◌, ℕ, List, take}
use Rattle.wt_keys.specs.Hash.{bits_for}
use Rattle.wt_sketch.specs.Sketch.{Counters, counted_words}
use Rattle.wt_sketch.proofs.sketch.Sketch.count_all.Given as goal

-- the words so far are counted
pub record IsCounting (old new : Counters) (words : List ℕ) (bits : ℕ) : Type 0 where
  pub counted : new ≡ counted_words old words
  pub same : new.entries ≡ old.entries
  pub wide : bits ≡ bits_for old.entries

abbrev pub invariant-loop-word : goal.invariant-loop-word
invariant-loop-word l = IsCounting l.fn.self l.self (take l.word-index l.words) l.bits
