-- What is true of the fields of a sketch.
use Rattle.std.specs.Prelude.{ℕ, ◌≡◌, ◌*◌, ◌^◌, ◌<◌, ◌≤◌}
use Rattle.wt_keys.specs.Hash.{bits_for}

-- what a sketch's fields keep: the range of the entries, the bits that they need, the additions below the next halving, and four rows of
-- words that are wide enough
pub record IsPacked (entries bits additions words_0 words_1 words_2 words_3 : ℕ) : Type 0 where
  pub range : (1 ≤ entries) × (entries ≤ 65536)
  pub wide : bits ≡ bits_for entries
  pub bits_range : (6 ≤ bits) × (bits ≤ 16)
  pub young : additions < 10 * entries
  pub in_0 : 16 * words_0 ≡ 2 ^ bits
  pub in_1 : 16 * words_1 ≡ 2 ^ bits
  pub in_2 : 16 * words_2 ≡ 2 ^ bits
  pub in_3 : 16 * words_3 ≡ 2 ^ bits
