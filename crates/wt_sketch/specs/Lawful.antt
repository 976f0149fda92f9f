-- What is true of every sketch.
use Rattle.std.specs.Prelude.{ℕ, ◌≡◌, ◌*◌, ◌^◌, ◌<◌, ◌≤◌, List, length}
use Rattle.std.specs.List.{All}
use Rattle.wt_keys.specs.Hash.{bits_for}
use Rattle.wt_sketch.specs.Sketch.{Counters}

-- a row is as wide as the entries need, and its counters are at most 15
abbrev pub IsRow : ℕ → List ℕ → Type 0
IsRow entries row = (length row ≡ 2 ^ bits_for entries) × All (λ counter. counter ≤ 15) row

-- four such rows for 1 to 65,536 entries, and a halving still to come
pub record IsLawful (s : Counters) : Type 0 where
  pub range : (1 ≤ s.entries) × (s.entries ≤ 65536)
  pub young : s.additions < 10 * s.entries
  pub in_0 : IsRow s.entries s.row_0
  pub in_1 : IsRow s.entries s.row_1
  pub in_2 : IsRow s.entries s.row_2
  pub in_3 : IsRow s.entries s.row_3
