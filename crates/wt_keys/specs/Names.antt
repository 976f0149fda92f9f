-- What the fields of a name keep.
use Rattle.std.specs.Prelude.{ℕ, ◌≡◌, ◌≤◌, ◌-◌, List, ◌++◌, length, take, replicate}

-- what a name's fields keep: its bytes, and zeros behind them, in 24 cells
pub record IsName (cells : List ℕ) (len : ℕ) : Type 0 where
  pub fits : len ≤ 24
  pub all : length cells ≡ 24
  pub rest : cells ≡ take len cells ++ replicate (24 - len) 0
