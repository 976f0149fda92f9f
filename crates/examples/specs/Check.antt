-- The function that the cache stands before.
use Rattle.std.specs.Prelude.{ℕ, ◌%◌}

-- the check number of an account
abbrev pub check_of : ℕ → ℕ
check_of account = account % 97
