-- The notices of what left, in a list with room for more.
use Rattle.std.specs.Prelude.{ℕ, ◌+◌, ◌-◌, List, [], ◌++◌, length}
use Rattle.wt_regions.specs.declared.notices.Notice.{Notice}

-- what is seen of a list of notices: the notices, and for how many more there is room
pub record NoticeList (K V : Type 0) : Type 0 where
  pub list : List (Notice K V)
  pub room : ℕ

module _ {K V : Type 0} where
  -- none, with room for `room` of them
  abbrev pub no_notices : ℕ → NoticeList K V
  no_notices room = record { list = []; room = room }

  -- notices at its end, which take room
  abbrev pub appended : List (Notice K V) → NoticeList K V → NoticeList K V
  appended ns t = record { list = t.list ++ ns; room = t.room - length ns }

  -- with none of them, and their room
  abbrev pub emptied : NoticeList K V → NoticeList K V
  emptied t = record { list = []; room = t.room + length t.list }
