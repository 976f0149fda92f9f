-- The room of a list of notices and its length together.
use Rattle.std.proofs.Common.{◌≡◌, ℕ, ◌+◌, ◌≤◌, List, length, arith, length-append}
use Rattle.wt_regions.specs.declared.notices.Notice.{Notice}
use Rattle.wt_regions.specs.Notices.{NoticeList, appended}

-- they don't fall
pub whole-appended : {K V : Type 0} (n : ℕ) (ns : List (Notice K V)) (t u : NoticeList K V) → u ≡ appended ns t
    → n ≤ t.room + length t.list → n ≤ u.room + length u.list
whole-appended n ns t u is room = rw is (omega (arith, room, length-append t.list ns))
