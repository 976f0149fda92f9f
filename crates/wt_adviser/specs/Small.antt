-- A small cache that tries a window.
use Rattle.std.specs.Prelude.{◌≡◌, ℕ, ◌+◌, ◌*◌, ◌/◌, max, Bool, if◌then◌else◌, None, length}
use Rattle.wt_sketch.specs.Sketch.{Counters}
use Rattle.wt_regions.specs.declared.caps.Caps.{Caps}
use Rattle.wt_regions.specs.declared.touch.Found.{Found}
use Rattle.wt_regions.specs.declared.touch.Found.TheVariants as found
use Rattle.wt_regions.specs.declared.weighs.Measure.{Measure}
use Rattle.wt_regions.specs.Lists.{Lists, found_at, lasting}
use Rattle.wt_regions.specs.Touch.{looked_at}
use Rattle.wt_regions.specs.Moves.{storing}
use Rattle.wt_regions.specs.Notices.{NoticeList}
use Rattle.wt_adviser.specs.declared.mark.Mark.{Mark}
use Rattle.wt_adviser.specs.declared.share.Share.{Share}
use Rattle.wt_adviser.specs.declared.share.Share.TheVariants.{Hundredth, Tenth, TwoFifths, Whole}

-- a mark
abbrev pub mark : Mark
mark = record {}

-- a mark weighs nothing, and has no life of its own
abbrev pub mark_measure : Mark → Measure
mark_measure m = lasting 0

-- a share in hundredths
abbrev pub hundredths : Share → ℕ
hundredths Hundredth = 1
hundredths Tenth = 10
hundredths TwoFifths = 40
hundredths Whole = 100

-- how many of the entries a window of this share holds, at least one
abbrev pub window_of : Share → ℕ → ℕ
window_of share entries = max ((entries * hundredths share) / 100) 1

-- the limits of a small cache: its entries and its window alone
abbrev pub small_caps : Share → ℕ → Caps
small_caps share entries = record { entries = entries; window = window_of share entries; bound = 1; after_write = None; after_access = None; refresh = None }

-- the room of a list of notices, taken and left together, stays
abbrev pub KeepsWhole : {K V : Type 0} → NoticeList K V → NoticeList K V → Type 0
KeepsWhole before after = after.room + length after.list ≡ before.room + length before.list

module _ {K : Type 0} (eq : K → K → Bool) (word : K → ℕ) (s : Counters) (k : K) where
  -- a hit is used; what isn't there is stored
  abbrev pub looked_by : Found Mark → Lists K Mark → Lists K Mark
  looked_by (found.Hit m) r = looked_at eq k 0 r
  looked_by f r = (storing word s k eq mark_measure mark 0 0 r).0

  -- a small cache after a look-up of the key, which is stored if it isn't there
  abbrev pub looked : Lists K Mark → Lists K Mark
  looked r = looked_by (found_at eq k 0 r) r

  -- the same, if the small cache has seen the key
  abbrev pub looked_if : Bool → Lists K Mark → Lists K Mark
  looked_if seen r = if seen then looked r else r
