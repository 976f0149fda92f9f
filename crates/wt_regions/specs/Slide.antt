-- The border between window and main moves by one entry.
use Rattle.std.specs.Prelude.{◌≡◌, ℕ, ◌+◌, ◌-◌, nat_le, nat_lt, Bool, true, false, if◌then◌else◌, List, ◌∷◌, length, Option, None}
use Rattle.std.specs.Option.{option_map_or}
use Rattle.lru.specs.LruCache.{last_entry}
use Rattle.wt_regions.specs.declared.caps.Caps.{Caps}
use Rattle.wt_regions.specs.Lists.{Entry, Lists, lists_of, all_but_last, main_cap, protected_cap}

-- whether window may become wider, or narrower, by one: it has 1 to all of the entries
abbrev pub can_slide : Bool → Caps → Bool
can_slide true c = nat_lt c.window c.entries
can_slide false c = nat_lt 1 c.window

-- limits that are the old ones, but for how many entries window may hold
abbrev pub KeepsAllButWindow : Caps → Caps → Type 0
KeepsAllButWindow old new = new ≡ record old { window = new.window }

-- the limits with a window that is wider by one
abbrev pub wider_caps : Caps → Caps
wider_caps c = record c { window = c.window + 1 }

-- the limits with a window that is narrower by one
abbrev pub narrower_caps : Caps → Caps
narrower_caps c = record c { window = c.window - 1 }

module _ {K V : Type 0} where
  -- the last entry of a region, if the region has more than `most`
  abbrev pub last_past : ℕ → ℕ → List (Entry K V) → Option (Entry K V)
  last_past most n es = if nat_le n most then None else last_entry es

  -- a region with an entry that came to its front, if one did
  abbrev pub with_first : Option (Entry K V) → List (Entry K V) → List (Entry K V)
  with_first came es = option_map_or (λ e. e ∷ es) came es

  -- a region whose last entry left it, if it did
  abbrev pub less_last : Option (Entry K V) → List (Entry K V) → List (Entry K V)
  less_last left es = option_map_or (λ _. all_but_last es) left es

  -- window is narrower: its last, if it has one too many, goes to probation's front
  abbrev pub narrowed : Lists K V → Lists K V
  narrowed r =
      let caps = narrower_caps r.caps in
      let last = last_past caps.window (length r.window) r.window in
      lists_of caps (less_last last r.window) (with_first last r.probation) r.protected

  -- window is wider: protected's last, if it has one too many, goes to probation's front, and probation's last, if main has one too many, to window's
  abbrev pub widened : Lists K V → Lists K V
  widened r =
      let caps = wider_caps r.caps in
      let back = last_past (protected_cap caps) (length r.protected) r.protected in
      let given = last_past (main_cap caps) (length r.probation + length r.protected) r.probation in
      lists_of caps (with_first given r.window) (less_last given (with_first back r.probation)) (less_last back r.protected)

  -- the border moves, unless it is at this end
  abbrev pub slid : Bool → Lists K V → Lists K V
  slid true r = if nat_lt r.caps.window r.caps.entries then widened r else r
  slid false r = if nat_lt 1 r.caps.window then narrowed r else r
