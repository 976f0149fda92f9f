-- The way of a new entry into the regions: the duel, and the weight.
use Rattle.std.specs.Prelude.{ℕ, zero, suc, ◌+◌, nat_lt, nat_le, nat_eq, Bool, not, if◌then◌else◌, List, [], ◌∷◌, ◌++◌, length, Option, Some, None}
use Rattle.std.specs.List.{list_any}
use Rattle.std.specs.Option.{option_map_or}
use Rattle.lru.specs.LruCache.{last_entry}
use Rattle.wt_regions.specs.declared.caps.Caps.{Caps}
use Rattle.wt_regions.specs.declared.notices.Cause.{Cause}
use Rattle.wt_regions.specs.declared.notices.Cause.TheVariants.{Expired, Size}
use Rattle.wt_regions.specs.declared.settle.Fate.{Fate}
use Rattle.wt_regions.specs.declared.settle.Fate.TheVariants.{Leaves, Enters, Ousts}
use Rattle.wt_regions.specs.declared.notices.Notice.{Notice}
use Rattle.wt_regions.specs.Lists.{Entry, Lists, Told, all_entries, weight_of, all_but_last, notice, is_expired, main_cap}

module _ {K V : Type 0} where
  -- the regions with a new entry at the front of window
  abbrev pub grown : Entry K V → Lists K V → Lists K V
  grown e r = record r { window = e ∷ r.window }

  -- the notice of a list's last entry, if there is one
  abbrev pub last_told : Cause → List (Entry K V) → List (Notice K V)
  last_told cause es = option_map_or (λ e. notice cause e ∷ []) (last_entry es) []

  -- what becomes of regions and notices by the candidate's fate
  abbrev pub by_fate : Entry K V → Lists K V → Fate → Told K V
  by_fate c r (Leaves cause) = (r, notice cause c ∷ [])
  by_fate c r Enters = (record r { probation = c ∷ r.probation }, [])
  by_fate c r (Ousts cause) = (record r { probation = c ∷ all_but_last r.probation }, last_told cause r.probation)

  module _ (estimate : K → ℕ) (now : ℕ) where
    -- the fate of a candidate that meets the victim v: a tie refuses it
    abbrev pub duel : Caps → Entry K V → Entry K V → Fate
    duel caps c v =
        if is_expired caps now v.1 then Ousts Expired else
        if nat_lt (estimate v.0) (estimate c.0) then Ousts Size else
        Leaves Size

    -- the fate of the candidate c beside probation and protected, by the first case that fits: expired, no main, room in main, or the duel
    abbrev pub fate : Caps → Entry K V → List (Entry K V) → List (Entry K V) → Fate
    fate caps c probation protected =
        if is_expired caps now c.1 then Leaves Expired else
        if nat_eq (main_cap caps) 0 then Leaves Size else
        if nat_lt (length probation + length protected) (main_cap caps) then Enters else
        option_map_or (duel caps c) (last_entry probation) (Leaves Size)

    -- window past its cap gives up its last entry, the candidate
    abbrev pub overflowed : Lists K V → Told K V
    overflowed r = option_map_or (λ c. by_fate c (record r { window = all_but_last r.window }) (fate r.caps c r.probation r.protected)) (last_entry r.window) (r, [])

    -- a new entry goes to the front of window
    abbrev pub settled : Entry K V → Lists K V → Told K V
    settled e r = if nat_le (length (e ∷ r.window)) r.caps.window then (grown e r, []) else overflowed (grown e r)

  module _ (eq : K → K → Bool) (k : K) where
    -- whether an entry of another key than k is there
    abbrev pub holds_other : List (Entry K V) → Bool
    holds_other es = list_any (λ e. not (eq k e.0)) es

    -- the last of the first of probation, protected and window that holds another entry leaves
    abbrev pub trimmed_once : Lists K V → Option (Told K V)
    trimmed_once r =
        if holds_other r.probation then Some (record r { probation = all_but_last r.probation }, last_told Size r.probation) else
        if holds_other r.protected then Some (record r { protected = all_but_last r.protected }, last_told Size r.protected) else
        if holds_other r.window then Some (record r { window = all_but_last r.window }, last_told Size r.window) else
        None

    -- the weights come down in at most n such steps, while they sum above the bound
    abbrev pub trimmed_within : ℕ → Lists K V → Told K V
    trimmed_within zero r = (r, [])
    trimmed_within (suc n) r =
        if nat_le (weight_of r) r.caps.bound then (r, []) else
        option_map_or (λ one. let rest : Told K V = trimmed_within n one.0 in (rest.0, one.1 ++ rest.1)) (trimmed_once r) (r, [])

    -- k was just stored, and the weights come down to the bound
    abbrev pub trimmed : Lists K V → Told K V
    trimmed r = trimmed_within (length (all_entries r)) r
