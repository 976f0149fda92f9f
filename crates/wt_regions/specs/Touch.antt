-- The use of an entry.
use Rattle.std.specs.Prelude.{ℕ, nat_lt, Bool, if◌then◌else◌, List, ◌∷◌, length}
use Rattle.std.specs.Option.{option_map_or}
use Rattle.std.specs.Map.{lookup_entry, remove_entry}
use Rattle.lru.specs.LruCache.{last_entry}
use Rattle.wt_regions.specs.declared.caps.Caps.{Caps}
use Rattle.wt_regions.specs.declared.touch.Found.{Found}
use Rattle.wt_regions.specs.declared.touch.Found.TheVariants.{Hit, Absent, Expired}
use Rattle.wt_regions.specs.declared.held.Held.{Held}
use Rattle.wt_regions.specs.Lists.{Entry, Lists, all_but_last, protected_cap, found_at, used}

module _ {K V : Type 0} where
  -- an entry of probation goes to the front of protected, and if that is past its cap its last goes to the front of probation
  abbrev pub promoted : Caps → Entry K V → List (Entry K V) → List (Entry K V) → List (Entry K V) × List (Entry K V)
  promoted c e probation protected =
      if nat_lt (length protected) (protected_cap c) then (probation, e ∷ protected) else
      option_map_or (λ last. (last ∷ probation, all_but_last (e ∷ protected))) (last_entry (e ∷ protected)) (probation, e ∷ protected)

  module _ (eq : K → K → Bool) where
    -- the entry of the key, as f leaves it, goes where its use puts it: the rule of segmented LRU
    abbrev pub touched : K → (Held V → Held V) → Lists K V → Lists K V
    touched k f r =
        option_map_or (λ e. record r { window = (e.0, f e.1) ∷ remove_entry (eq k) r.window }) (lookup_entry (eq k) r.window)
        (option_map_or (λ e. let m : List (Entry K V) × List (Entry K V) = promoted r.caps (e.0, f e.1) (remove_entry (eq k) r.probation) r.protected in
        record r { probation = m.0; protected = m.1 }) (lookup_entry (eq k) r.probation)
        (option_map_or (λ e. record r { protected = (e.0, f e.1) ∷ remove_entry (eq k) r.protected }) (lookup_entry (eq k) r.protected)
        r))

    -- by what a look-up finds: an unexpired entry is used now
    abbrev pub used_if : K → ℕ → Found V → Lists K V → Lists K V
    used_if k now (Hit v) r = touched k (used now) r
    used_if k now Absent r = r
    used_if k now Expired r = r

    -- what a look-up leaves
    abbrev pub looked_at : K → ℕ → Lists K V → Lists K V
    looked_at k now r = used_if k now (found_at eq k now r) r
