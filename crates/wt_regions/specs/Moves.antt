-- What the functions on the three caches promise, and a store.
use Rattle.std.specs.Prelude.{◌≡◌, ℕ, zero, suc, ◌+◌, ◌≤◌, Bool, if◌then◌else◌, List, [], ◌∷◌, ◌++◌, drop, length, Option, Some, None, sum_by, All}
use Rattle.std.specs.List.{IsDistinct}
use Rattle.std.specs.Option.{option_map_or}
use Rattle.std.specs.Map.{keys_of, lookup, lookup_entry, remove_entry}
use Rattle.lru.specs.LruCache.{LruCache, last_entry, lru_cache}
use Rattle.wt_sketch.specs.Sketch.{Counters, estimate_of}
use Rattle.wt_regions.specs.declared.caps.Caps.{Caps}
use Rattle.wt_regions.specs.declared.notices.Cause.{Cause}
use Rattle.wt_regions.specs.declared.notices.Cause.TheVariants as cause
use Rattle.wt_regions.specs.declared.notices.Notice.{Notice}
use Rattle.wt_regions.specs.declared.held.Held.{Held}
use Rattle.wt_regions.specs.declared.touch.Seen.{Seen}
use Rattle.wt_regions.specs.declared.touch.Seen.TheVariants.{InWindow, InProbation, InProtected, Nowhere, Expired}
use Rattle.wt_regions.specs.declared.weighs.Measure.{Measure}
use Rattle.wt_regions.specs.Lists.{Entry, Lists, Told, lists_of, all_entries, all_but_last, without, notice, weight_of, main_cap, protected_cap, is_expired, measured, used}
use Rattle.wt_regions.specs.Notices.{NoticeList, appended}
use Rattle.wt_regions.specs.Lawful.{IsFit}
use Rattle.wt_regions.specs.Settle.{grown, overflowed, settled}
use Rattle.wt_regions.specs.Steps.{new_entry, placed, stored}

-- how often each key was counted, by a sketch
abbrev pub estimates : {K : Type 0} → Counters → (K → ℕ) → K → ℕ
estimates s word = λ k. estimate_of s (word k)

-- how many places the cache of a region has that may hold `most` entries: no cache has none
abbrev pub places_of : ℕ → ℕ
places_of zero = 1
places_of (suc n) = suc n

-- what weighs that was held, if anything was
abbrev pub heft : {V : Type 0} → Option (Held V) → ℕ
heft o = option_map_or (λ h. h.weight) o 0

module _ {K V : Type 0} where
  -- the regions that three caches hold
  abbrev pub in_caches : Caps → LruCache K (Held V) → LruCache K (Held V) → LruCache K (Held V) → Lists K V
  in_caches caps window probation protected = lists_of caps window.entries probation.entries protected.entries

  -- a cache with a new entry first
  abbrev pub pushed : Entry K V → LruCache K (Held V) → LruCache K (Held V)
  pushed e cache = lru_cache (e ∷ cache.entries) cache.cap

  -- a full cache with a new entry first, whose last leaves
  abbrev pub pushed_past : Entry K V → LruCache K (Held V) → LruCache K (Held V)
  pushed_past e cache = lru_cache (all_but_last (e ∷ cache.entries)) cache.cap

  -- what is told of an entry that left, if there is one
  abbrev pub told_left : Cause → Option (Entry K V) → List (Notice K V)
  told_left why left = option_map_or (λ e. notice why e ∷ []) left []

  -- what is told of what was held for a key, if anything was
  abbrev pub told_held : Cause → K → Option (Held V) → List (Notice K V)
  told_held why k o = option_map_or (λ h. notice why (k, h) ∷ []) o []

  -- the regions weigh so much together with what left them
  abbrev pub WeighsUp : ℕ → Lists K V → ℕ → Type 0
  WeighsUp total r gone = weight_of r + gone ≡ total

  -- a new entry comes to the front of a full window, whose last goes to probation's front
  abbrev pub passed_on : Entry K V → Lists K V → Lists K V
  passed_on e r = lists_of r.caps (all_but_last (e ∷ r.window)) (option_map_or (λ l. l ∷ r.probation) (last_entry r.window) r.probation) r.protected

  -- a new entry comes to the front of a full window, whose last goes to probation's front unless it is expired
  abbrev pub passed_live : ℕ → Entry K V → Lists K V → Lists K V
  passed_live now e r = lists_of r.caps (all_but_last (e ∷ r.window))
      (option_map_or (λ l. if is_expired r.caps now l.1 then r.probation else l ∷ r.probation) (last_entry (e ∷ r.window)) r.probation) r.protected

  -- the last of a full window to which a new entry comes, if it is expired
  abbrev pub last_expired : ℕ → Entry K V → Lists K V → Option (Entry K V)
  last_expired now e r = option_map_or (λ l. if is_expired r.caps now l.1 then Some l else None) (last_entry (e ∷ r.window)) None

  -- what one step of trim did to regions r and notices t: o is the step, w the weight that left
  abbrev pub IsStep : Option (Told K V) → Lists K V → NoticeList K V → Option ℕ → Lists K V → NoticeList K V → Type 0
  IsStep None r t w r' t' = (w ≡ None) × (r' ≡ r) × (t' ≡ t)
  IsStep (Some one) r t w r' t' = (r' ≡ one.0) × (t' ≡ appended one.1 t) × ((n : ℕ) × (w ≡ Some n) × (weight_of r' + n ≡ weight_of r))

  -- no entry has a life of its own
  abbrev pub HasNoLives : Lists K V → Type 0
  HasNoLives r = All (λ (e : Entry K V). e.1.life ≡ 0) (all_entries r)

  module _ (eq : K → K → Bool) (k : K) where
    -- the entry of k, with what is held now, in front of the others
    abbrev pub in_front : (Held V → Held V) → List (Entry K V) → List (Entry K V)
    in_front f es = option_map_or (λ (e : Entry K V). (e.0, f e.1) ∷ remove_entry (eq k) es) (lookup_entry (eq k) es) es

    -- a cache with the entry of k in front of the others
    abbrev pub fronted : (Held V → Held V) → LruCache K (Held V) → LruCache K (Held V)
    fronted f cache = lru_cache (in_front f cache.entries) cache.cap

    -- the regions without the entry of k in probation or protected
    abbrev pub without_below : Lists K V → Lists K V
    without_below r = lists_of r.caps r.window (remove_entry (eq k) r.probation) (remove_entry (eq k) r.protected)

    -- a new entry settles, and then the expired one of its key leaves probation or protected
    abbrev pub settled_past : Held V → Lists K V → Told K V
    settled_past h r =
        let new : Told K V = settled (λ _. 0) h.written (k, h) (without eq k r) in
        (new.0, told_held cause.Expired k (lookup (eq k) (r.probation ++ r.protected)) ++ new.1)

    -- where a look-up finds an entry, with what its use needs
    abbrev pub seen_at : ℕ → Lists K V → Seen V
    seen_at now r =
        option_map_or (λ h. if is_expired r.caps now h then Expired else InProtected h.value) (lookup (eq k) r.protected)
        (option_map_or (λ h. if is_expired r.caps now h then Expired else InProbation h.value (used now h)) (lookup (eq k) r.probation)
        (option_map_or (λ h. if is_expired r.caps now h then Expired else InWindow h.value) (lookup (eq k) r.window)
        Nowhere))

    -- how many entries have another key than k
    abbrev pub others : List (Entry K V) → ℕ
    others es = sum_by (λ (e : Entry K V). if eq k e.0 then 0 else 1) es

    -- the entry of k is nowhere but first
    pub record IsFirst (r : Lists K V) : Type 0 where
      pub window : lookup (eq k) (drop 1 r.window) ≡ None
      pub probation : lookup (eq k) (drop 1 r.probation) ≡ None
      pub protected : lookup (eq k) (drop 1 r.protected) ≡ None

  -- all that holds of lawful regions, but for the bound
  pub record IsPlaced (eq : K → K → Bool) (measure : V → Measure) (r : Lists K V) : Type 0 where
    pub fit : IsFit r.caps
    pub distinct : IsDistinct eq (keys_of (all_entries r))
    pub window : length r.window ≤ r.caps.window
    pub protected : length r.protected ≤ protected_cap r.caps
    pub main_part : length r.probation + length r.protected ≤ main_cap r.caps
    pub measures : All (λ (e : Entry K V). measured e.1 ≡ measure e.1.value) (all_entries r)

  -- such regions, whose window is full and has no entry of k
  pub record HasFullWindow (eq : K → K → Bool) (measure : V → Measure) (k : K) (r : Lists K V) : Type 0 where
    pub placed : IsPlaced eq measure r
    pub elsewhere : lookup (eq k) r.window ≡ None
    pub full : r.caps.window ≤ length r.window

module _ {K V : Type 0} (word : K → ℕ) (s : Counters) (k : K) where
  -- a new entry comes to window, which past its cap gives up its last, at the moment when the entry was written
  abbrev pub overflowing : Held V → Lists K V → Told K V
  overflowing h r = overflowed (estimates s word) h.written (grown (k, h) r)

  -- a new entry settles at the moment when it was written
  abbrev pub settling : Held V → Lists K V → Told K V
  settling h r = settled (estimates s word) h.written (k, h) r

  module _ (eq : K → K → Bool) where
    -- an entry is placed at the moment when it was written
    abbrev pub placing : Held V → Lists K V → Told K V
    placing h r = placed eq (estimates s word) h.written (k, h) r

    -- a value is stored now, by the step of this number
    abbrev pub storing : (V → Measure) → V → ℕ → ℕ → Lists K V → Told K V
    storing measure v now stamp r = stored eq (estimates s word) now (new_entry measure k v now stamp) r
