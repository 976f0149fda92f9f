-- The three regions of a cache as lists, and what stands in them.
use Rattle.std.specs.Prelude.{ℕ, ◌-◌, ◌*◌, ◌/◌, nat_le, nat_lt, max, Bool, true, false, not, ◌&&◌, ◌||◌, if◌then◌else◌, List, [], ◌++◌, length, take, Option, sum_by}
use Rattle.std.specs.Option.{option_map_or}
use Rattle.std.specs.Map.{lookup, remove_entry}
use Rattle.wt_regions.specs.declared.caps.Caps.{Caps}
use Rattle.wt_regions.specs.declared.caps.Freshness.{Freshness}
use Rattle.wt_regions.specs.declared.caps.Freshness.TheVariants.{Absent, Fresh, Due}
use Rattle.wt_regions.specs.declared.notices.Cause.{Cause}
use Rattle.wt_regions.specs.declared.notices.Cause.TheVariants.{Explicit, Replaced, Expired, Size}
use Rattle.wt_regions.specs.declared.touch.Found.{Found}
use Rattle.wt_regions.specs.declared.touch.Found.TheVariants as found
use Rattle.wt_regions.specs.declared.held.Held.{Held}
use Rattle.wt_regions.specs.declared.notices.Notice.{Notice}
use Rattle.wt_regions.specs.declared.weighs.Measure.{Measure}
use Rattle.wt_regions.specs.declared.caches.Region.{Region}
use Rattle.wt_regions.specs.declared.caches.Region.TheVariants.{Window, Probation, Protected}

-- a key with what is held for it: value, weight, life, stamp, the moments of writing and of the latest use
abbrev pub Entry : Type 0 → Type 0 → Type 0
Entry K V = K × Held V

-- what is seen of the regions: their limits, and each region with the most recent entry first
pub record Lists (K V : Type 0) : Type 0 where
  pub caps : Caps
  pub window : List (Entry K V)
  pub probation : List (Entry K V)
  pub protected : List (Entry K V)

-- regions with the notices of what left them
abbrev pub Told : Type 0 → Type 0 → Type 0
Told K V = Lists K V × List (Notice K V)

-- how many entries main, that is probation and protected together, may hold: the entries less window
abbrev pub main_cap : Caps → ℕ
main_cap c = c.entries - c.window

-- how many of them protected may hold: four fifths, rounded down
abbrev pub protected_cap : Caps → ℕ
protected_cap c = (4 * main_cap c) / 5

-- whether a duration that is set has gone by since a moment; an age that equals it has
abbrev pub gone_by : Option ℕ → ℕ → ℕ → Bool
gone_by duration since now = option_map_or (λ d. nat_le d (now - since)) duration false

-- whether a life is over that began at a moment; no life is 0, and an age that equals it is over
abbrev pub outlived : ℕ → ℕ → ℕ → Bool
outlived life since now = nat_lt 0 life && nat_le life (now - since)

-- the measure of a value without a life of its own
abbrev pub lasting : ℕ → Measure
lasting weight = record { weight = weight; life = 0 }

-- the measure of a value with a life of its own; a life of no time counts as one millisecond
abbrev pub living : ℕ → ℕ → Measure
living weight life = record { weight = weight; life = max life 1 }

-- the measure of values whose lives are left out
abbrev pub lifeless : {V : Type 0} → (V → Measure) → V → Measure
lifeless measure v = lasting (measure v).weight

-- whether a look-up found a value
abbrev pub is_hit : {V : Type 0} → Found V → Bool
is_hit (found.Hit v) = true
is_hit found.Absent = false
is_hit found.Expired = false

-- whether a cause counts as an eviction: Expired and Size do
abbrev pub is_eviction : Cause → Bool
is_eviction Explicit = false
is_eviction Replaced = false
is_eviction Expired = true
is_eviction Size = true

module _ {V : Type 0} where
  -- what is held for a value stored now
  abbrev pub held : V → Measure → ℕ → ℕ → Held V
  held value measure stamp now = record {
    value = value;
    weight = measure.weight;
    life = measure.life;
    stamp = stamp;
    written = now;
    accessed = now;
  }

  -- the weight and the life that its value had when it was stored
  abbrev pub measured : Held V → Measure
  measured h = record { weight = h.weight; life = h.life }

  -- what is held, read now
  abbrev pub used : ℕ → Held V → Held V
  used now h = record h { accessed = now }

  -- whether it is too long since an entry was written or since it was used, or its own life is over
  abbrev pub is_expired : Caps → ℕ → Held V → Bool
  is_expired c now h = (gone_by c.after_write h.written now || gone_by c.after_access h.accessed now) || outlived h.life h.written now

  -- whether it is time to load an entry again
  abbrev pub is_due : Caps → ℕ → Held V → Bool
  is_due c now h = gone_by c.refresh h.written now

  -- whether an entry is unexpired, and whether it is time to load it again
  abbrev pub freshness_of : Caps → ℕ → Held V → Freshness
  freshness_of c now h = if is_expired c now h then Absent else if is_due c now h then Due else Fresh

module _ {K V : Type 0} where
  -- regions of these limits with these entries
  abbrev pub lists_of : Caps → List (Entry K V) → List (Entry K V) → List (Entry K V) → Lists K V
  lists_of caps window probation protected = record { caps = caps; window = window; probation = probation; protected = protected }

  -- regions with nothing in them
  abbrev pub no_entries : Caps → Lists K V
  no_entries caps = lists_of caps [] [] []

  -- the entries of all three regions
  abbrev pub all_entries : Lists K V → List (Entry K V)
  all_entries r = r.window ++ (r.probation ++ r.protected)

  -- what entries weigh together
  abbrev pub weights : List (Entry K V) → ℕ
  weights es = sum_by (λ (e : Entry K V). e.1.weight) es

  -- what the regions weigh together
  abbrev pub weight_of : Lists K V → ℕ
  weight_of r = weights (all_entries r)

  -- one of the three lists
  abbrev pub region_of : Region → Lists K V → List (Entry K V)
  region_of Window r = r.window
  region_of Probation r = r.probation
  region_of Protected r = r.protected

  -- a list without its last
  abbrev pub all_but_last : List (Entry K V) → List (Entry K V)
  all_but_last es = take (length es - 1) es

  -- what is told of an entry that leaves: key, value, cause
  abbrev pub notice : Cause → Entry K V → Notice K V
  notice cause e = record { key = e.0; value = e.1.value; cause = cause }

  module _ (eq : K → K → Bool) where
    -- what is held for a key
    abbrev pub held_for : K → Lists K V → Option (Held V)
    held_for k r = lookup (eq k) (all_entries r)

    -- the regions without the entry of a key
    abbrev pub without : K → Lists K V → Lists K V
    without k r = record r { window = remove_entry (eq k) r.window; probation = remove_entry (eq k) r.probation; protected = remove_entry (eq k) r.protected }

    -- what a look-up finds: a hit with the value, absent, or expired
    abbrev pub found_at : K → ℕ → Lists K V → Found V
    found_at k now r = option_map_or (λ h. if is_expired r.caps now h then found.Expired else found.Hit h.value) (held_for k r) found.Absent

    -- whether an unexpired entry of the key is there
    abbrev pub has_at : K → ℕ → Lists K V → Bool
    has_at k now r = is_hit (found_at k now r)

    -- whether one is there, and it is time to load it again
    abbrev pub due_at : K → ℕ → Lists K V → Bool
    due_at k now r = option_map_or (λ h. not (is_expired r.caps now h) && is_due r.caps now h) (held_for k r) false

    -- whether an unexpired entry of the key is there, and whether it is time to load it again
    abbrev pub freshness_at : K → ℕ → Lists K V → Freshness
    freshness_at k now r = option_map_or (freshness_of r.caps now) (held_for k r) Absent
