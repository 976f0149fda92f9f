-- Worked examples of the regions, computed by the definitions alone.
use Rattle.std.proofs.Common.{◌≡◌, ℕ, Bool, true, false, List, [], ◌∷◌, map, None, Some, refl}
use Rattle.std.specs.Prelude.{nat_eq, Option, ◌+◌}
use Rattle.std.specs.List.{count_by}
use Rattle.std.specs.Map.{keys_of}
use Rattle.wt_regions.specs.declared.caps.Caps.{Caps}
use Rattle.wt_regions.specs.declared.notices.Cause.{Cause}
use Rattle.wt_regions.specs.declared.notices.Cause.TheVariants.{Expired, Size}
use Rattle.wt_regions.specs.declared.notices.Notice.{Notice}
use Rattle.wt_regions.specs.declared.weighs.Measure.{Measure}
use Rattle.wt_regions.specs.declared.touch.Found.TheVariants.{Hit, Expired as FoundExpired}
use Rattle.wt_regions.specs.Lists.{Lists, Told, no_entries, lasting, found_at, living}
use Rattle.wt_regions.specs.Touch.{looked_at}
use Rattle.wt_regions.specs.Slide.{slid}
use Rattle.wt_regions.specs.Steps.{stored, cleaned, new_entry}

abbrev caps : ℕ → ℕ → ℕ → Option ℕ → Caps
caps entries window bound write =
    record {
      entries = entries;
      window = window;
      bound = bound;
      after_write = write;
      after_access = None;
      refresh =
          None;
    }

-- a key's own uses stand for the sketch; a value is its version, and weighs 1 + key mod 10 where it is weighed
abbrev uses : List ℕ → ℕ → ℕ
uses counted k = count_by (nat_eq k) counted

-- regions, the keys counted so far, and the notices of the latest step as key, version, cause
pub record Run : Type 0 where
  pub regions : Lists ℕ ℕ
  pub counted : List ℕ
  pub told : List (ℕ × (ℕ × Cause))

abbrev opened : Caps → Run
opened c = record { regions = no_entries c; counted = []; told = [] }

abbrev seen : List (Notice ℕ ℕ) → List (ℕ × (ℕ × Cause))
seen ns = map (λ n. (n.key, (n.value, n.cause))) ns

abbrev after : Run → ℕ → Told ℕ ℕ → Run
after s k t = record { regions = t.0; counted = k ∷ s.counted; told = seen t.1 }

-- a value stored under k at the moment now, by step number version
abbrev put : (ℕ → Measure) → ℕ → ℕ → ℕ → Run → Run
put measure k version now s = after s k (stored nat_eq (uses s.counted) now (new_entry measure k version now version) s.regions)

abbrev look : ℕ → ℕ → Run → Run
look k now s = after s k (looked_at nat_eq k now s.regions, [])

abbrev one : ℕ → Measure
one v = lasting 1

abbrev puts : List ℕ → ℕ → Run → Run
puts [] n s = s
puts (k ∷ ks) n s = puts ks (n + 1) (put one k n 0 s)

abbrev looks : List ℕ → Run → Run
looks [] s = s
looks (k ∷ ks) s = looks ks (look k 0 s)

abbrev order : Run → List (List ℕ)
order s = keys_of s.regions.window ∷ keys_of s.regions.probation ∷ keys_of s.regions.protected ∷ []

-- a hit in probation brings the entry to protected, and protected's last goes back to probation's front
pub a_hit_in_probation_promotes : order
    (looks (1 ∷ 2 ∷ 3 ∷ []) (puts (1 ∷ 2 ∷ 3 ∷ 4 ∷ []) 1 (opened (caps 4 1 1000 None))))
    ≡ (4 ∷ []) ∷ (1 ∷ []) ∷ (3 ∷ 2 ∷ []) ∷ []
a_hit_in_probation_promotes = refl

-- with no place in protected the entry goes to probation's front
pub with_no_place_in_protected : order (look 1 0 (puts (1 ∷ 2 ∷ []) 1 (opened (caps 2 1 1000 None)))) ≡ (2 ∷ []) ∷ (1 ∷ []) ∷ [] ∷ []
with_no_place_in_protected = refl

-- with window alone, the last of window leaves
pub with_window_alone_the_last_leaves : (puts (1 ∷ 2 ∷ 3 ∷ []) 1 (opened (caps 2 2 1000 None))).told ≡ (1, (1, Size)) ∷ []
with_window_alone_the_last_leaves = refl

abbrev five : Run
five = look 1 0 (puts (1 ∷ 2 ∷ 3 ∷ 4 ∷ []) 1 (opened (caps 4 1 1000 None)))

-- ties refuse the candidates 4 and 5; then 4, counted twice, ousts 2
pub a_tie_refuses_the_candidate : (puts (5 ∷ []) 6 five).told ∷ (puts (5 ∷ 4 ∷ []) 6 five).told
    ∷ (puts (5 ∷ 4 ∷ 6 ∷ []) 6 five).told ∷ []
    ≡ ((4, (4, Size)) ∷ []) ∷ ((5, (6, Size)) ∷ []) ∷ ((2, (2, Size)) ∷ []) ∷ []
a_tie_refuses_the_candidate = refl

-- weights 4 and 3 are above the bound of 5: the older entry leaves
pub the_weight_is_trimmed : (put (λ v. lasting 3) 2 3 0 (put (λ v. lasting 4) 3 2 0 (opened (caps 4 1 5 None)))).told ≡ (3, (2, Size)) ∷ []
the_weight_is_trimmed = refl

-- an expired candidate leaves as such, and a clean goes from the last to the first
abbrev old : Run
old = put one 5 5 100 (puts (1 ∷ 2 ∷ 3 ∷ 4 ∷ []) 1 (opened (caps 4 1 1000 (Some 100))))

pub expired_entries_leave : old.told ∷ (put one 6 6 150 old).told ∷ seen
    (cleaned 150 (put one 6 6 150 old).regions).1 ∷ []
    ≡ ((4, (4, Expired)) ∷ []) ∷ ((1, (1, Expired)) ∷ []) ∷ ((2, (2, Expired)) ∷ (3, (3, Expired)) ∷ []) ∷ []
expired_entries_leave = refl

-- an own expired entry leaves as Expired and not as Replaced
pub an_own_expired_entry_leaves_as_expired : (put one 1 2 100 (put one 1 1 0 (opened (caps 4 1 1000 (Some 100))))).told
    ≡ (1, (1, Expired)) ∷ []
an_own_expired_entry_leaves_as_expired = refl

-- a value that lives 20, in a cache whose entries expire at 100
abbrev short : Run
short = put (λ v. living 1 20) 1 10 5 (opened (caps 4 1 1000 (Some 100)))

-- it is there until 20 have gone by since it was stored at 5
pub a_life_ends : found_at nat_eq 1 24 short.regions ∷ found_at nat_eq 1 25 short.regions ∷ [] ≡ Hit 10 ∷ FoundExpired ∷ []
a_life_ends = refl

-- a store gives its own life, or none
pub a_store_gives_its_own_life : found_at nat_eq 1 89 (put (λ v. living 1 80) 1 11 10 short).regions
    ∷ found_at nat_eq 1 90 (put (λ v. living 1 80) 1 11 10 short).regions ∷ found_at nat_eq 1 109 (put one 1 12 10 short).regions
    ∷ found_at nat_eq 1 110 (put one 1 12 10 short).regions ∷ [] ≡ Hit 11 ∷ FoundExpired ∷ Hit 12 ∷ FoundExpired ∷ []
a_store_gives_its_own_life = refl

-- a use doesn't prolong it
pub a_use_prolongs_no_life : found_at nat_eq 1 25 (look 1 20 short).regions ≡ FoundExpired
a_use_prolongs_no_life = refl

-- a victim that has outlived itself leaves without a duel
pub an_outlived_victim_leaves : (put one 3 3 6 (looks (1 ∷ []) (put one 2 2 1 (put (λ v. living 1 5) 1 1 0 (opened (caps 2 1 1000 None)))))).told
    ≡ (1, (1, Expired)) ∷ []
an_outlived_victim_leaves = refl

-- a slide of the border
abbrev slide : Bool → Run → Run
slide wider s = after s 0 (slid wider s.regions, [])

-- 3, 2 and 1 fill main, whose protected part may hold two
abbrev full : Run
full = puts (1 ∷ 2 ∷ 3 ∷ 4 ∷ 5 ∷ []) 1 (opened (caps 5 2 1000 None))

pub narrower_gives_windows_last_to_probation : order (slide false full) ≡ (5 ∷ []) ∷ (4 ∷ 3 ∷ 2 ∷ 1 ∷ []) ∷ [] ∷ []
narrower_gives_windows_last_to_probation = refl

pub wider_gives_probations_last_to_window : order (slide true full) ≡ (1 ∷ 5 ∷ 4 ∷ []) ∷ (3 ∷ 2 ∷ []) ∷ [] ∷ []
wider_gives_probations_last_to_window = refl

-- with 2 and 1 used, protected is full, and may then hold one
pub wider_gives_protecteds_last_to_probation : order (slide true (looks (1 ∷ 2 ∷ []) full)) ≡ (3 ∷ 5 ∷ 4 ∷ []) ∷ (1 ∷ []) ∷ (2 ∷ []) ∷ []
wider_gives_protecteds_last_to_probation = refl

-- a window of all entries is as wide as can be, one of a single entry as narrow
pub at_an_end_nothing_moves : (slide true (puts (1 ∷ []) 1 (opened (caps 2 2 1000 None)))).regions.caps.window
    ∷ (slide false (puts (1 ∷ []) 1 (opened (caps 2 1 1000 None)))).regions.caps.window ∷ [] ≡ 2 ∷ 1 ∷ []
at_an_end_nothing_moves = refl

-- the regions that have room take no entry over
pub with_room_no_entry_moves : order (slide true (puts (1 ∷ []) 1 (opened (caps 3 1 1000 None)))) ≡ (1 ∷ []) ∷ [] ∷ [] ∷ []
with_room_no_entry_moves = refl
