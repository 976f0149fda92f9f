-- What a slide keeps.
use Rattle.std.proofs.Common.{◌≡◌, ℕ, suc, ◌+◌, ◌-◌, ◌<◌, ◌≤◌, Bool, true, false, List, [], ◌∷◌, ◌++◌, length, Option, Some, None, refl, arith, rules, length-append}
use Rattle.std.specs.Prelude.{nat_le, nat_lt, if◌then◌else◌, IfSome}
use Rattle.std.specs.List.{IsDistinct}
use Rattle.std.specs.List.Sorted.{IsPermutation}
use Rattle.std.specs.Map.{keys_of, lookup}
use Rattle.std.specs.Cmp.{IsEquivalence}
use Rattle.std.proofs.lemmas.List.{length-take}
use Rattle.std.proofs.lemmas.List.Sorted.{IsPermutation-refl, IsPermutation-sym, IsPermutation-trans, IsPermutation-middle, IsPermutation-append_left, IsPermutation-append_right, length_permutation}
use Rattle.lru.specs.LruCache.{last_entry}
use Rattle.wt_regions.specs.declared.weighs.Measure.{Measure}
use Rattle.wt_regions.proofs.Moves.{IsPermutation-last}
use Rattle.wt_regions.proofs.Apart.{last_apart, last_below, no_last}
use Rattle.wt_regions.proofs.Settled.{IsSound, sound-moves}
use Rattle.wt_regions.proofs.Weights.{weights-moves}
use Rattle.wt_regions.specs.Lists.{Entry, Lists, all_entries, all_but_last, main_cap, protected_cap, weight_of}
use Rattle.wt_regions.specs.Lawful.{IsFit, IsLawful}
use Rattle.wt_regions.specs.Slide.{wider_caps, narrower_caps, last_past, with_first, less_last, narrowed, widened, slid}

above : (a b : ℕ) → nat_le a b ≡ false → b < a
above a b h = search (rules, arith)

below-is : (a b : ℕ) → nat_lt a b ≡ true → a < b
below-is a b h = search (rules, arith)

within : (a b : ℕ) → nat_le a b ≡ true → a ≤ b
within a b h = search (rules, arith)

module _ {K V : Type 0} where
  fresh_at : (eq : K → K → Bool) (xs ys : List (Entry K V)) (o : Option (Entry K V))
      → ((l : Entry K V) → o ≡ Some l → lookup (eq l.0) xs ≡ None) → IfSome o (λ e. lookup (eq e.0) xs ≡ None)
  fresh_at eq xs ys None h = search rules
  fresh_at eq xs ys (Some l) h = h l refl

  -- the last of a list isn't in another in which no key stands a second time
  pub last-fresh : (eq : K → K → Bool) → IsEquivalence eq → (xs ys : List (Entry K V)) → IsDistinct eq (keys_of (xs ++ ys))
      → IfSome (last_entry ys) (λ e. lookup (eq e.0) xs ≡ None)
  last-fresh eq laws xs ys d = fresh_at eq xs ys (last_entry ys) (λ l h. last_apart eq laws xs ys l d h)

  less-length_at : (most : ℕ) (es : List (Entry K V)) (o : Option (Entry K V)) → last_entry es ≡ o → most < length es
      → suc (length (less_last o es)) ≡ length es
  less-length_at most es None h over =
      let e = no_last es h in
      let none : length es ≡ 0 = rw e refl in
      absurd (omega (arith, none, over))
  less-length_at most es (Some l) h over = let n = length-take (length es - 1) es in omega (arith, n, over)

  past-length_at : (most : ℕ) (es : List (Entry K V)) (x : Bool) → nat_le (length es) most ≡ x → length es ≤ suc most
      → length (less_last (if x then None else last_entry es) es) ≤ most
  past-length_at most es true h low = within (length es) most h
  past-length_at most es false h low =
      let over = above (length es) most h in
      let n = less-length_at most es (last_entry es) refl over in
      omega (arith, n, low)

  -- a list that has one too many at most fits once its last has left
  pub past-length : (most : ℕ) (es : List (Entry K V)) → length es ≤ suc most
      → length (less_last (last_past most (length es) es) es) ≤ most
  past-length most es low = past-length_at most es (nat_le (length es) most) refl low

  -- what comes to the front of one list has left the end of another
  brings : (o : Option (Entry K V)) (to from : List (Entry K V)) → ((l : Entry K V) → o ≡ Some l → last_entry from ≡ Some l)
      → IsPermutation (to ++ from) (with_first o to ++ less_last o from)
  brings None to from h = IsPermutation-refl (to ++ from)
  brings (Some l) to from h =
      IsPermutation-trans (to ++ from) (to ++ (l ∷ all_but_last from)) ((l ∷ to) ++ all_but_last from)
      (IsPermutation-append_right to from (l ∷ all_but_last from) (IsPermutation-last from l (h l refl)))
      (IsPermutation-middle to l (all_but_last from))

  -- the same of a list that others stand behind
  brings-within : (o : Option (Entry K V)) (to from rest : List (Entry K V)) → ((l : Entry K V) → o ≡ Some l → last_entry from ≡ Some l)
      → IsPermutation (to ++ (from ++ rest)) (with_first o to ++ (less_last o from ++ rest))
  brings-within None to from rest h = IsPermutation-refl (to ++ (from ++ rest))
  brings-within (Some l) to from rest h =
      IsPermutation-trans (to ++ (from ++ rest)) (to ++ (l ∷ (all_but_last from ++ rest))) ((l ∷ to) ++ (all_but_last from ++ rest))
      (IsPermutation-append_right to (from ++ rest) ((l ∷ all_but_last from) ++ rest)
      (IsPermutation-append_left rest from (l ∷ all_but_last from) (IsPermutation-last from l (h l refl))))
      (IsPermutation-middle to l (all_but_last from ++ rest))

  -- what has left the end of the first list comes to the front of the second
  gives : (o : Option (Entry K V)) (from to rest : List (Entry K V)) → ((l : Entry K V) → o ≡ Some l → last_entry from ≡ Some l)
      → IsPermutation (from ++ (to ++ rest)) (less_last o from ++ (with_first o to ++ rest))
  gives None from to rest h = IsPermutation-refl (from ++ (to ++ rest))
  gives (Some l) from to rest h =
      IsPermutation-trans (from ++ (to ++ rest)) ((l ∷ all_but_last from) ++ (to ++ rest)) (all_but_last from ++ (l ∷ (to ++ rest)))
      (IsPermutation-append_left (to ++ rest) from (l ∷ all_but_last from) (IsPermutation-last from l (h l refl)))
      (IsPermutation-sym _ _ (IsPermutation-middle (all_but_last from) l (to ++ rest)))

  past-last_at : (x : Bool) (es : List (Entry K V)) (l : Entry K V)
      → (if x then None else last_entry es) ≡ Some l → last_entry es ≡ Some l
  past-last_at true es l h = cc
  past-last_at false es l h = h

  past-last : (most n : ℕ) (es : List (Entry K V)) (l : Entry K V) → last_past most n es ≡ Some l → last_entry es ≡ Some l
  past-last most n es l h = past-last_at (nat_le n most) es l h

  last-behind : (o : Option (Entry K V)) (es : List (Entry K V)) (l : Entry K V) → last_entry es ≡ Some l
      → last_entry (with_first o es) ≡ Some l
  last-behind None es l h = h
  last-behind (Some e) es l h = last_below e es l h

  first-length : (o : Option (Entry K V)) (es : List (Entry K V)) → length (with_first o es) ≤ suc (length es)
  first-length None es = omega arith
  first-length (Some e) es = omega arith

  nonempty : (es : List (Entry K V)) (l : Entry K V) → last_entry es ≡ Some l → 0 < length es
  nonempty [] l h = cc
  nonempty (e ∷ es) l h = omega arith

  -- probation's last leaves main if main has one too many
  main-length_at : (most n : ℕ) (ps ps2 : List (Entry K V)) (x : Bool) (o : Option (Entry K V)) (q : ℕ) → nat_le n most ≡ x
      → last_entry ps ≡ o → length ps2 + q ≡ n → n ≤ suc most → (0 < length ps → 0 < length ps2) → n - length ps ≤ most
      → length (less_last (if x then None else o) ps2) + q ≤ most
  main-length_at most n ps ps2 true o q h is sum low some few = let t = within n most h in omega (arith, t, sum)
  main-length_at most n ps ps2 false None q h is sum low some few =
      let e = no_last ps is in
      let none : length ps ≡ 0 = rw e refl in
      let over = above n most h in
      absurd (omega (arith, none, few, over))
  main-length_at most n ps ps2 false (Some l) q h is sum low some few =
      let over = above n most h in
      let there = nonempty ps l is in
      let t = some there in
      let m = length-take (length ps2 - 1) ps2 in
      omega (arith, m, sum, low, t)

  module _ (r : Lists K V) where
    pub narrowed-moves : IsPermutation (all_entries r) (all_entries (narrowed r))
    narrowed-moves =
        gives (last_past (narrower_caps r.caps).window (length r.window) r.window) r.window r.probation r.protected
        (past-last (narrower_caps r.caps).window (length r.window) r.window)

    abbrev back : Option (Entry K V)
    back = last_past (protected_cap (wider_caps r.caps)) (length r.protected) r.protected

    abbrev given : Option (Entry K V)
    given = last_past (main_cap (wider_caps r.caps)) (length r.probation + length r.protected) r.probation

    main-moves : IsPermutation (r.probation ++ r.protected) (with_first back r.probation ++ less_last back r.protected)
    main-moves = brings back r.probation r.protected (past-last (protected_cap (wider_caps r.caps)) (length r.protected) r.protected)

    given-last : (l : Entry K V) → given ≡ Some l → last_entry (with_first back r.probation) ≡ Some l
    given-last l h = last-behind back r.probation l
        (past-last (main_cap (wider_caps r.caps)) (length r.probation + length r.protected) r.probation l h)

    pub widened-moves : IsPermutation (all_entries r) (all_entries (widened r))
    widened-moves =
        IsPermutation-trans (all_entries r) (r.window ++ (with_first back r.probation ++ less_last back r.protected)) (all_entries (widened r))
        (IsPermutation-append_right r.window (r.probation ++ r.protected) (with_first back r.probation ++ less_last back r.protected) main-moves)
        (brings-within given r.window (with_first back r.probation) (less_last back r.protected) given-last)

    first-some : (o : Option (Entry K V)) (es : List (Entry K V)) → 0 < length es → 0 < length (with_first o es)
    first-some None es h = h
    first-some (Some e) es h = omega arith

    module _ (eq : K → K → Bool) (laws : IsEquivalence eq) (measure : V → Measure) (law : IsLawful eq measure r) where
      lawful-slid : (s : Lists K V) → IsPermutation (all_entries r) (all_entries s) → IsFit s.caps → s.caps.bound ≡ r.caps.bound
          → length s.window ≤ s.caps.window → length s.protected ≤ protected_cap s.caps
          → length s.probation + length s.protected ≤ main_cap s.caps
          → IsLawful eq measure s × (weight_of s ≡ weight_of r)
      lawful-slid s moved fit same w q m =
          let sound : IsSound eq laws measure (all_entries s) = sound-moves eq laws measure (all_entries r) (all_entries s) moved
          (record { distinct = law.distinct; measures = law.measures }) in
          let heavy : weight_of s ≡ weight_of r = weights-moves (all_entries r) (all_entries s) moved in (
            record {
              fit = fit;
              distinct = sound.distinct;
              window = w;
              protected = q;
              main_part = m;
              measures = sound.measures;
              bound = rw (heavy, same) law.bound;
            },
            heavy,
          )

      narrowed-lawful : 1 < r.caps.window → IsLawful eq measure (narrowed r) × (weight_of (narrowed r) ≡ weight_of r)
      narrowed-lawful some =
          let first = first-length (last_past (narrower_caps r.caps).window (length r.window) r.window) r.probation in
          lawful-slid (narrowed r) narrowed-moves
          (record {
            some_window = omega (arith, some);
            window = omega (arith, law.fit.window);
            entries = law.fit.entries;
            bound = law.fit.bound;
          })
          refl (past-length (narrower_caps r.caps).window r.window (omega (arith, law.window, some)))
          (omega (arith, law.protected)) (omega (arith, law.main_part, law.fit.window, some, first))

      widened-lawful : r.caps.window < r.caps.entries → IsLawful eq measure (widened r) × (weight_of (widened r) ≡ weight_of r)
      widened-lawful some =
          let first = first-length given r.window in
          let low : length r.protected ≤ suc (protected_cap (wider_caps r.caps)) = omega (arith, law.protected) in
          let kept = length_permutation (r.probation ++ r.protected) (with_first back r.probation ++ less_last back r.protected) main-moves in
          let sum : length (with_first back r.probation) + length (less_last back r.protected) ≡ length r.probation + length r.protected =
          omega (
            arith,
            kept,
            length-append r.probation r.protected,
            length-append (with_first back r.probation) (less_last back r.protected),
          ) in
          lawful-slid (widened r) widened-moves
          (record {
            some_window = omega arith;
            window = omega (arith, some);
            entries = law.fit.entries;
            bound = law.fit.bound;
          })
          refl (omega (arith, law.window, first)) (past-length (protected_cap (wider_caps r.caps)) r.protected low)
          (main-length_at (main_cap (wider_caps r.caps)) (length r.probation + length r.protected) r.probation (with_first back r.probation)
          (nat_le (length r.probation + length r.protected) (main_cap (wider_caps r.caps))) (last_entry r.probation)
          (length (less_last back r.protected)) refl refl sum (omega (arith, law.main_part, some))
          (first-some back r.probation) (omega (arith, law.protected, some)))

      -- a slide keeps regions lawful, and what they weigh
      slid-lawful_at : (wider x : Bool) → (if wider then nat_lt r.caps.window r.caps.entries else nat_lt 1 r.caps.window) ≡ x
          → IsLawful eq measure (if x then (if wider then widened r else narrowed r) else r)
          × (weight_of (if x then (if wider then widened r else narrowed r) else r) ≡ weight_of r)
      slid-lawful_at true true h = widened-lawful (below-is r.caps.window r.caps.entries h)
      slid-lawful_at false true h = narrowed-lawful (below-is 1 r.caps.window h)
      slid-lawful_at true false h = (law, refl)
      slid-lawful_at false false h = (law, refl)

      pub slid-lawful : (wider : Bool) → IsLawful eq measure (slid wider r) × (weight_of (slid wider r) ≡ weight_of r)
      slid-lawful true = slid-lawful_at true (nat_lt r.caps.window r.caps.entries) refl
      slid-lawful false = slid-lawful_at false (nat_lt 1 r.caps.window) refl

    slid-moves_at : (wider x : Bool) → IsPermutation (all_entries r) (all_entries (if x then (if wider then widened r else narrowed r) else r))
    slid-moves_at true true = widened-moves
    slid-moves_at false true = narrowed-moves
    slid-moves_at true false = IsPermutation-refl (all_entries r)
    slid-moves_at false false = IsPermutation-refl (all_entries r)

    -- no entry leaves in a slide, and none comes
    pub slid-moves : (wider : Bool) → IsPermutation (all_entries r) (all_entries (slid wider r))
    slid-moves true = slid-moves_at true (nat_lt r.caps.window r.caps.entries)
    slid-moves false = slid-moves_at false (nat_lt 1 r.caps.window)
