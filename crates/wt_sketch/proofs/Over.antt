-- The estimate of a key is never below the key's count by itself.
use Rattle.std.proofs.Common.{◌≡◌, ℕ, zero, suc, ◌+◌, ◌*◌, ◌/◌, ◌^◌, ◌<◌, ◌≤◌, List, [], ◌∷◌, map, length, set, min, Bool, true, false, ◌||◌, ◌&&◌, nat_lt, nat_le, nat_eq, cond, inl, inr, refl, sym, ap, subst, ◌∙◌, arith}
use Rattle.std.proofs.lemmas.Bool.Decides.{nat_tests}
use Rattle.std.proofs.lemmas.Bool.{cases_eq, eqb-true}
use Rattle.std.proofs.lemmas.List.{get_or-set_same, get_or-set_other, length-set, length-map, length-replicate}
use Rattle.std.proofs.Math.ListN.{get_or-map}
use Rattle.wt_keys.specs.Hash.{places, place, mixed, bits_for, bits_from}
use Rattle.wt_keys.proofs.Powers.{highest}
use Rattle.wt_sketch.specs.Sketch.{Counters, half, places_in, at, rises, raised, rose, with_addition, halved, counted, counted_word, counted_words, estimate, estimate_of, nothing_counted, new_row}
use Rattle.wt_sketch.specs.Alone.{halves, alone_next, alone_from, alone}

-- ---- one counter of one row
raised_same : (row : List ℕ) (q : ℕ) → q < length row → at (raised q row) q ≡ cond (nat_lt (at row q) 15) (at row q + 1) (at row q)
raised_same row q h = by_test (nat_lt (at row q) 15)
  where
    by_test : (b : Bool) → at (cond b (set row q (at row q + 1)) row) q ≡ cond b (at row q + 1) (at row q)
    by_test true = get_or-set_same row q (at row q + 1) 0 h
    by_test false = refl

raised_other : (row : List ℕ) (p q : ℕ) → (q ≡ p → ⊥) → at (raised p row) q ≡ at row q
raised_other row p q h = by_test (rises p row)
  where
    by_test : (b : Bool) → at (cond b (set row p (at row p + 1)) row) q ≡ at row q
    by_test true = get_or-set_other row p q (at row p + 1) 0 h
    by_test false = refl

length-raised : (row : List ℕ) (p : ℕ) → length (raised p row) ≡ length row
length-raised row p = by_test (rises p row)
  where
    by_test : (b : Bool) → length (cond b (set row p (at row p + 1)) row) ≡ length row
    by_test true = length-set row p (at row p + 1)
    by_test false = refl

risen_least : (n v : ℕ) → n ≤ v → cond (nat_lt n 15) (n + 1) n ≤ cond (nat_lt v 15) (v + 1) v
risen_least n v h = grind (arith, nat_tests)

never_lower : (row : List ℕ) (p q : ℕ) → q < length row → at row q ≤ at (raised p row) q
never_lower row p q h =
    elim (cases_eq q p) [
      | inl e ↦ let same : at (raised q row) q ≡ cond (nat_lt (at row q) 15) (at row q + 1) (at row q) = raised_same row q h in
          let more : at row q ≤ cond (nat_lt (at row q) 15) (at row q + 1) (at row q) = grind (arith, nat_tests) in
          subst (λ (r : ℕ). at row q ≤ at (raised r row) q) e (rw same more)
      | inr other ↦ let same : at (raised p row) q ≡ at row q = raised_other row p q other in rw same (omega arith)
    ]

-- the key's own number after a count, before a halving
abbrev risen : Bool → ℕ → ℕ
risen same n = cond (same && nat_lt n 15) (n + 1) n

risen_within : (row : List ℕ) (p q n : ℕ) (same : Bool) → q < length row → (same ≡ true → p ≡ q) → n ≤ at row q
    → risen same n ≤ at (raised p row) q
risen_within row p q n true h is under =
    let e : p ≡ q = is refl in
    let own : at (raised q row) q ≡ cond (nat_lt (at row q) 15) (at row q + 1) (at row q) = raised_same row q h in
    subst (λ (r : ℕ). cond (nat_lt n 15) (n + 1) n ≤ at (raised r row) q) (sym e) (rw own (risen_least n (at row q) under))
risen_within row p q n false h is under = let more = never_lower row p q h in omega (arith, more)

half_at : (row : List ℕ) (q : ℕ) → at (map half row) q ≡ half (at row q)
half_at row q = get_or-map half row q 0

row_next : (row : List ℕ) (p q n : ℕ) (same age : Bool) → q < length row → (same ≡ true → p ≡ q) → n ≤ at row q
    → cond age (half (risen same n)) (risen same n) ≤ at (cond age (map half (raised p row)) (raised p row)) q
row_next row p q n same true h is under =
    let before = risen_within row p q n same h is under in
    let halving : at (map half (raised p row)) q ≡ at (raised p row) q / 2 = half_at (raised p row) q in
    rw halving (omega (arith, before))
row_next row p q n same false h is under = risen_within row p q n same h is under

length-row_next : (row : List ℕ) (p : ℕ) (age : Bool) → length (cond age (map half (raised p row)) (raised p row)) ≡ length row
length-row_next row p true = length-map (raised p row) half ∙ length-raised row p
length-row_next row p false = length-raised row p

-- ---- a row of a counted sketch
picked : (f : Counters → List ℕ) (rose e mine : Bool) (s t : Counters) (more : List ℕ) → f (halved t) ≡ map half (f t)
    → f t ≡ cond mine more (f s) → (mine ≡ true → rose ≡ true)
    → f (cond rose (cond e (halved t) t) s) ≡ cond (rose && e) (map half (cond mine more (f s))) (cond mine more (f s))
picked f true true mine s t more h g r = h ∙ ap (map half) g
picked f true false mine s t more h g r = g
picked f false e true s t more h g r = let never : false ≡ true = r refl in cc
picked f false e false s t more h g r = refl

or_2 : (a b c d : Bool) → b ≡ true → (a || (b || (c || d))) ≡ true
or_2 true b c d h = refl
or_2 false b c d h = rw h

or_3 : (a b c d : Bool) → c ≡ true → (a || (b || (c || d))) ≡ true
or_3 true b c d h = refl
or_3 false true c d h = refl
or_3 false false c d h = rw h

or_4 : (a b c d : Bool) → d ≡ true → (a || (b || (c || d))) ≡ true
or_4 true b c d h = refl
or_4 false true c d h = refl
or_4 false false true d h = refl
or_4 false false false d h = h

-- whether counting at these places halves everything
abbrev halves_at : List ℕ → Counters → Bool
halves_at ps s = rose ps s && nat_eq (s.additions + 1) (10 * s.entries)

counted-row_0 : (ps : List ℕ) (s : Counters)
    → (counted ps s).row_0 ≡ cond (halves_at ps s) (map half (raised (at ps 0) s.row_0)) (raised (at ps 0) s.row_0)
unfolding counted
counted-row_0 ps s = picked (λ (r : Counters). r.row_0) (rose ps s) (nat_eq (s.additions + 1) (10 * s.entries))
    (rises (at ps 0) s.row_0) s (with_addition ps s) (set s.row_0 (at ps 0) (at s.row_0 (at ps 0) + 1)) refl refl
    (λ h. rw h)

counted-row_1 : (ps : List ℕ) (s : Counters)
    → (counted ps s).row_1 ≡ cond (halves_at ps s) (map half (raised (at ps 1) s.row_1)) (raised (at ps 1) s.row_1)
unfolding counted
counted-row_1 ps s = picked (λ (r : Counters). r.row_1) (rose ps s) (nat_eq (s.additions + 1) (10 * s.entries))
    (rises (at ps 1) s.row_1) s (with_addition ps s) (set s.row_1 (at ps 1) (at s.row_1 (at ps 1) + 1)) refl refl
    (or_2 (rises (at ps 0) s.row_0) (rises (at ps 1) s.row_1) (rises (at ps 2) s.row_2) (rises (at ps 3) s.row_3))

counted-row_2 : (ps : List ℕ) (s : Counters)
    → (counted ps s).row_2 ≡ cond (halves_at ps s) (map half (raised (at ps 2) s.row_2)) (raised (at ps 2) s.row_2)
unfolding counted
counted-row_2 ps s = picked (λ (r : Counters). r.row_2) (rose ps s) (nat_eq (s.additions + 1) (10 * s.entries))
    (rises (at ps 2) s.row_2) s (with_addition ps s) (set s.row_2 (at ps 2) (at s.row_2 (at ps 2) + 1)) refl refl
    (or_3 (rises (at ps 0) s.row_0) (rises (at ps 1) s.row_1) (rises (at ps 2) s.row_2) (rises (at ps 3) s.row_3))

counted-row_3 : (ps : List ℕ) (s : Counters)
    → (counted ps s).row_3 ≡ cond (halves_at ps s) (map half (raised (at ps 3) s.row_3)) (raised (at ps 3) s.row_3)
unfolding counted
counted-row_3 ps s = picked (λ (r : Counters). r.row_3) (rose ps s) (nat_eq (s.additions + 1) (10 * s.entries))
    (rises (at ps 3) s.row_3) s (with_addition ps s) (set s.row_3 (at ps 3) (at s.row_3 (at ps 3) + 1)) refl refl
    (or_4 (rises (at ps 0) s.row_0) (rises (at ps 1) s.row_1) (rises (at ps 2) s.row_2) (rises (at ps 3) s.row_3))

same_entries : (rose e : Bool) (s t : Counters) → t.entries ≡ s.entries → (cond rose (cond e (halved t) t) s).entries ≡ s.entries
same_entries true true s t h = h
same_entries true false s t h = h
same_entries false e s t h = refl

counted-entries : (ps : List ℕ) (s : Counters) → (counted ps s).entries ≡ s.entries
unfolding counted
counted-entries ps s = same_entries (rose ps s) (nat_eq (s.additions + 1) (10 * s.entries)) s (with_addition ps s) refl

-- ---- a list of counts
-- the counters at the places ps are at least n
record IsOver (entries : ℕ) (ps : List ℕ) (n : ℕ) (s : Counters) : Type 0 where
  same : s.entries ≡ entries
  over_0 : (at ps 0 < length s.row_0) × (n ≤ at s.row_0 (at ps 0))
  over_1 : (at ps 1 < length s.row_1) × (n ≤ at s.row_1 (at ps 1))
  over_2 : (at ps 2 < length s.row_2) × (n ≤ at s.row_2 (at ps 2))
  over_3 : (at ps 3 < length s.row_3) × (n ≤ at s.row_3 (at ps 3))

over_row : (row next : List ℕ) (p q n : ℕ) (same age : Bool) → next ≡ cond age (map half (raised p row)) (raised p row)
    → (same ≡ true → p ≡ q) → (q < length row) × (n ≤ at row q) → (q < length next)
    × (cond age (half (risen same n)) (risen same n) ≤ at next q)
over_row row next p q n same age e is was =
    let len = length-row_next row p age in (
      (rw (e, len) was.0),
      (rw e (row_next row p q n same age was.0 is was.1)),
    )

over_next : (entries key word n : ℕ) (s : Counters) → IsOver entries (places key (bits_for entries)) n s
    → IsOver entries (places key (bits_for entries)) (alone_next key n s word) (counted_word s word)
unfolding counted_word
over_next entries key word n s was =
    let is : nat_eq word key ≡ true
    → places_in s word ≡ places key (bits_for entries) =
    λ e. ap (λ w. places w (bits_for s.entries)) (eqb-true word key e)
    ∙ ap (λ m. places key (bits_for m)) was.same in
    record {
      same = counted-entries (places_in s word) s ∙ was.same;
      over_0 = over_row s.row_0 _ (at (places_in s word) 0) (at (places key (bits_for entries)) 0) n (nat_eq word key)
          (halves s word) (counted-row_0 (places_in s word) s) (λ e. ap (λ qs. at qs 0) (is e)) was.over_0;
      over_1 = over_row s.row_1 _ (at (places_in s word) 1) (at (places key (bits_for entries)) 1) n (nat_eq word key)
          (halves s word) (counted-row_1 (places_in s word) s) (λ e. ap (λ qs. at qs 1) (is e)) was.over_1;
      over_2 = over_row s.row_2 _ (at (places_in s word) 2) (at (places key (bits_for entries)) 2) n (nat_eq word key)
          (halves s word) (counted-row_2 (places_in s word) s) (λ e. ap (λ qs. at qs 2) (is e)) was.over_2;
      over_3 = over_row s.row_3 _ (at (places_in s word) 3) (at (places key (bits_for entries)) 3) n (nat_eq word key)
          (halves s word) (counted-row_3 (places_in s word) s) (λ e. ap (λ qs. at qs 3) (is e)) was.over_3;
    }

over_all : (entries key n : ℕ) (words : List ℕ) (s : Counters) → IsOver entries (places key (bits_for entries)) n s
    → IsOver entries (places key (bits_for entries)) (alone_from key n s words) (counted_words s words)
unfolding alone_from
over_all entries key n [] s was = was
over_all entries key n (word ∷ words) s was =
    over_all entries key (alone_next key n s word) words (counted_word s word) (over_next entries key word n s was)

-- ---- a new sketch
most_by : (t : Bool) (b n m : ℕ) → m ≤ b + 1 + n → cond t b m ≤ b + suc n
most_by true b n m h = omega arith
most_by false b n m h = omega arith

bits_from_most : (n b entries : ℕ) → bits_from n b entries ≤ b + n
unfolding bits_from
bits_from_most zero b entries = omega arith
bits_from_most (suc n) b entries = most_by (nat_le entries (2 ^ b)) b n (bits_from n (b + 1) entries) (bits_from_most n (b + 1) entries)

bits_for_most : (entries : ℕ) → bits_for entries ≤ 16
unfolding bits_for
bits_for_most entries = bits_from_most 10 6 entries

within : (factor word b : ℕ) → b ≤ 16 → place factor word b < 2 ^ b
within factor word b h = highest (mixed factor word) b (omega arith) (omega arith)

in_new_row : (factor entries key : ℕ) → (place factor key (bits_for entries) < length {A = ℕ} (new_row entries))
    × (0 ≤ at (new_row entries) (place factor key (bits_for entries)))
in_new_row factor entries key = (rw length-replicate (within factor key (bits_for entries) (bits_for_most entries)), omega arith)

over_nothing : (entries key : ℕ) → IsOver entries (places key (bits_for entries)) 0 (nothing_counted entries)
over_nothing entries key = record {
  same = refl;
  over_0 = in_new_row _ entries key;
  over_1 = in_new_row _ entries key;
  over_2 = in_new_row _ entries key;
  over_3 = in_new_row _ entries key;
}

least_of : (n a b c d : ℕ) → n ≤ a → n ≤ b → n ≤ c → n ≤ d → n ≤ min (min a b) (min c d)
least_of n a b c d x y z w = omega arith

least_at : (entries key n : ℕ) (s : Counters) → IsOver entries (places key (bits_for entries)) n s → n ≤ estimate_of s key
unfolding estimate_of
least_at entries key n s over =
    let is : places_in s key ≡ places key (bits_for entries) = ap (λ m. places key (bits_for m)) over.same in
    subst (λ (ps : List ℕ). n ≤ estimate ps s) (sym is) (least_of _ _ _ _ _ over.over_0.1 over.over_1.1 over.over_2.1 over.over_3.1)

never_less : (entries key : ℕ) (words : List ℕ)
    → alone key (nothing_counted entries) words ≤ estimate_of (counted_words (nothing_counted entries) words) key
never_less entries key words = least_at entries key _ _ (over_all entries key 0 words (nothing_counted entries) (over_nothing entries key))

pub never_less_at : (entries key : ℕ) (words : List ℕ) (old new : Counters) → old ≡ nothing_counted entries
    → new ≡ counted_words old words → alone key old words ≤ estimate_of new key
never_less_at entries key words old new is counts =
    rw counts (subst (λ (s : Counters). alone key s words ≤ estimate_of (counted_words s words) key) (sym is)
    (never_less entries key words))
