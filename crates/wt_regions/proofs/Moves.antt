-- What moves of entries keep.
use Rattle.std.proofs.Common.{◌≡◌, ℕ, zero, suc, ◌+◌, ◌-◌, ◌<◌, ◌≤◌, Bool, true, false, cond, List, [], ◌∷◌, ◌++◌, length, take, map, Option, Some, None, refl, sym, ap, subst, ◌∙◌, arith}
use Rattle.std.specs.Option.{option_map_or, option_or}
use Rattle.std.specs.Map.{keys_of, lookup, lookup_entry, remove_entry, set_value}
use Rattle.lru.specs.LruCache.{LruCache, displaced, put_entries, promoted as brought_first}
use Rattle.lru.proofs.CallerLemmas.{Contains-lookup_entry}
use Rattle.lru.specs.LruCache.{last_entry}
use Rattle.std.proofs.lemmas.List.{take_all, map-append}
use Rattle.std.specs.List.{slice_get, IsDistinct}
use Rattle.std.specs.List.Sorted.{IsPermutation}
use Rattle.std.specs.Prelude.{nat_lt, sum_by, All}
use Rattle.std.specs.Cmp.{IsEquivalence}
use Rattle.std.proofs.lemmas.List.{length-map}
use Rattle.std.proofs.lemmas.List.Sums.{sum_by-cons}
use Rattle.std.proofs.lemmas.List.Elements.{All-cons, All-tail}
use Rattle.std.proofs.lemmas.Map.Keys.{IsDistinct-IsPermutation}
use Rattle.std.proofs.lemmas.List.Sorted.{IsPermutation-refl, IsPermutation-sym, IsPermutation-trans, IsPermutation-cons, IsPermutation-middle, IsPermutation-to_front, IsPermutation-append_left, IsPermutation-append_right, IsPermutation-map, length_permutation, sum_by-IsPermutation, All-permutation}
use Rattle.wt_regions.specs.declared.held.Held.{Held}
use Rattle.wt_regions.specs.declared.caps.Caps.{Caps}
use Rattle.wt_regions.specs.declared.weighs.Measure.{Measure}
use Rattle.wt_regions.specs.Lists.{Entry, Lists, all_entries, all_but_last, main_cap, protected_cap, weight_of, weights, measured}
use Rattle.wt_regions.specs.Touch.{promoted}
use Rattle.wt_regions.specs.Lawful.{IsFit, IsLawful}
use Rattle.wt_regions.specs.Moves.{IsPlaced, places_of}

module _ {K X : Type 0} (test : K → Bool) where
  pub lookup-append : (xs ys : List (K × X)) → lookup test (xs ++ ys) ≡ option_or (lookup test xs) (lookup test ys)
  lookup-append [] ys = refl
  lookup-append (x ∷ xs) ys = (elim (test x.0) as
      (λ b. cond b (Some x.1) (lookup test (xs ++ ys))
      ≡ option_or (cond b (Some x.1) (lookup test xs)) (lookup test ys)) [
        | true ↦ refl
        | false ↦ lookup-append xs ys
      ])

  pub lookup_entry-none : (xs : List (K × X)) → lookup test xs ≡ None → lookup_entry test xs ≡ None
  lookup_entry-none [] h = refl
  lookup_entry-none (x ∷ xs) h = (elim (test x.0) as
      (λ b. cond b (Some x.1) (lookup test xs) ≡ None → cond b (Some x) (lookup_entry test xs) ≡ None) [
        | true ↦ λ e. cc
        | false ↦ λ e. lookup_entry-none xs e
      ]) h

  pub lookup_none-entry : (xs : List (K × X)) → lookup_entry test xs ≡ None → lookup test xs ≡ None
  lookup_none-entry [] h = refl
  lookup_none-entry (x ∷ xs) h = (elim (test x.0) as
      (λ b. cond b (Some x) (lookup_entry test xs) ≡ None → cond b (Some x.1) (lookup test xs) ≡ None) [
        | true ↦ λ e. cc
        | false ↦ λ e. lookup_none-entry xs e
      ]) h

  pub lookup-from_entry : (xs : List (K × X)) (e : K × X) → lookup_entry test xs ≡ Some e → lookup test xs ≡ Some e.1
  lookup-from_entry [] e h = cc
  lookup-from_entry (x ∷ xs) e h =
      (elim (test x.0) as (λ b. cond b (Some x) (lookup_entry test xs) ≡ Some e
      → cond b (Some x.1) (lookup test xs) ≡ Some e.1) [
        | true ↦ λ q. cc
        | false ↦ λ q. lookup-from_entry xs e q
      ]) h

pub put-fresh : {K V : Type 0} (eq : K → K → Bool) (c : LruCache K V) (k : K) (v : V) → lookup (eq k) c.entries ≡ None
    → length c.entries < c.cap → put_entries eq c k v ≡ (k, v) ∷ c.entries
put-fresh eq c k v h room = let n = lookup_entry-none (eq k) c.entries h in
    let all = take_all (c.cap - 1) c.entries (omega arith) in rw n (ap (λ es. (k, v) ∷ es) all)

full_at : {X : Type 0} (x : X) (es : List X) (cap : ℕ) → 0 < cap → length es ≡ cap
    → x ∷ take (cap - 1) es ≡ take (length (x ∷ es) - 1) (x ∷ es)
full_at x [] cap some full = absurd (omega (arith, some, full))
full_at x (e ∷ es) cap some full =
    let n : length (x ∷ e ∷ es) - 1 ≡ suc (length es) = omega arith in
    let m : cap - 1 ≡ length es = omega (arith, full) in
    rw (n, m)

-- a push into a full cache
pub put-full : {K V : Type 0} (eq : K → K → Bool) (c : LruCache K V) (k : K) (v : V) → lookup (eq k) c.entries ≡ None
    → 0 < c.cap → length c.entries ≡ c.cap
    → put_entries eq c k v ≡ take (length ((k, v) ∷ c.entries) - 1) ((k, v) ∷ c.entries)
put-full eq c k v h some full = let n = lookup_entry-none (eq k) c.entries h in rw n (full_at (k, v) c.entries c.cap some full)

pub displaced-full : {K V : Type 0} (eq : K → K → Bool) (c : LruCache K V) (k : K) (v : V)
    → lookup (eq k) c.entries ≡ None → length c.entries ≡ c.cap → displaced eq c k v ≡ last_entry c.entries
displaced-full eq c k v h full = rw (h, full)

-- the places of a cache
pub places-is : (n : ℕ) → 0 < n → places_of n ≡ n
places-is zero h = absurd (omega (arith, h))
places-is (suc n) h = refl

pub places-some : (n : ℕ) → 0 < places_of n
places-some zero = omega arith
places-some (suc n) = omega arith

pub places-fit : (n : ℕ) → n ≤ places_of n
places-fit zero = omega arith
places-fit (suc n) = omega arith

-- a value that is written through `get_mut`
module _ {K X : Type 0} (test : K → Bool) (f : X → X) where
  abbrev brought : List (K × X) → Option (K × X) → List (K × X)
  brought es o = option_map_or (λ e. (e.0, f e.1) ∷ remove_entry test es) o es

  freshened_at : (es : List (K × X)) (h : X) (o : Option (K × X)) → lookup_entry test es ≡ o → lookup test es ≡ Some h
      → set_value test (option_map_or (λ e. e ∷ remove_entry test es) o es) (f h) ≡ brought es o
  freshened_at es h None n s = let at : lookup test es ≡ None = lookup_none-entry test es n in cc
  freshened_at es h (Some e) n s =
      let passes : test e.0 ≡ true = (Contains-lookup_entry test es e n).1 in
      let same : Some h ≡ Some e.1 = sym s ∙ lookup-from_entry test es e n in
      let is : h ≡ e.1 = cc in
      rw (passes, is)

  pub freshened : (es : List (K × X)) (h : X) → lookup test es ≡ Some h
      → set_value test (brought_first test es) (f h) ≡ brought es (lookup_entry test es)
  freshened es h s = freshened_at es h (lookup_entry test es) refl s

  pub not_freshened : (es : List (K × X)) → lookup test es ≡ None → es ≡ brought es (lookup_entry test es)
  not_freshened es n = rw (lookup_entry-none test es n)

-- ---- entries that change places
module _ {K X : Type 0} (test : K → Bool) where
  pub IsPermutation-pull : (es : List (K × X)) (e : K × X) → lookup_entry test es ≡ Some e → IsPermutation es (e ∷ remove_entry test es)
  IsPermutation-pull [] e h = cc
  IsPermutation-pull (x ∷ xs) e h =
      (elim (test x.0) as (λ b. cond b (Some x) (lookup_entry test xs) ≡ Some e
      → IsPermutation (x ∷ xs) (e ∷ cond b xs (x ∷ remove_entry test xs))) [
        | true ↦ λ q. let is : x ≡ e = cc in subst (λ y. IsPermutation (x ∷ xs) (y ∷ xs)) is (IsPermutation-refl (x ∷ xs))
        | false ↦ λ q. IsPermutation-trans (x ∷ xs) (x ∷ e ∷ remove_entry test xs) (e ∷ x ∷ remove_entry test xs)
            (IsPermutation-cons x xs (e ∷ remove_entry test xs) (IsPermutation-pull xs e q))
            (IsPermutation-middle (x ∷ []) e (remove_entry test xs))
      ]) h

module _ {X : Type 0} where
  -- the last goes first
  pub last_split : (y : X) (ys : List X) (l : X) → slice_get (y ∷ ys) (length ys) ≡ Some l → y ∷ ys ≡ take (length ys) (y ∷ ys) ++ l ∷ []
  last_split y [] l h = let is : y ≡ l = cc in ap (λ z. z ∷ []) is
  last_split y (x ∷ xs) l h = ap (λ zs. y ∷ zs) (last_split x xs l h)

pub split_of_last : {K V : Type 0} (es : List (K × V)) (l : K × V) → last_entry es ≡ Some l → es ≡ take (length es - 1) es ++ l ∷ []
split_of_last [] l h = cc
split_of_last (x ∷ xs) l h = let n : length (x ∷ xs) - 1 ≡ length xs = omega arith in rw n (last_split x xs l (rw n at h))

pub IsPermutation-last : {K V : Type 0} (es : List (K × V)) (l : K × V) → last_entry es ≡ Some l
    → IsPermutation es (l ∷ take (length es - 1) es)
IsPermutation-last es l h = subst (λ xs. IsPermutation xs (l ∷ take (length es - 1) es)) (sym (split_of_last es l h))
    (IsPermutation-to_front (take (length es - 1) es) l)

module _ {K V : Type 0} where
  -- what promote does is a move
  abbrev pub promoted_so : Entry K V → List (Entry K V) → List (Entry K V) → Bool → Option (Entry K V) → List (Entry K V) × List (Entry K V)
  promoted_so e ps qs b o = cond b (ps, e ∷ qs) (option_map_or (λ last. (last ∷ ps, all_but_last (e ∷ qs))) o (ps, e ∷ qs))

  promoted-moves-all_at : (c : Caps) (e : Entry K V) (ps qs : List (Entry K V)) (b : Bool) (o : Option (Entry K V))
      → last_entry (e ∷ qs) ≡ o
      → IsPermutation ((e ∷ ps) ++ qs) ((promoted_so e ps qs b o).0 ++ (promoted_so e ps qs b o).1)
  promoted-moves-all_at c e ps qs true o h = IsPermutation-sym _ _ (IsPermutation-middle ps e qs)
  promoted-moves-all_at c e ps qs false None h = IsPermutation-sym _ _ (IsPermutation-middle ps e qs)
  promoted-moves-all_at c e ps qs false (Some l) h =
      IsPermutation-trans ((e ∷ ps) ++ qs) (ps ++ (e ∷ qs)) ((l ∷ ps) ++ all_but_last (e ∷ qs))
      (IsPermutation-sym _ _ (IsPermutation-middle ps e qs))
      (IsPermutation-trans (ps ++ (e ∷ qs)) (ps ++ (l ∷ all_but_last (e ∷ qs))) ((l ∷ ps) ++ all_but_last (e ∷ qs))
      (IsPermutation-append_right ps (e ∷ qs) (l ∷ all_but_last (e ∷ qs)) (IsPermutation-last (e ∷ qs) l h))
      (IsPermutation-middle ps l (all_but_last (e ∷ qs))))

  pub promoted-moves-all : (c : Caps) (e : Entry K V) (ps qs : List (Entry K V))
      → IsPermutation ((e ∷ ps) ++ qs) ((promoted c e ps qs).0 ++ (promoted c e ps qs).1)
  promoted-moves-all c e ps qs = promoted-moves-all_at c e ps qs (nat_lt (length qs) (protected_cap c)) (last_entry (e ∷ qs)) refl

  -- the key, the value and the weight of an entry: what its use keeps
  abbrev pub bare : Entry K V → K × (V × Measure)
  bare e = (e.0, (e.1.value, measured e.1))

  abbrev pub bares : List (Entry K V) → List (K × (V × Measure))
  bares es = map bare es

  pub bares-append : (xs ys : List (Entry K V)) → bares (xs ++ ys) ≡ bares xs ++ bares ys
  bares-append xs ys = map-append bare xs ys

  -- lists whose entries differ in no more than their uses
  pub Moves : List (Entry K V) → List (Entry K V) → Type 0
  Moves xs ys = IsPermutation (bares xs) (bares ys)

  pub moves-refl : (xs : List (Entry K V)) → Moves xs xs
  unfolding Moves
  moves-refl xs = IsPermutation-refl (bares xs)

  moves : (xs ys : List (Entry K V)) → IsPermutation xs ys → Moves xs ys
  unfolding Moves
  moves xs ys h = IsPermutation-map bare xs ys h

  moves-trans : (xs ys zs : List (Entry K V)) → Moves xs ys → Moves ys zs → Moves xs zs
  unfolding Moves
  moves-trans xs ys zs a b = IsPermutation-trans (bares xs) (bares ys) (bares zs) a b

  moves-head : (e f : Entry K V) (xs : List (Entry K V)) → bare e ≡ bare f → Moves (e ∷ xs) (f ∷ xs)
  unfolding Moves
  moves-head e f xs h = subst (λ b. IsPermutation (bare e ∷ bares xs) (b ∷ bares xs)) h (IsPermutation-refl (bares (e ∷ xs)))

  module _ (eq : K → K → Bool) (k : K) (f : Held V → Held V) (keeps : (e : Entry K V) → bare e ≡ bare (e.0, f e.1)) where
    -- the entry of k comes to the front of its list
    pub bring-moves : (es : List (Entry K V)) (e : Entry K V) → lookup_entry (eq k) es ≡ Some e
        → Moves es ((e.0, f e.1) ∷ remove_entry (eq k) es)
    bring-moves es e h = moves-trans es (e ∷ remove_entry (eq k) es) ((e.0, f e.1) ∷ remove_entry (eq k) es)
        (moves es (e ∷ remove_entry (eq k) es) (IsPermutation-pull (eq k) es e h))
        (moves-head e (e.0, f e.1) (remove_entry (eq k) es) (keeps e))

    pub moves-left : (zs xs ys : List (Entry K V)) → Moves xs ys → Moves (xs ++ zs) (ys ++ zs)
    unfolding Moves
    moves-left zs xs ys h = rw (bares-append xs zs, bares-append ys zs) (IsPermutation-append_left (bares zs) (bares xs) (bares ys) h)

    pub moves-right : (zs xs ys : List (Entry K V)) → Moves xs ys → Moves (zs ++ xs) (zs ++ ys)
    unfolding Moves
    moves-right zs xs ys h = rw (bares-append zs xs, bares-append zs ys) (IsPermutation-append_right (bares zs) (bares xs) (bares ys) h)

    pub promote-brings : (c : Caps) (ps qs : List (Entry K V)) (e : Entry K V) → lookup_entry (eq k) ps ≡ Some e
        → Moves (ps ++ qs) ((promoted c (e.0, f e.1) (remove_entry (eq k) ps) qs).0
        ++ (promoted c (e.0, f e.1) (remove_entry (eq k) ps) qs).1)
    promote-brings c ps qs e h =
        let p : List (Entry K V) × List (Entry K V) = promoted c (e.0, f e.1) (remove_entry (eq k) ps) qs in
        moves-trans (ps ++ qs) (((e.0, f e.1) ∷ remove_entry (eq k) ps) ++ qs) (p.0 ++ p.1)
        (moves-left qs ps ((e.0, f e.1) ∷ remove_entry (eq k) ps) (bring-moves ps e h))
        (moves (((e.0, f e.1) ∷ remove_entry (eq k) ps) ++ qs) (p.0 ++ p.1) (promoted-moves-all c (e.0, f e.1) (remove_entry (eq k) ps) qs))

-- ---- what moves keep
module _ {K V : Type 0} where
  weights-bares : (es : List (Entry K V)) → sum_by (λ (b : K × (V × Measure)). b.1.1.weight) (bares es) ≡ weights es
  weights-bares [] = refl
  weights-bares (e ∷ es) = sum_by-cons (λ (b : K × (V × Measure)). b.1.1.weight) (bare e) (bares es)
      ∙ ap (λ n. e.1.weight + n) (weights-bares es) ∙ sym (sum_by-cons (λ (f : Entry K V). f.1.weight) e es)

  keys-bares : (es : List (Entry K V)) → keys_of (bares es) ≡ keys_of es
  keys-bares [] = refl
  keys-bares (e ∷ es) = ap (λ ks. e.0 ∷ ks) (keys-bares es)

  -- a fact of each bare entry is one of each entry
  bared : (P : K × (V × Measure) → Type 0) (es : List (Entry K V)) → All (λ (e : Entry K V). P (bare e)) es → All P (bares es)
  bared P [] h = λ i d l. absurd (omega arith)
  bared P (e ∷ es) h = All-cons P (bare e) (bares es) (h 0 e (omega arith)) (bared P es (All-tail (λ (e : Entry K V). P (bare e)) e es h))

  unbared : (P : K × (V × Measure) → Type 0) (es : List (Entry K V)) → All P (bares es) → All (λ (e : Entry K V). P (bare e)) es
  unbared P [] h = λ i d l. absurd (omega arith)
  unbared P (e ∷ es) h = All-cons (λ (e : Entry K V). P (bare e)) e es (h 0 (bare e) (omega arith))
      (unbared P es (All-tail P (bare e) (bares es) h))

  pub moves-length : (xs ys : List (Entry K V)) → Moves xs ys → length ys ≡ length xs
  unfolding Moves
  moves-length xs ys h = let n = length_permutation (bares xs) (bares ys) h in simp length-map at n

  pub moves-weight : (xs ys : List (Entry K V)) → Moves xs ys → weights ys ≡ weights xs
  unfolding Moves
  moves-weight xs ys h = sym (weights-bares ys)
      ∙ sum_by-IsPermutation (λ (b : K × (V × Measure)). b.1.1.weight) (bares xs) (bares ys) h ∙ weights-bares xs

  pub moves-distinct : (eq : K → K → Bool) → IsEquivalence eq → (xs ys : List (Entry K V)) → Moves xs ys
      → IsDistinct eq (keys_of xs) → IsDistinct eq (keys_of ys)
  unfolding Moves
  moves-distinct eq laws xs ys h d =
      subst (IsDistinct eq) (keys-bares ys)
      (IsDistinct-IsPermutation eq laws.symm (keys_of (bares xs)) (keys_of (bares ys))
      (IsPermutation-map (λ (b : K × (V × Measure)). b.0) (bares xs) (bares ys) h) (subst (IsDistinct eq) (sym (keys-bares xs)) d))

  pub moves-weights : (measure : V → Measure) (xs ys : List (Entry K V)) → Moves xs ys
      → All (λ (e : Entry K V). measured e.1 ≡ measure e.1.value) xs
      → All (λ (e : Entry K V). measured e.1 ≡ measure e.1.value) ys
  unfolding Moves
  moves-weights measure xs ys h d =
      let P : K × (V × Measure) → Type 0 = λ b. b.1.1 ≡ measure b.1.0 in
      unbared P ys (All-permutation P (bares xs) (bares ys) h (bared P xs d))

  -- regions are lawful where each thing is in its place, within the bound
  pub lawful_of : (eq : K → K → Bool) (measure : V → Measure) (r : Lists K V) → IsPlaced eq measure r
      → weight_of r ≤ r.caps.bound → IsLawful eq measure r
  lawful_of eq measure r law low = record {
    fit = law.fit;
    distinct = law.distinct;
    window = law.window;
    protected = law.protected;
    main_part = law.main_part;
    measures = law.measures;
    bound = low;
  }

  pub placed_of : (eq : K → K → Bool) (measure : V → Measure) (r : Lists K V) → IsLawful eq measure r → IsPlaced eq measure r
  placed_of eq measure r law = record {
    fit = law.fit;
    distinct = law.distinct;
    window = law.window;
    protected = law.protected;
    main_part = law.main_part;
    measures = law.measures;
  }

  -- regions that are the same but for places and uses are lawful, where none is too long
  pub lawful-moves : (eq : K → K → Bool) (measure : V → Measure) → IsEquivalence eq → (r s : Lists K V) → s.caps ≡ r.caps
      → Moves (all_entries r) (all_entries s)
      → length s.window ≤ s.caps.window → length s.protected ≤ protected_cap s.caps
      → length s.probation + length s.protected ≤ main_cap s.caps
      → IsLawful eq measure r → IsLawful eq measure s × (weight_of s ≡ weight_of r)
  lawful-moves eq measure laws r s same h w q m law =
      let n : weight_of s ≡ weight_of r = moves-weight (all_entries r) (all_entries s) h in (
        record {
          fit = subst IsFit (sym same) law.fit;
          distinct = moves-distinct eq laws (all_entries r) (all_entries s) h law.distinct;
          window = w;
          protected = q;
          main_part = m;
          measures = moves-weights measure (all_entries r) (all_entries s) h law.measures;
          bound = rw (n, same) law.bound;
        },
        n,
      )
