-- Keys that stand once over several lists, and what promote gives by cases.
use Rattle.std.proofs.Common.{◌≡◌, ℕ, suc, ◌-◌, ◌<◌, ◌≤◌, Bool, true, false, cond, List, [], ◌∷◌, ◌++◌, length, take, Option, Some, None, refl, subst, ◌∙◌, arith, rules}
use Rattle.std.specs.Map.{keys_of, lookup, lookup_entry}
use Rattle.std.specs.List.{IsDistinct, AllByRecursion, slice_get}
use Rattle.std.specs.Prelude.{nat_lt, IsSome}
use Rattle.std.specs.Cmp.{IsEquivalence}
use Rattle.std.proofs.lemmas.Map.{none_passes_from_lookup}
use Rattle.lru.specs.LruCache.{last_entry}
use Rattle.lru.proofs.CallerLemmas.{Contains-lookup_entry}
use Rattle.wt_regions.specs.declared.held.Held.{Held}
use Rattle.wt_regions.specs.declared.caps.Caps.{Caps}
use Rattle.wt_regions.proofs.Moves.{split_of_last, lookup-append, lookup-from_entry, lookup_none-entry}
use Rattle.wt_regions.specs.Lists.{Entry, all_but_last, protected_cap}
use Rattle.wt_regions.specs.Touch.{promoted}

module _ {X : Type 0} (P : X → Type 0) where
  all_after : (xs ys : List X) → AllByRecursion P (xs ++ ys) → AllByRecursion P ys
  all_after [] ys h = h
  all_after (x ∷ xs) ys h = all_after xs ys h.1

pub all_last : {K V : Type 0} (P : K × V → Type 0) (es : List (K × V)) (l : K × V) → AllByRecursion P es → last_entry es ≡ Some l → P l
all_last P es l h is = (all_after P (take (length es - 1) es) (l ∷ []) (subst (AllByRecursion P) (split_of_last es l is) h)).0

pub none_at_last : {K V : Type 0} (test : K → Bool) (es : List (K × V)) (l : K × V) → lookup test es ≡ None
    → last_entry es ≡ Some l → test l.0 ≡ false
none_at_last test es l h is = all_last (λ e. test e.0 ≡ false) es l (none_passes_from_lookup test es h) is

module _ {K V : Type 0} (P : K → Type 0) where
  all_keys_after : (xs ys : List (Entry K V)) → AllByRecursion P (keys_of ((xs ++ ys))) → AllByRecursion P (keys_of ys)
  all_keys_after [] ys h = h
  all_keys_after (x ∷ xs) ys h = all_keys_after xs ys h.1

  all_of_keys : (es : List (Entry K V)) → AllByRecursion P (keys_of es) → AllByRecursion (λ (e : Entry K V). P e.0) es
  all_of_keys [] h = h
  all_of_keys (e ∷ es) h = (h.0, all_of_keys es h.1)

module _ {K V : Type 0} (eq : K → K → Bool) where
  none_of_keys : (k : K) (es : List (Entry K V)) → AllByRecursion (λ y. eq k y ≡ false) (keys_of es) → lookup (eq k) es ≡ None
  none_of_keys k [] h = refl
  none_of_keys k (e ∷ es) h = rw h.0 (none_of_keys k es h.1)

  pub distinct_after : (xs ys : List (Entry K V)) → IsDistinct eq (keys_of ((xs ++ ys))) → IsDistinct eq (keys_of ys)
  unfolding IsDistinct
  distinct_after [] ys d = d
  distinct_after (x ∷ xs) ys d = distinct_after xs ys d.1

  module _ (laws : IsEquivalence eq) where
    pub lookup-congr : (k j : K) → eq k j ≡ true → (es : List (Entry K V)) → lookup (eq k) es ≡ lookup (eq j) es
    lookup-congr k j h [] = refl
    lookup-congr k j h (e ∷ es) = let same = laws.congr k j e.0 h in rw (same, lookup-congr k j h es)

    -- a key that is in the first list is not in the second
    pub apart : (k : K) (xs ys : List (Entry K V)) (h : Held V) → IsDistinct eq (keys_of ((xs ++ ys)))
        → lookup (eq k) xs ≡ Some h → lookup (eq k) ys ≡ None
    unfolding IsDistinct
    apart k [] ys h d s = cc
    apart k (x ∷ xs) ys h d s = (elim (eq k x.0) as
        (λ b. eq k x.0 ≡ b → cond b (Some x.1) (lookup (eq k) xs) ≡ Some h → lookup (eq k) ys ≡ None) [
          | true ↦ λ t q. lookup-congr k x.0 t ys ∙ none_of_keys x.0 ys (all_keys_after (λ y. eq x.0 y ≡ false) xs ys d.0)
          | false ↦ λ t q. apart k xs ys h d.1 q
        ]) refl s

    -- the last of the second list is not in the first
    pub last_apart : (xs ys : List (Entry K V)) (l : Entry K V) → IsDistinct eq (keys_of ((xs ++ ys)))
        → last_entry ys ≡ Some l → lookup (eq l.0) xs ≡ None
    unfolding IsDistinct
    last_apart [] ys l d is = refl
    last_apart (x ∷ xs) ys l d is =
        let off : eq x.0 l.0 ≡ false = all_last (λ e. eq x.0 e.0 ≡ false) ys l
        (all_of_keys (λ y. eq x.0 y ≡ false) ys (all_keys_after (λ y. eq x.0 y ≡ false) xs ys d.0)) is in
        rw (laws.symm l.0 x.0, off) (last_apart xs ys l d.1 is)

  -- keys that are equal are the same: the entry that a look-up finds is the key's
  pub entry-from_lookup : ((a b : K) → eq a b ≡ true → a ≡ b) → (k : K) (es : List (Entry K V)) (h : Held V)
      → lookup (eq k) es ≡ Some h → lookup_entry (eq k) es ≡ Some (k, h)
  entry-from_lookup same k [] h s = cc
  entry-from_lookup same k (e ∷ es) h s =
      (elim (eq k e.0) as (λ b. eq k e.0 ≡ b → cond b (Some e.1) (lookup (eq k) es) ≡ Some h
      → cond b (Some e) (lookup_entry (eq k) es) ≡ Some (k, h)) [
        | true ↦ λ t q. let is : k ≡ e.0 = same k e.0 t in let value : e.1 ≡ h = cc in rw (is, ← value)
        | false ↦ λ t q. entry-from_lookup same k es h q
      ]) refl s

module _ {K V : Type 0} (eq : K → K → Bool) (laws : IsEquivalence eq) (k : K) where
  apart_if : (xs ys : List (Entry K V)) (o : Option (Held V)) (h : Held V) → IsDistinct eq (keys_of (xs ++ ys))
      → lookup (eq k) xs ≡ o → lookup (eq k) ys ≡ Some h → lookup (eq k) xs ≡ None
  apart_if xs ys None h once is at = is
  apart_if xs ys (Some g) h once is at = let off = apart eq laws k xs ys g once is in cc

  -- a key that is in the second list is not in the first
  before : (xs ys : List (Entry K V)) (h : Held V) → IsDistinct eq (keys_of (xs ++ ys)) → lookup (eq k) ys ≡ Some h
      → lookup (eq k) xs ≡ None
  before xs ys h once at = apart_if xs ys (lookup (eq k) xs) h once refl at

  module _ (ws ps qs : List (Entry K V)) (h : Held V) (once : IsDistinct eq (keys_of (ws ++ (ps ++ qs)))) where
    -- a key that is in probation is not in window
    pub above-probation : lookup (eq k) ps ≡ Some h → lookup (eq k) ws ≡ None
    above-probation at =
        let on : lookup (eq k) (ps ++ qs) ≡ Some h = rw (lookup-append (eq k) ps qs, at) in
        before ws (ps ++ qs) h once on

    -- a key that is in protected is in neither of the others
    pub above-protected : lookup (eq k) qs ≡ Some h → (lookup (eq k) ws ≡ None) × (lookup (eq k) ps ≡ None)
    above-protected at =
        let off = before ps qs h (distinct_after eq ws (ps ++ qs) once) at in
        let on : lookup (eq k) (ps ++ qs) ≡ Some h = rw (lookup-append (eq k) ps qs, off, at) in
        (before ws (ps ++ qs) h once on, off)

pub last_below : {K V : Type 0} (e : K × V) (es : List (K × V)) (l : K × V) → last_entry es ≡ Some l → last_entry (e ∷ es) ≡ Some l
last_below e [] l h = cc
last_below e (x ∷ xs) l h =
    let n : length (x ∷ xs) - 1 ≡ length xs = omega arith in
    let m : length (e ∷ x ∷ xs) - 1 ≡ suc (length xs) = omega arith in
    rw m (rw n at h)

no_last_at : {K V : Type 0} (x : K × V) (xs : List (K × V)) → slice_get (x ∷ xs) (length xs) ≡ None → ⊥
no_last_at x [] h = cc
no_last_at x (y ∷ ys) h = no_last_at y ys h

pub no_last : {K V : Type 0} (es : List (K × V)) → last_entry es ≡ None → es ≡ []
no_last [] h = refl
no_last (x ∷ xs) h = let n : length (x ∷ xs) - 1 ≡ length xs = omega arith in absurd (no_last_at x xs (rw n at h))

pub below : (a b : ℕ) → a < b → nat_lt a b ≡ true
below a b h = search (rules, arith)

pub not_below : (a b : ℕ) → b ≤ a → nat_lt a b ≡ false
not_below a b h = search (rules, arith)

pub room_for : (a b : ℕ) → nat_lt a b ≡ true → suc a ≤ b
room_for a b h = search (rules, arith)

pub no_last_none : {K V : Type 0} (e : K × V) (es : List (K × V)) → last_entry (e ∷ es) ≡ None → ⊥
no_last_none e es h = let n : length (e ∷ es) - 1 ≡ length es = omega arith in no_last_at e es (rw n at h)

module _ {K V : Type 0} (c : Caps) (e : Entry K V) (ps qs : List (Entry K V)) where
  pub promote-full : (l : Entry K V) → protected_cap c ≤ length qs → last_entry qs ≡ Some l
      → promoted c e ps qs ≡ (l ∷ ps, all_but_last (e ∷ qs))
  promote-full l h is = let t : nat_lt (length qs) (protected_cap c) ≡ false = not_below (length qs) (protected_cap c) h in
      let there : last_entry (e ∷ qs) ≡ Some l = last_below e qs l is in rw (t, there)

there_at : {K X : Type 0} (test : K → Bool) (es : List (K × X)) (o : Option (K × X)) → lookup_entry test es ≡ o
    → IsSome (lookup test es) → (e : K × X) × (lookup_entry test es ≡ Some e)
there_at test es None h s = let n = lookup_none-entry test es h in let s' = rw n at s in cc
there_at test es (Some e) h s = (e, h)

pub there : {K X : Type 0} (test : K → Bool) (es : List (K × X)) → IsSome (lookup test es) → (e : K × X) × (lookup_entry test es ≡ Some e)
there test es s = there_at test es (lookup_entry test es) refl s

pub apart_there : {K V : Type 0} (eq : K → K → Bool) → IsEquivalence eq → (k : K) (xs ys : List (Entry K V))
    → IsDistinct eq (keys_of ((xs ++ ys))) → IsSome (lookup (eq k) xs) → lookup (eq k) ys ≡ None
apart_there eq laws k xs ys d s = let e = there (eq k) xs s in apart eq laws k xs ys e.0.1 d (lookup-from_entry (eq k) xs e.0 e.1)

pub there_same : {K X : Type 0} (test : K → Bool) (es : List (K × X)) (e : K × X) → lookup_entry test es ≡ Some e → test e.0 ≡ true
there_same test es e h = (Contains-lookup_entry test es e h).1
