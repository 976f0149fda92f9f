-- The entry of a key taken out of the region that has it.
use Rattle.std.proofs.Common.{◌≡◌, ◌⊎◌, inl, inr, suc, ◌≤◌, Bool, true, false, cond, List, [], ◌∷◌, ◌++◌, length, Option, Some, None, refl, ap, arith}
use Rattle.std.specs.List.{IsDistinct}
use Rattle.std.specs.List.Sorted.{IsPermutation}
use Rattle.std.specs.Map.{keys_of, lookup, lookup_entry, remove_entry}
use Rattle.std.specs.Cmp.{IsEquivalence}
use Rattle.std.proofs.lemmas.Map.{lookup-remove_entry}
use Rattle.std.proofs.lemmas.List.Sorted.{IsPermutation-append_left, length_permutation}
use Rattle.wt_regions.specs.declared.held.Held.{Held}
use Rattle.wt_regions.specs.declared.caps.Caps.{Caps}
use Rattle.wt_regions.specs.declared.weighs.Measure.{Measure}
use Rattle.wt_regions.proofs.Moves.{lookup-append, lookup_none-entry, lookup-from_entry, IsPermutation-pull}
use Rattle.wt_regions.proofs.Apart.{apart, distinct_after, there_same}
use Rattle.wt_regions.proofs.Settled.{fresh_parts, distinct-comm}
use Rattle.wt_regions.proofs.Sound.{loses-below, loses}
use Rattle.wt_regions.specs.Lists.{Entry, all_entries, without, lists_of, lasting}
use Rattle.wt_regions.specs.Moves.{IsPlaced}

pub remove-none : {K X : Type 0} (test : K → Bool) (es : List (K × X)) → lookup test es ≡ None → remove_entry test es ≡ es
remove-none test [] h = refl
remove-none test (e ∷ es) h = (elim (test e.0) as
    (λ b. cond b (Some e.1) (lookup test es) ≡ None → cond b es (e ∷ remove_entry test es) ≡ e ∷ es) [
      | true ↦ λ q. cc
      | false ↦ λ q. ap (λ fs. e ∷ fs) (remove-none test es q)
    ]) h

pub length-removed : {K X : Type 0} (test : K → Bool) (es : List (K × X)) → length (remove_entry test es) ≤ length es
length-removed test [] = omega arith
length-removed test (e ∷ es) = elim (test e.0) as (λ b. length (cond b es (e ∷ remove_entry test es)) ≤ length (e ∷ es)) [
  | true ↦ omega arith
  | false ↦ let n = length-removed test es in omega (arith, n)
]

module _ {K V : Type 0} (eq : K → K → Bool) (laws : IsEquivalence eq) (k : K) where
  pub lookup-removed : (es : List (Entry K V)) → IsDistinct eq (keys_of es) → lookup (eq k) (remove_entry (eq k) es) ≡ None
  lookup-removed es d =
      let own = laws.refl k in
      let l = lookup-remove_entry laws (eq k) (λ x y h. laws.congr k x y h) k es d in rw own at l

  -- where the entry o of k is
  unfoldable pub Where : List (Entry K V) → List (Entry K V) → List (Entry K V) → Entry K V → Type 0
  Where ws ps qs o =
      ((lookup_entry (eq k) ws ≡ Some o) × (lookup (eq k) ps ≡ None) × (lookup (eq k) qs ≡ None))
      ⊎ (((lookup (eq k) ws ≡ None) × (lookup_entry (eq k) ps ≡ Some o) × (lookup (eq k) qs ≡ None))
      ⊎ ((lookup (eq k) ws ≡ None) × (lookup (eq k) ps ≡ None) × (lookup_entry (eq k) qs ≡ Some o)))

  pub where-w : (ws ps qs : List (Entry K V)) (o : Entry K V) → lookup_entry (eq k) ws ≡ Some o
      → lookup (eq k) ps ≡ None → lookup (eq k) qs ≡ None → Where ws ps qs o
  unfolding Where
  where-w ws ps qs o a b d = inl (a, b, d)

  pub where-p : (ws ps qs : List (Entry K V)) (o : Entry K V) → lookup (eq k) ws ≡ None
      → lookup_entry (eq k) ps ≡ Some o → lookup (eq k) qs ≡ None → Where ws ps qs o
  unfolding Where
  where-p ws ps qs o a b d = inr (inl (a, b, d))

  pub where-q : (ws ps qs : List (Entry K V)) (o : Entry K V) → lookup (eq k) ws ≡ None → lookup (eq k) ps ≡ None
      → lookup_entry (eq k) qs ≡ Some o → Where ws ps qs o
  unfolding Where
  where-q ws ps qs o a b d = inr (inr (a, b, d))

  where-qs : (ws ps qs : List (Entry K V)) (h : Held V) (o : Option (Entry K V)) → lookup_entry (eq k) qs ≡ o
      → lookup (eq k) ws ≡ None → lookup (eq k) ps ≡ None → lookup (eq k) qs ≡ Some h → (e : Entry K V) × (e.1 ≡ h)
      × Where ws ps qs e
  unfolding Where
  where-qs ws ps qs h None is nw np s = let n = lookup_none-entry (eq k) qs is in cc
  where-qs ws ps qs h (Some e) is nw np s = let l = lookup-from_entry (eq k) qs e is in let same : e.1 ≡ h = cc in
      (e, same, inr (inr (nw, np, is)))

  where-ps : (ws ps qs : List (Entry K V)) (h : Held V) (o : Option (Entry K V)) → lookup_entry (eq k) ps ≡ o
      → IsDistinct eq (keys_of ((ps ++ qs))) → lookup (eq k) ws ≡ None → lookup (eq k) (ps ++ qs) ≡ Some h
      → (e : Entry K V) × (e.1 ≡ h) × Where ws ps qs e
  unfolding Where
  where-ps ws ps qs h None is d nw s =
      let n = lookup_none-entry (eq k) ps is in
      let s' : lookup (eq k) qs ≡ Some h = rw (lookup-append (eq k) ps qs, n) at s in
      where-qs ws ps qs h (lookup_entry (eq k) qs) refl nw n s'
  where-ps ws ps qs h (Some e) is d nw s =
      let l = lookup-from_entry (eq k) ps e is in
      let s' : Some e.1 ≡ Some h = rw (lookup-append (eq k) ps qs, l) at s in
      let same : e.1 ≡ h = cc in
      (e, same, inr (inl (nw, is, apart eq laws k ps qs e.1 d l)))

  where-ws : (ws ps qs : List (Entry K V)) (h : Held V) (o : Option (Entry K V)) → lookup_entry (eq k) ws ≡ o
      → IsDistinct eq (keys_of ((ws ++ (ps ++ qs)))) → lookup (eq k) (ws ++ (ps ++ qs)) ≡ Some h → (e : Entry K V)
      × (e.1 ≡ h) × Where ws ps qs e
  unfolding Where
  where-ws ws ps qs h None is d s =
      let n = lookup_none-entry (eq k) ws is in
      let s' : lookup (eq k) (ps ++ qs) ≡ Some h = rw (lookup-append (eq k) ws (ps ++ qs), n) at s in
      where-ps ws ps qs h (lookup_entry (eq k) ps) refl (distinct_after eq ws (ps ++ qs) d) n s'
  where-ws ws ps qs h (Some e) is d s =
      let l = lookup-from_entry (eq k) ws e is in
      let s' : Some e.1 ≡ Some h = rw (lookup-append (eq k) ws (ps ++ qs), l) at s in
      let same : e.1 ≡ h = cc in
      let n = fresh_parts (eq k) ps qs (apart eq laws k ws (ps ++ qs) e.1 d l) in
      (e, same, inl (is, n.0, n.1))

  pub where-is : (ws ps qs : List (Entry K V)) (h : Held V) → IsDistinct eq (keys_of ((ws ++ (ps ++ qs))))
      → lookup (eq k) (ws ++ (ps ++ qs)) ≡ Some h → (e : Entry K V) × (e.1 ≡ h) × Where ws ps qs e
  where-is ws ps qs h d s = where-ws ws ps qs h (lookup_entry (eq k) ws) refl d s

  pub where-same : (ws ps qs : List (Entry K V)) (o : Entry K V) → Where ws ps qs o → eq k o.0 ≡ true
  unfolding Where
  where-same ws ps qs o (inl w) = there_same (eq k) ws o w.0
  where-same ws ps qs o (inr (inl w)) = there_same (eq k) ps o w.1
  where-same ws ps qs o (inr (inr w)) = there_same (eq k) qs o w.2

  -- the entry and the rest
  pub without-perm : (c : Caps) (ws ps qs : List (Entry K V)) (o : Entry K V) → Where ws ps qs o
      → IsPermutation (ws ++ (ps ++ qs)) (o ∷ all_entries (without eq k (lists_of c ws ps qs)))
  unfolding Where
  without-perm c ws ps qs o (inl w) =
      rw (remove-none (eq k) ps w.1, remove-none (eq k) qs w.2)
      (IsPermutation-append_left (ps ++ qs) ws (o ∷ remove_entry (eq k) ws) (IsPermutation-pull (eq k) ws o w.0))
  without-perm c ws ps qs o (inr (inl w)) =
      rw (remove-none (eq k) ws w.0, remove-none (eq k) qs w.2)
      (loses-below eq laws (λ _. lasting 0) o ws (ps ++ qs) (remove_entry (eq k) ps ++ qs)
      (IsPermutation-append_left qs ps (o ∷ remove_entry (eq k) ps) (IsPermutation-pull (eq k) ps o w.1)))
  without-perm c ws ps qs o (inr (inr w)) =
      rw (remove-none (eq k) ws w.0, remove-none (eq k) ps w.1)
      (loses-below eq laws (λ _. lasting 0) o ws (ps ++ qs) (ps ++ remove_entry (eq k) qs)
      (loses-below eq laws (λ _. lasting 0) o ps qs (remove_entry (eq k) qs) (IsPermutation-pull (eq k) qs o w.2)))

  pub without-none : (c : Caps) (ws ps qs : List (Entry K V)) → lookup (eq k) (ws ++ (ps ++ qs)) ≡ None
      → without eq k (lists_of c ws ps qs) ≡ lists_of c ws ps qs
  without-none c ws ps qs n =
      let a = fresh_parts (eq k) ws (ps ++ qs) n in
      let b = fresh_parts (eq k) ps qs a.1 in
      rw (remove-none (eq k) ws a.0, remove-none (eq k) ps b.0, remove-none (eq k) qs b.1)

  pub without-fresh : (c : Caps) (ws ps qs : List (Entry K V)) → IsDistinct eq (keys_of ((ws ++ (ps ++ qs))))
      → lookup (eq k) (all_entries (without eq k (lists_of c ws ps qs))) ≡ None
  without-fresh c ws ps qs d =
      let dw = distinct_after eq (ps ++ qs) ws (distinct-comm eq laws (λ (v : V). lasting 0) ws (ps ++ qs) d) in
      let db = distinct_after eq ws (ps ++ qs) d in
      let dp = distinct_after eq qs ps (distinct-comm eq laws (λ (v : V). lasting 0) ps qs db) in
      let dq = distinct_after eq ps qs db in
      rw (
        lookup-append (eq k) (remove_entry (eq k) ws) (remove_entry (eq k) ps ++ remove_entry (eq k) qs),
        lookup-append (eq k) (remove_entry (eq k) ps) (remove_entry (eq k) qs),
        lookup-removed ws dw,
        lookup-removed ps dp,
        lookup-removed qs dq,
      )

  pub without-placed : (measure : V → Measure) (c : Caps) (ws ps qs : List (Entry K V)) (o : Entry K V) → Where ws ps qs o
      → IsPlaced eq measure (lists_of c ws ps qs) → IsPlaced eq measure (without eq k (lists_of c ws ps qs))
  without-placed measure c ws ps qs o w law =
      loses eq laws measure (lists_of c ws ps qs) (without eq k (lists_of c ws ps qs)) o refl
      (without-perm c ws ps qs o w)
      (length-removed (eq k) ws) (length-removed (eq k) ps) (length-removed (eq k) qs) law

  pub without-length : (c : Caps) (ws ps qs : List (Entry K V)) (o : Entry K V) → Where ws ps qs o
      → suc (length (all_entries (without eq k (lists_of c ws ps qs)))) ≡ length (ws ++ (ps ++ qs))
  without-length c ws ps qs o w = let n =
      length_permutation (ws ++ (ps ++ qs)) (o ∷ all_entries (without eq k (lists_of c ws ps qs)))
      (without-perm c ws ps qs o w) in omega (arith, n)
