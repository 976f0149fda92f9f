-- What trim takes out.
use Rattle.std.proofs.Common.{◌≡◌, ℕ, zero, suc, ◌+◌, ◌<◌, Bool, true, false, cond, not, ◌||◌, List, [], ◌∷◌, ◌++◌, length, Option, Some, None, refl, sym, ap, ◌∙◌, arith}
use Rattle.std.specs.Prelude.{nat_lt}
use Rattle.std.specs.Option.{option_map_or, is_some}
use Rattle.std.specs.List.{IsDistinct, AllByRecursion, list_any}
use Rattle.std.specs.Map.{keys_of, lookup, remove_entry}
use Rattle.std.specs.List.Sorted.{IsPermutation}
use Rattle.std.proofs.lemmas.List.Sorted.{sum_by-IsPermutation}
use Rattle.std.specs.Cmp.{IsEquivalence}
use Rattle.std.proofs.lemmas.List.Sums.{sum_by-append, sum_by-cons}
use Rattle.lru.specs.LruCache.{last_entry}
use Rattle.wt_regions.specs.declared.held.Held.{Held}
use Rattle.wt_regions.specs.declared.caps.Caps.{Caps}
use Rattle.wt_regions.proofs.Moves.{split_of_last}
use Rattle.wt_regions.proofs.Apart.{below, no_last}
use Rattle.wt_regions.specs.Lists.{Entry, Lists, all_but_last, lists_of, weight_of, weights}

module _ {K V : Type 0} where
  pub weights-append : (xs ys : List (Entry K V)) → weights (xs ++ ys) ≡ weights xs + weights ys
  weights-append xs ys = sum_by-append (λ (e : Entry K V). e.1.weight) xs ys

  weights-one : (l : Entry K V) → weights (l ∷ []) ≡ l.1.weight
  weights-one l = omega arith

  weights-last_at : (es : List (Entry K V)) (o : Option (Entry K V)) → last_entry es ≡ o
      → weights (all_but_last es) + option_map_or (λ (e : Entry K V). e.1.weight) o 0 ≡ weights es
  weights-last_at es None h = let e = no_last es h in rw e (omega arith)
  weights-last_at es (Some l) h =
      let a = weights-append (all_but_last es) (l ∷ []) in
      let b = weights-one l in
      let s : weights es ≡ weights (all_but_last es ++ l ∷ []) = ap weights (split_of_last es l h) in
      omega (arith, a, b, s)

  pub weights-last : (es : List (Entry K V))
      → weights (all_but_last es) + option_map_or (λ (e : Entry K V). e.1.weight) (last_entry es) 0 ≡ weights es
  weights-last es = weights-last_at es (last_entry es) refl

  pub weight-split : (c : Caps) (ws ps qs : List (Entry K V)) → weight_of (lists_of c ws ps qs) ≡ weights ws + (weights ps + weights qs)
  weight-split c ws ps qs = let a = weights-append ws (ps ++ qs) in let b = weights-append ps qs in a ∙ ap (λ n. weights ws + n) b

  pub weight-window : (c : Caps) (ws ps qs : List (Entry K V))
      → weight_of (lists_of c (all_but_last ws) ps qs) + option_map_or (λ (e : Entry K V). e.1.weight) (last_entry ws) 0
      ≡ weight_of (lists_of c ws ps qs)
  weight-window c ws ps qs = omega (arith, weight-split c ws ps qs, weight-split c (all_but_last ws) ps qs, weights-last ws)

  pub weight-probation : (c : Caps) (ws ps qs : List (Entry K V))
      → weight_of (lists_of c ws (all_but_last ps) qs) + option_map_or (λ (e : Entry K V). e.1.weight) (last_entry ps) 0
      ≡ weight_of (lists_of c ws ps qs)
  weight-probation c ws ps qs = omega (arith, weight-split c ws ps qs, weight-split c ws (all_but_last ps) qs, weights-last ps)

  pub weight-protected : (c : Caps) (ws ps qs : List (Entry K V))
      → weight_of (lists_of c ws ps (all_but_last qs)) + option_map_or (λ (e : Entry K V). e.1.weight) (last_entry qs) 0
      ≡ weight_of (lists_of c ws ps qs)
  weight-protected c ws ps qs = omega (arith, weight-split c ws ps qs, weight-split c ws ps (all_but_last qs), weights-last qs)

shift : (n : ℕ) → nat_lt 1 (suc n) ≡ nat_lt 0 n
shift zero = refl
shift (suc n) = below 1 (suc (suc n)) (omega arith) ∙ sym (below 0 (suc n) (omega arith))

module _ {K X : Type 0} (eq : K → K → Bool) where
  others_than : (x : K) (es : List (K × X)) → AllByRecursion (λ y. eq x y ≡ false) (keys_of es)
      → nat_lt 0 (length es) ≡ list_any (λ e. not (eq x e.0)) es
  others_than x [] h = refl
  others_than x (e ∷ es) h = rw h.0 (below 0 (length (e ∷ es)) (omega arith))

  congr_any : IsEquivalence eq → (k j : K) → eq k j ≡ true → (es : List (K × X))
      → list_any (λ e. not (eq k e.0)) es ≡ list_any (λ e. not (eq j e.0)) es
  congr_any laws k j h [] = refl
  congr_any laws k j h (e ∷ es) = let s = laws.congr k j e.0 h in let t = congr_any laws k j h es in rw (s, t)

  pub others_without : (k : K) (es : List (K × X)) → is_some (lookup (eq k) es) ≡ false
      → nat_lt 0 (length es) ≡ list_any (λ e. not (eq k e.0)) es
  others_without k [] h = refl
  others_without k (e ∷ es) h = (elim (eq k e.0) as
      (λ b. is_some (cond b (Some e.1) (lookup (eq k) es)) ≡ false
      → nat_lt 0 (length (e ∷ es)) ≡ (not b || list_any (λ e. not (eq k e.0)) es)) [
        | true ↦ λ q. cc
        | false ↦ λ q. below 0 (length (e ∷ es)) (omega arith)
      ]) h

  nonempty : (test : K → Bool) (es : List (K × X)) → is_some (lookup test es) ≡ true → 0 < length es
  nonempty test [] h = cc
  nonempty test (e ∷ es) h = omega arith

  pub others_with : IsEquivalence eq → (k : K) (es : List (K × X)) → IsDistinct eq (keys_of es)
      → is_some (lookup (eq k) es) ≡ true → nat_lt 1 (length es) ≡ list_any (λ e. not (eq k e.0)) es
  unfolding IsDistinct
  others_with laws k [] d h = cc
  others_with laws k (e ∷ es) d h =
      (elim (eq k e.0) as (λ b. eq k e.0 ≡ b → is_some (cond b (Some e.1) (lookup (eq k) es)) ≡ true
      → nat_lt 1 (length (e ∷ es)) ≡ (not b || list_any (λ e. not (eq k e.0)) es)) [
        | true ↦ λ t q. rw (congr_any laws k e.0 t es) (shift (length es) ∙ others_than e.0 es d.0)
        | false ↦ λ t q. let n = nonempty (eq k) es q in below 1 (length (e ∷ es)) (omega arith)
      ]) refl h

module _ {K V : Type 0} where
  pub weights-cons : (x : Entry K V) (xs : List (Entry K V)) → weights (x ∷ xs) ≡ x.1.weight + weights xs
  weights-cons x xs = sum_by-cons (λ (e : Entry K V). e.1.weight) x xs

  weights-last-is : (es : List (Entry K V)) (l : Entry K V) → last_entry es ≡ Some l → weights (all_but_last es) + l.1.weight ≡ weights es
  weights-last-is es l h = rw h at (weights-last es)

  pub weight-enters : (k : Caps) (c : Entry K V) (ws ps qs : List (Entry K V)) → last_entry ws ≡ Some c
      → weight_of (lists_of k (all_but_last ws) (c ∷ ps) qs) + 0 ≡ weight_of (lists_of k ws ps qs)
  weight-enters k c ws ps qs h = omega (
    arith,
    weight-split k ws ps qs,
    weight-split k (all_but_last ws) (c ∷ ps) qs,
    weights-cons c ps,
    weights-last-is ws c h,
  )

  pub weights-moves : (xs ys : List (Entry K V)) → IsPermutation xs ys → weights ys ≡ weights xs
  weights-moves xs ys h = sum_by-IsPermutation (λ (e : Entry K V). e.1.weight) xs ys (h)

  pub weights-removed : (test : K → Bool) (es : List (Entry K V))
      → weights (remove_entry test es) + option_map_or (λ (h : Held V). h.weight) (lookup test es) 0 ≡ weights es
  weights-removed test [] = omega arith
  weights-removed test (e ∷ es) =
      (elim (test e.0) as (λ b. weights (cond b es (e ∷ remove_entry test es)) + option_map_or
      (λ (h : Held V). h.weight) (cond b (Some e.1) (lookup test es)) 0 ≡ weights (e ∷ es)) [
        | true ↦ let c = weights-cons e es in omega (arith, c)
        | false ↦ let n = weights-removed test es in let c = weights-cons e es in
            let d = weights-cons e (remove_entry test es) in omega (arith, n, c, d)
      ])

  pub weight-is : (r : Lists K V) → weight_of r ≡ weights (r.window ++ (r.probation ++ r.protected))
  weight-is r = refl
