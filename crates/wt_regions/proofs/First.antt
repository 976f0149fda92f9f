-- The entry that was stored stands first, so trim takes another at each step.
use Rattle.std.proofs.Common.{◌≡◌, ℕ, zero, suc, ◌+◌, ◌-◌, ◌<◌, Bool, true, false, cond, not, ◌||◌, List, [], ◌∷◌, ◌++◌, length, take, drop, Option, Some, None, refl, ap, subst, arith}
use Rattle.std.specs.Map.{lookup}
use Rattle.std.proofs.lemmas.List.Sums.{sum_by-append, sum_by-cons}
use Rattle.std.proofs.lemmas.List.Sorted.{sum_by-IsPermutation}
use Rattle.lru.specs.LruCache.{last_entry}
use Rattle.wt_regions.specs.declared.caps.Caps.{Caps}
use Rattle.wt_regions.specs.declared.notices.Notice.{Notice}
use Rattle.wt_regions.proofs.Moves.{IsPermutation-last}
use Rattle.wt_regions.proofs.Apart.{none_at_last, no_last}
use Rattle.wt_regions.specs.declared.notices.Cause.TheVariants.{Size}
use Rattle.wt_regions.specs.Lists.{Entry, Lists, all_entries, all_but_last, lists_of}
use Rattle.wt_regions.specs.Settle.{holds_other, last_told, trimmed_once}
use Rattle.wt_regions.specs.Moves.{IsFirst, others}

module _ {K V : Type 0} (test : K → Bool) where
  pub none-take : (n : ℕ) (es : List (Entry K V)) → lookup test es ≡ None → lookup test (take n es) ≡ None
  none-take zero es h = refl
  none-take (suc n) [] h = refl
  none-take (suc n) (e ∷ es) h = (elim (test e.0) as
      (λ b. cond b (Some e.1) (lookup test es) ≡ None → cond b (Some e.1) (lookup test (take n es)) ≡ None) [
        | true ↦ λ q. cc
        | false ↦ λ q. none-take n es q
      ]) h

  pub none-drop : (es : List (Entry K V)) → lookup test es ≡ None → lookup test (drop 1 es) ≡ None
  none-drop [] h = refl
  none-drop (e ∷ es) h = (elim (test e.0) as (λ b. cond b (Some e.1) (lookup test es) ≡ None → lookup test es ≡ None) [
    | true ↦ λ q. cc
    | false ↦ λ q. q
  ]) h

  pub first-all_but_last : (es : List (Entry K V)) → lookup test (drop 1 es) ≡ None → lookup test (drop 1 (all_but_last es)) ≡ None
  first-all_but_last [] h = refl
  first-all_but_last (x ∷ []) h = refl
  first-all_but_last (x ∷ y ∷ ys) h =
      let n : length (x ∷ y ∷ ys) - 1 ≡ suc (length ys) = omega arith in
      rw n (none-take (length ys) (y ∷ ys) h)

abbrev one_of : Bool → ℕ
one_of b = cond b 0 1

module _ {K V : Type 0} (eq : K → K → Bool) (k : K) where
  pub others-cons : (e : Entry K V) (es : List (Entry K V)) → others eq k (e ∷ es) ≡ cond (eq k e.0) 0 1 + others eq k es
  others-cons e es = sum_by-cons (λ (e : Entry K V). cond (eq k e.0) 0 1) e es

  pub others-append : (xs ys : List (Entry K V)) → others eq k (xs ++ ys) ≡ others eq k xs + others eq k ys
  others-append xs ys = sum_by-append (λ (e : Entry K V). cond (eq k e.0) 0 1) xs ys

  pub others-own : (e : Entry K V) (es : List (Entry K V)) → eq k e.0 ≡ true → others eq k (e ∷ es) ≡ others eq k es
  others-own e es h = let c = others-cons e es in let one : one_of (eq k e.0) ≡ 0 = ap one_of h in omega (arith, c, one)

  pub others-other : (e : Entry K V) (es : List (Entry K V)) → eq k e.0 ≡ false → others eq k (e ∷ es) ≡ suc (others eq k es)
  others-other e es h = let c = others-cons e es in let one : one_of (eq k e.0) ≡ 1 = ap one_of h in omega (arith, c, one)

  -- where k is not, all are others
  pub others-none : (es : List (Entry K V)) → lookup (eq k) es ≡ None → others eq k es ≡ length es
  others-none [] h = refl
  others-none (e ∷ es) h = (elim (eq k e.0) as
      (λ b. eq k e.0 ≡ b → cond b (Some e.1) (lookup (eq k) es) ≡ None → others eq k (e ∷ es) ≡ length (e ∷ es)) [
        | true ↦ λ t q. cc
        | false ↦ λ t q. let n = others-none es q in let c = others-other e es t in omega (arith, n, c)
      ]) refl h

  pub others-some : (es : List (Entry K V)) → holds_other eq k es ≡ true → 0 < others eq k es
  others-some [] h = cc
  others-some (e ∷ es) h = (elim (eq k e.0) as (λ b. eq k e.0 ≡ b → (not b || holds_other eq k es) ≡ true → 0 < others eq k (e ∷ es)) [
    | true ↦ λ t q. let n = others-some es q in let c = others-own e es t in omega (arith, n, c)
    | false ↦ λ t q. let c = others-other e es t in omega (arith, c)
  ]) refl h

  pub others-parts : (c : Caps) (ws ps qs : List (Entry K V))
      → others eq k (all_entries (lists_of c ws ps qs)) ≡ others eq k ws + (others eq k ps + others eq k qs)
  others-parts c ws ps qs = omega (arith, others-append ws (ps ++ qs), others-append ps qs)

  -- the last of a list that holds another entry, and k nowhere but first
  last-other : (es : List (Entry K V)) (l : Entry K V) → last_entry es ≡ Some l → lookup (eq k) (drop 1 es) ≡ None
      → holds_other eq k es ≡ true → eq k l.0 ≡ false
  last-other [] l is f h = cc
  last-other (x ∷ []) l is f h = let same : x ≡ l = cc in
      subst (λ (y : Entry K V). eq k y.0 ≡ false) same ((elim (eq k x.0) as (λ b. (not b || false) ≡ true → b ≡ false) [
        | true ↦ λ q. cc
        | false ↦ λ q. refl
      ]) h)
  last-other (x ∷ y ∷ ys) l is f h =
      let n : length (x ∷ y ∷ ys) - 1 ≡ suc (length ys) = omega arith in
      let m : length (y ∷ ys) - 1 ≡ length ys = omega arith in
      let below : last_entry (y ∷ ys) ≡ Some l = rw m (rw n at is) in
      none_at_last (eq k) (y ∷ ys) l f below

  others-all_but_last_at : (es : List (Entry K V)) (o : Option (Entry K V)) → last_entry es ≡ o
      → lookup (eq k) (drop 1 es) ≡ None → holds_other eq k es ≡ true
      → suc (others eq k (all_but_last es)) ≡ others eq k es
  others-all_but_last_at es None is f h = let e = no_last es is in let n = rw e at h in cc
  others-all_but_last_at es (Some l) is f h =
      let off = last-other es l is f h in
      let s : others eq k (l ∷ all_but_last es) ≡ others eq k es =
      sum_by-IsPermutation (λ (e : Entry K V). cond (eq k e.0) 0 1) es (l ∷ all_but_last es)
      (IsPermutation-last es l is) in
      let c = others-other l (all_but_last es) off in
      omega (arith, s, c)

  pub others-all_but_last : (es : List (Entry K V)) → lookup (eq k) (drop 1 es) ≡ None → holds_other eq k es ≡ true
      → suc (others eq k (all_but_last es)) ≡ others eq k es
  others-all_but_last es f h = others-all_but_last_at es (last_entry es) refl f h

  one_first_at : (c : Caps) (ws ps qs : List (Entry K V)) (a b d : Bool) → holds_other eq k ps ≡ a
      → holds_other eq k qs ≡ b → holds_other eq k ws ≡ d
      → (one : Lists K V × List (Notice K V))
      → cond a (Some (lists_of c ws (all_but_last ps) qs, last_told Size ps))
      (cond b (Some (lists_of c ws ps (all_but_last qs), last_told Size qs))
      (cond d (Some (lists_of c (all_but_last ws) ps qs, last_told Size ws)) None)) ≡ Some one
      → IsFirst eq k (lists_of c ws ps qs) → IsFirst eq k one.0
      × (suc (others eq k (all_entries one.0)) ≡ others eq k (all_entries (lists_of c ws ps qs)))
  one_first_at c ws ps qs true b d ha hb hd one h f =
      let is : (lists_of c ws (all_but_last ps) qs, last_told Size ps) ≡ one = cc in
      let n = others-all_but_last ps f.probation ha in
      subst (λ (p : Lists K V × List (Notice K V)). IsFirst eq k p.0
      × (suc (others eq k (all_entries p.0)) ≡ others eq k (all_entries (lists_of c ws ps qs)))) is (
        record { window = f.window; probation = first-all_but_last (eq k) ps f.probation; protected = f.protected },
        omega (arith, n, others-parts c ws ps qs, others-parts c ws (all_but_last ps) qs),
      )
  one_first_at c ws ps qs false true d ha hb hd one h f =
      let is : (lists_of c ws ps (all_but_last qs), last_told Size qs) ≡ one = cc in
      let n = others-all_but_last qs f.protected hb in
      subst (λ (p : Lists K V × List (Notice K V)). IsFirst eq k p.0
      × (suc (others eq k (all_entries p.0)) ≡ others eq k (all_entries (lists_of c ws ps qs)))) is (
        record { window = f.window; probation = f.probation; protected = first-all_but_last (eq k) qs f.protected },
        omega (arith, n, others-parts c ws ps qs, others-parts c ws ps (all_but_last qs)),
      )
  one_first_at c ws ps qs false false true ha hb hd one h f =
      let is : (lists_of c (all_but_last ws) ps qs, last_told Size ws) ≡ one = cc in
      let n = others-all_but_last ws f.window hd in
      subst (λ (p : Lists K V × List (Notice K V)). IsFirst eq k p.0
      × (suc (others eq k (all_entries p.0)) ≡ others eq k (all_entries (lists_of c ws ps qs)))) is (
        record { window = first-all_but_last (eq k) ws f.window; probation = f.probation; protected = f.protected },
        omega (arith, n, others-parts c ws ps qs, others-parts c (all_but_last ws) ps qs),
      )
  one_first_at c ws ps qs false false false ha hb hd one h f = cc

  -- a step takes another entry out
  pub one_first : (r : Lists K V) (one : Lists K V × List (Notice K V)) → trimmed_once eq k r ≡ Some one → IsFirst eq k r
      → IsFirst eq k one.0 × (suc (others eq k (all_entries one.0)) ≡ others eq k (all_entries r))
  one_first r one h f = one_first_at r.caps r.window r.probation r.protected (holds_other eq k r.probation)
      (holds_other eq k r.protected) (holds_other eq k r.window) refl refl refl one h f
