-- Where trim ends the weights are within the bound.
use Rattle.std.proofs.Common.{◌≡◌, ℕ, zero, suc, ◌-◌, ◌≤◌, Bool, true, false, cond, not, ◌||◌, List, [], ◌∷◌, ◌++◌, length, take, Option, Some, None, refl, sym, subst, arith, rules}
use Rattle.std.specs.Prelude.{nat_le, sum_by}
use Rattle.std.specs.List.{IsDistinct, AllByRecursion}
use Rattle.std.specs.Map.{keys_of}
use Rattle.std.specs.Cmp.{IsEquivalence}
use Rattle.wt_regions.specs.declared.notices.Notice.{Notice}
use Rattle.wt_regions.proofs.Loop.{one_less}
use Rattle.wt_regions.proofs.Sound.{one_placed, turned}
use Rattle.wt_regions.specs.declared.notices.Cause.TheVariants.{Size}
use Rattle.wt_regions.specs.declared.weighs.Measure.{Measure}
use Rattle.wt_regions.specs.Lists.{Entry, Lists, all_entries, all_but_last, lists_of, weight_of}
use Rattle.wt_regions.specs.Settle.{holds_other, last_told, trimmed_once, trimmed_within}
use Rattle.wt_regions.specs.Moves.{IsPlaced}

within : (a b : ℕ) → nat_le a b ≡ true → a ≤ b
within a b h = search (rules, arith)

empty_list : {X : Type 0} (xs : List X) → length xs ≡ 0 → xs ≡ []
empty_list [] h = refl
empty_list (x ∷ xs) h = absurd (omega arith)

weightless : {K V : Type 0} (r : Lists K V) (b : ℕ) → all_entries r ≡ [] → weight_of r ≤ b
weightless {K = K} {V = V} r b e = subst (λ (es : List (Entry K V)). sum_by (λ (e : Entry K V). e.1.weight) es ≤ b) (sym e) (omega arith)

module _ {K V : Type 0} (eq : K → K → Bool) (laws : IsEquivalence eq) (k : K) (b : ℕ) where
  -- each entry of k weighs at most b
  abbrev pub IsLight : List (Entry K V) → Type 0
  IsLight es = AllByRecursion (λ (e : Entry K V). eq k e.0 ≡ true → e.1.weight ≤ b) es

  light-append : (xs ys : List (Entry K V)) → IsLight xs → IsLight ys → IsLight (xs ++ ys)
  light-append [] ys h i = i
  light-append (x ∷ xs) ys h i = (h.0, light-append xs ys h.1 i)

  light-left : (xs ys : List (Entry K V)) → IsLight (xs ++ ys) → IsLight xs
  light-left [] ys h = tt
  light-left (x ∷ xs) ys h = (h.0, light-left xs ys h.1)

  light-right : (xs ys : List (Entry K V)) → IsLight (xs ++ ys) → IsLight ys
  light-right [] ys h = h
  light-right (x ∷ xs) ys h = light-right xs ys h.1

  light-take : (n : ℕ) (xs : List (Entry K V)) → IsLight xs → IsLight (take n xs)
  light-take zero xs h = tt
  light-take (suc n) [] h = tt
  light-take (suc n) (x ∷ xs) h = (h.0, light-take n xs h.1)

  no_other-append : (xs ys : List (Entry K V)) → holds_other eq k xs ≡ false → holds_other eq k ys ≡ false
      → holds_other eq k (xs ++ ys) ≡ false
  no_other-append [] ys h i = i
  no_other-append (x ∷ xs) ys h i =
      (elim (eq k x.0) as (λ c. (not c || holds_other eq k xs) ≡ false → (not c || holds_other eq k (xs ++ ys)) ≡ false) [
        | true ↦ λ q. no_other-append xs ys q i
        | false ↦ λ q. cc
      ]) h

  -- keys that stand once, and none but k: at most one entry
  own : (x : Entry K V) (es : List (Entry K V)) → (not (eq k x.0) || holds_other eq k es) ≡ false → eq k x.0 ≡ true
  own x es h = (elim (eq k x.0) as (λ c. (not c || holds_other eq k es) ≡ false → c ≡ true) [ true ↦ λ q. refl | false ↦ λ q. cc ]) h

  light-alone : (es : List (Entry K V)) → IsDistinct eq (keys_of es) → holds_other eq k es ≡ false → IsLight es
      → sum_by (λ (e : Entry K V). e.1.weight) es ≤ b
  unfolding IsDistinct
  light-alone [] d h l = omega arith
  light-alone (x ∷ []) d h l = let w = l.0 (own x [] h) in omega (arith, w)
  light-alone (x ∷ y ∷ es) d h l =
      let kx : eq k x.0 ≡ true = own x (y ∷ es) h in
      let ky : eq k y.0 ≡ true = own y es (rw kx at h) in
      let xy : eq k y.0 ≡ eq x.0 y.0 = laws.congr k x.0 y.0 kx in
      let no : eq x.0 y.0 ≡ false = d.0.0 in
      cc

  abbrev step_by : Lists K V → Bool → Bool → Bool → Option (Lists K V × List (Notice K V))
  step_by r x y z = cond x (Some (lists_of r.caps r.window (all_but_last r.probation) r.protected, last_told Size r.probation))
      (cond y (Some (lists_of r.caps r.window r.probation (all_but_last r.protected), last_told Size r.protected))
      (cond z (Some (lists_of r.caps (all_but_last r.window) r.probation r.protected, last_told Size r.window)) None))

  none_other_at : (r : Lists K V) (x y z : Bool) → holds_other eq k r.probation ≡ x → holds_other eq k r.protected ≡ y
      → holds_other eq k r.window ≡ z
      → step_by r x y z ≡ None
      → holds_other eq k (all_entries r) ≡ false
  none_other_at r true y z hx hy hz h = cc
  none_other_at r false true z hx hy hz h = cc
  none_other_at r false false true hx hy hz h = cc
  none_other_at r false false false hx hy hz h =
      no_other-append r.window (r.probation ++ r.protected) hz (no_other-append r.probation r.protected hx hy)

  none_other : (r : Lists K V) → trimmed_once eq k r ≡ None → holds_other eq k (all_entries r) ≡ false
  none_other r h = none_other_at r (holds_other eq k r.probation) (holds_other eq k r.protected)
      (holds_other eq k r.window) refl refl refl h

  light-lists : (r : Lists K V) → IsDistinct eq (keys_of ((all_entries r))) → trimmed_once eq k r ≡ None
      → IsLight (all_entries r) → weight_of r ≤ b
  light-lists r d h l = light-alone (all_entries r) d (none_other r h) l

  light-one_at : (r : Lists K V) (x y z : Bool) (one : Lists K V × List (Notice K V))
      → step_by r x y z ≡ Some one
      → IsLight (all_entries r) → IsLight (all_entries one.0)
  light-one_at r true y z one h l =
      let is : (lists_of r.caps r.window (all_but_last r.probation) r.protected, last_told Size r.probation) ≡ one = cc in
      let lw = light-left r.window (r.probation ++ r.protected) l in let lr = light-right r.window (r.probation ++ r.protected) l in
      subst (λ (p : Lists K V × List (Notice K V)). IsLight (all_entries p.0)) is
      (light-append r.window (all_but_last r.probation ++ r.protected) lw
      (light-append (all_but_last r.probation) r.protected
      (light-take (length r.probation - 1) r.probation (light-left r.probation r.protected lr))
      (light-right r.probation r.protected lr)))
  light-one_at r false true z one h l =
      let is : (lists_of r.caps r.window r.probation (all_but_last r.protected), last_told Size r.protected) ≡ one = cc in
      let lw = light-left r.window (r.probation ++ r.protected) l in let lr = light-right r.window (r.probation ++ r.protected) l in
      subst (λ (p : Lists K V × List (Notice K V)). IsLight (all_entries p.0)) is
      (light-append r.window (r.probation ++ all_but_last r.protected) lw
      (light-append r.probation (all_but_last r.protected) (light-left r.probation r.protected lr)
      (light-take (length r.protected - 1) r.protected (light-right r.probation r.protected lr))))
  light-one_at r false false true one h l =
      let is : (lists_of r.caps (all_but_last r.window) r.probation r.protected, last_told Size r.window) ≡ one = cc in
      let lw = light-left r.window (r.probation ++ r.protected) l in let lr = light-right r.window (r.probation ++ r.protected) l in
      subst (λ (p : Lists K V × List (Notice K V)). IsLight (all_entries p.0)) is
      (light-append (all_but_last r.window) (r.probation ++ r.protected) (light-take (length r.window - 1) r.window lw) lr)
  light-one_at r false false false one h l = cc

  module _ (measure : V → Measure) where
    trimmed-bound_at : (n : ℕ) (r : Lists K V) (c : Bool) (o : Option (Lists K V × List (Notice K V)))
        → nat_le (weight_of r) r.caps.bound ≡ c → trimmed_once eq k r ≡ o → r.caps.bound ≡ b
        → IsPlaced eq measure r → IsLight (all_entries r) → length (all_entries r) ≡ suc n
        → ((s : Lists K V) → s.caps.bound ≡ b → IsPlaced eq measure s → IsLight (all_entries s)
        → length (all_entries s) ≡ n → weight_of (trimmed_within eq k n s).0 ≤ b)
        → weight_of (turned eq laws measure k n r c o).0 ≤ b
    trimmed-bound_at n r true o hc ho hb law l len more = subst (λ m. weight_of r ≤ m) hb (within (weight_of r) r.caps.bound hc)
    trimmed-bound_at n r false None hc ho hb law l len more = light-lists r law.distinct ho l
    trimmed-bound_at n r false (Some one) hc ho hb law l len more =
        let less = one_less eq k r one ho in
        more one.0 (rw less.2 hb) (one_placed eq laws measure k r one ho law)
        (light-one_at r (holds_other eq k r.probation) (holds_other eq k r.protected) (holds_other eq k r.window) one ho l)
        (omega (arith, less.1))

    -- where the entry of k is within the bound, trim ends within it
    pub trimmed-bound : (n : ℕ) (r : Lists K V) → r.caps.bound ≡ b → IsPlaced eq measure r → IsLight (all_entries r)
        → length (all_entries r) ≡ n → weight_of (trimmed_within eq k n r).0 ≤ b
    trimmed-bound zero r hb law l len = let e = empty_list (all_entries r) len in weightless r b e
    trimmed-bound (suc n) r hb law l len =
        trimmed-bound_at n r (nat_le (weight_of r) r.caps.bound) (trimmed_once eq k r) refl refl hb law l len
        (trimmed-bound n)
