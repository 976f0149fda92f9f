-- Keys that stand once and weights that are right, through a new entry and through one that leaves.
use Rattle.std.proofs.Common.{◌≡◌, ℕ, zero, suc, ◌≤◌, Bool, true, false, cond, not, List, [], ◌∷◌, ◌++◌, length, Option, Some, None, refl, subst, ◌∙◌, arith}
use Rattle.std.specs.Prelude.{nat_le, All}
use Rattle.std.specs.Option.{option_map_or}
use Rattle.std.specs.List.{IsDistinct, AllByRecursion, list_any}
use Rattle.std.specs.List.Sorted.{IsPermutation}
use Rattle.std.specs.Map.{keys_of, lookup}
use Rattle.std.specs.Cmp.{IsEquivalence}
use Rattle.std.proofs.lemmas.List.Elements.{All-tail}
use Rattle.std.proofs.lemmas.List.Sorted.{IsPermutation-sym, IsPermutation-trans, IsPermutation-middle, IsPermutation-append_left, IsPermutation-append_right, IsPermutation-map, All-permutation}
use Rattle.std.proofs.lemmas.Map.Keys.{IsDistinct-IsPermutation, IsDistinct-cons, IsDistinct-tail}
use Rattle.lru.specs.LruCache.{last_entry}
use Rattle.wt_regions.specs.declared.held.Held.{Held}
use Rattle.wt_regions.specs.declared.caps.Caps.{Caps}
use Rattle.wt_regions.specs.declared.notices.Notice.{Notice}
use Rattle.wt_regions.proofs.Moves.{IsPermutation-last}
use Rattle.wt_regions.proofs.Apart.{no_last}
use Rattle.wt_regions.proofs.Loop.{one_less, out_one}
use Rattle.wt_regions.specs.declared.notices.Cause.TheVariants.{Size}
use Rattle.wt_regions.specs.declared.weighs.Measure.{Measure}
use Rattle.wt_regions.specs.Lists.{Entry, Lists, all_entries, all_but_last, lists_of, weight_of, measured}
use Rattle.wt_regions.specs.Settle.{holds_other, last_told, trimmed_once, trimmed_within}
use Rattle.wt_regions.specs.Lawful.{IsFit, IsLawful}
use Rattle.wt_regions.specs.Moves.{IsPlaced}

module _ {K V : Type 0} (eq : K → K → Bool) (laws : IsEquivalence eq) (measure : V → Measure) where
  pub keys-all_but_last : (x : Entry K V) (es fs : List (Entry K V)) → IsPermutation es (x ∷ fs)
      → IsDistinct eq (keys_of es) → IsDistinct eq (keys_of fs)
  keys-all_but_last x es fs h d = IsDistinct-tail eq x.0 (keys_of fs)
      (IsDistinct-IsPermutation eq laws.symm (keys_of es) (keys_of ((x ∷ fs)))
      (IsPermutation-map (λ (e : Entry K V). e.0) es (x ∷ fs) (h)) d)

  pub weights-all_but_last : (x : Entry K V) (es fs : List (Entry K V)) → IsPermutation es (x ∷ fs)
      → All (λ (e : Entry K V). measured e.1 ≡ measure e.1.value) es
      → All (λ (e : Entry K V). measured e.1 ≡ measure e.1.value) fs
  weights-all_but_last x es fs h d =
      All-tail (λ (e : Entry K V). measured e.1 ≡ measure e.1.value) x fs
      (All-permutation (λ (e : Entry K V). measured e.1 ≡ measure e.1.value) es (x ∷ fs) (h) d)

  pub keys_none : (k : K) (es : List (Entry K V)) → lookup (eq k) es ≡ None → AllByRecursion (λ y. eq k y ≡ false) (keys_of es)
  keys_none k [] h = tt
  keys_none k (e ∷ es) h = (elim (eq k e.0) as
      (λ b. eq k e.0 ≡ b → cond b (Some e.1) (lookup (eq k) es) ≡ None
      → AllByRecursion (λ y. eq k y ≡ false) (keys_of ((e ∷ es)))) [
        | true ↦ λ t q. cc
        | false ↦ λ t q. (t, keys_none k es q)
      ]) refl h

  -- a key that is nowhere comes to the front of the second list
  pub distinct-fresh : (k : K) (h : Held V) (ps ws : List (Entry K V)) → lookup (eq k) (ps ++ ws) ≡ None
      → IsDistinct eq (keys_of ((ps ++ ws))) → IsDistinct eq (keys_of ((ps ++ (k, h) ∷ ws)))
  distinct-fresh k h ps ws n d =
      let whole : IsDistinct eq (keys_of (((k, h) ∷ (ps ++ ws)))) =
      IsDistinct-cons eq k (keys_of ((ps ++ ws))) (keys_none k (ps ++ ws) n) d in
      IsDistinct-IsPermutation eq laws.symm (keys_of (((k, h) ∷ (ps ++ ws)))) (keys_of ((ps ++ (k, h) ∷ ws)))
      (IsPermutation-map (λ (e : Entry K V). e.0) ((k, h) ∷ (ps ++ ws)) (ps ++ (k, h) ∷ ws)
      ((IsPermutation-sym _ _ (IsPermutation-middle ps (k, h) ws)))) whole

  -- one entry less, in one of the three lists
  all_but_last_at : (f : Entry K V → Bool) (es : List (Entry K V)) (o : Option (Entry K V)) → last_entry es ≡ o
      → list_any f es ≡ true → (l : Entry K V) × IsPermutation es (l ∷ all_but_last es)
  all_but_last_at f es None h any = let e = no_last es h in let n = rw e at any in cc
  all_but_last_at f es (Some l) h any = (l, IsPermutation-last es l h)

  pub all_but_last-of : (f : Entry K V → Bool) (es : List (Entry K V)) → list_any f es ≡ true → (l : Entry K V)
      × IsPermutation es (l ∷ all_but_last es)
  all_but_last-of f es any = all_but_last_at f es (last_entry es) refl any

  pub loses-window : (l : Entry K V) (ws rest : List (Entry K V)) → IsPermutation ws (l ∷ all_but_last ws)
      → IsPermutation (ws ++ rest) (l ∷ (all_but_last ws ++ rest))
  loses-window l ws rest h = IsPermutation-append_left rest ws (l ∷ all_but_last ws) h

  pub loses-below : (l : Entry K V) (ws xs ys : List (Entry K V)) → IsPermutation xs (l ∷ ys) → IsPermutation (ws ++ xs) (l ∷ (ws ++ ys))
  loses-below l ws xs ys h = IsPermutation-trans (ws ++ xs) (ws ++ (l ∷ ys)) (l ∷ (ws ++ ys))
      (IsPermutation-append_right ws xs (l ∷ ys) h) (IsPermutation-middle ws l ys)

  pub loses : (r s : Lists K V) (l : Entry K V) → s.caps ≡ r.caps → IsPermutation (all_entries r) (l ∷ all_entries s)
      → length s.window ≤ length r.window → length s.probation ≤ length r.probation
      → length s.protected ≤ length r.protected → IsPlaced eq measure r → IsPlaced eq measure s
  loses r s l same h w p q law = record {
    fit = rw same law.fit;
    distinct = keys-all_but_last l (all_entries r) (all_entries s) h law.distinct;
    window = rw same (omega (arith, law.window));
    protected = rw same (omega (arith, law.protected));
    main_part = rw same (omega (arith, law.main_part));
    measures = weights-all_but_last l (all_entries r) (all_entries s) h law.measures;
  }

  module _ (k : K) where
    one_placed_at : (c : Caps) (ws ps qs : List (Entry K V)) (a b d : Bool) → holds_other eq k ps ≡ a
        → holds_other eq k qs ≡ b → holds_other eq k ws ≡ d
        → (one : Lists K V × List (Notice K V))
        → cond a (Some (lists_of c ws (all_but_last ps) qs, last_told Size ps))
        (cond b (Some (lists_of c ws ps (all_but_last qs), last_told Size qs))
        (cond d (Some (lists_of c (all_but_last ws) ps qs, last_told Size ws)) None)) ≡ Some one
        → IsPlaced eq measure (lists_of c ws ps qs) → IsPlaced eq measure one.0
    one_placed_at c ws ps qs true b d ha hb hd one h law =
        let is : (lists_of c ws (all_but_last ps) qs, last_told Size ps) ≡ one = cc in
        let l = all_but_last-of (λ e. not (eq k e.0)) ps ha in let n = out_one (λ e. not (eq k e.0)) ps ha in
        subst (λ (p : Lists K V × List (Notice K V)). IsPlaced eq measure p.0) is
        (loses (lists_of c ws ps qs) (lists_of c ws (all_but_last ps) qs) l.0 refl
        (loses-below l.0 ws (ps ++ qs) (all_but_last ps ++ qs) (loses-window l.0 ps qs l.1)) (omega arith)
        (omega (arith, n.1)) (omega arith) law)
    one_placed_at c ws ps qs false true d ha hb hd one h law =
        let is : (lists_of c ws ps (all_but_last qs), last_told Size qs) ≡ one = cc in
        let l = all_but_last-of (λ e. not (eq k e.0)) qs hb in let n = out_one (λ e. not (eq k e.0)) qs hb in
        subst (λ (p : Lists K V × List (Notice K V)). IsPlaced eq measure p.0) is
        (loses (lists_of c ws ps qs) (lists_of c ws ps (all_but_last qs)) l.0 refl
        (loses-below l.0 ws (ps ++ qs) (ps ++ all_but_last qs) (loses-below l.0 ps qs (all_but_last qs) l.1))
        (omega arith) (omega arith) (omega (arith, n.1)) law)
    one_placed_at c ws ps qs false false true ha hb hd one h law =
        let is : (lists_of c (all_but_last ws) ps qs, last_told Size ws) ≡ one = cc in
        let l = all_but_last-of (λ e. not (eq k e.0)) ws hd in let n = out_one (λ e. not (eq k e.0)) ws hd in
        subst (λ (p : Lists K V × List (Notice K V)). IsPlaced eq measure p.0) is
        (loses (lists_of c ws ps qs) (lists_of c (all_but_last ws) ps qs) l.0 refl (loses-window l.0 ws (ps ++ qs) l.1)
        (omega (arith, n.1)) (omega arith) (omega arith) law)
    one_placed_at c ws ps qs false false false ha hb hd one h law = cc

    pub one_placed : (r : Lists K V) (one : Lists K V × List (Notice K V)) → trimmed_once eq k r ≡ Some one
        → IsPlaced eq measure r → IsPlaced eq measure one.0
    one_placed r one h law = one_placed_at r.caps r.window r.probation r.protected (holds_other eq k r.probation)
        (holds_other eq k r.protected) (holds_other eq k r.window) refl refl refl one h law

    abbrev pub turned : ℕ → Lists K V → Bool → Option (Lists K V × List (Notice K V)) → Lists K V × List (Notice K V)
    turned n r b o = cond b (r, [])
        (option_map_or (λ (one : Lists K V × List (Notice K V)).
        ((trimmed_within eq k n one.0).0, one.1 ++ (trimmed_within eq k n one.0).1)) o (r, []))

    -- trim keeps the places
    trimmed-placed_at : (n : ℕ) (r : Lists K V) (b : Bool) (o : Option (Lists K V × List (Notice K V)))
        → trimmed_once eq k r ≡ o → IsPlaced eq measure r
        → ((s : Lists K V) → IsPlaced eq measure s → IsPlaced eq measure (trimmed_within eq k n s).0)
        → IsPlaced eq measure (turned n r b o).0
    trimmed-placed_at n r true o h law more = law
    trimmed-placed_at n r false None h law more = law
    trimmed-placed_at n r false (Some one) h law more = more one.0 (one_placed r one h law)

    pub trimmed-placed : (n : ℕ) (r : Lists K V) → IsPlaced eq measure r → IsPlaced eq measure (trimmed_within eq k n r).0
    trimmed-placed zero r law = law
    trimmed-placed (suc n) r law = trimmed-placed_at n r (nat_le (weight_of r) r.caps.bound)
        (trimmed_once eq k r) refl law (trimmed-placed n)

    -- and the limits
    trimmed-caps_at : (n : ℕ) (r : Lists K V) (b : Bool) (o : Option (Lists K V × List (Notice K V))) → trimmed_once eq k r ≡ o
        → ((s : Lists K V) → (trimmed_within eq k n s).0.caps ≡ s.caps) → (turned n r b o).0.caps ≡ r.caps
    trimmed-caps_at n r true o h more = refl
    trimmed-caps_at n r false None h more = refl
    trimmed-caps_at n r false (Some one) h more = more one.0 ∙ (one_less eq k r one h).2

    pub trimmed-caps : (n : ℕ) (r : Lists K V) → (trimmed_within eq k n r).0.caps ≡ r.caps
    trimmed-caps zero r = refl
    trimmed-caps (suc n) r = trimmed-caps_at n r (nat_le (weight_of r) r.caps.bound) (trimmed_once eq k r) refl (trimmed-caps n)

pub empty-lawful : {K V : Type 0} (eq : K → K → Bool) (measure : V → Measure) (c : Caps) → IsFit c
    → IsLawful eq measure (lists_of {K = K} {V = V} c [] [] [])
unfolding IsDistinct
empty-lawful eq measure c fit = record {
  fit = fit;
  distinct = tt;
  window = omega arith;
  protected = omega arith;
  main_part = omega arith;
  measures = λ k d h. absurd (omega arith);
  bound = omega arith;
}
