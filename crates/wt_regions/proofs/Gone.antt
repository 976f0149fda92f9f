-- What is lawful after entries left.
use Rattle.std.proofs.Common.{◌≡◌, ℕ, ◌+◌, ◌≤◌, Bool, true, false, cond, List, [], ◌∷◌, ◌++◌, length, Some, None, refl, sym, ap, subst, ◌∙◌, arith, length-append, append_assoc}
use Rattle.std.specs.Map.{lookup}
use Rattle.std.specs.Cmp.{IsEquivalence}
use Rattle.std.proofs.lemmas.List.{append-nil}
use Rattle.std.proofs.lemmas.List.Sorted.{IsPermutation-middle}
use Rattle.wt_regions.specs.declared.held.Held.{Held}
use Rattle.wt_regions.specs.declared.caps.Caps.{Caps}
use Rattle.wt_regions.specs.declared.notices.Cause.TheVariants.{Expired, Explicit}
use Rattle.wt_regions.specs.declared.weighs.Measure.{Measure}
use Rattle.wt_regions.proofs.Moves.{lawful_of, placed_of}
use Rattle.wt_regions.proofs.Weights.{weight-is, weights-moves, weights-cons}
use Rattle.wt_regions.proofs.Settled.{IsSound, sound-loses}
use Rattle.wt_regions.proofs.Without.{where-is, without-placed, without-perm, without-none}
use Rattle.wt_regions.specs.Lists.{Entry, Lists, all_entries, without, is_expired, lists_of, notice, weight_of}
use Rattle.wt_regions.specs.Steps.{expired_of, live_of, told_back}
use Rattle.wt_regions.specs.Notices.{NoticeList, appended}
use Rattle.wt_regions.specs.Lawful.{IsLawful}
use Rattle.wt_regions.specs.Moves.{IsPlaced}

module _ {K V : Type 0} (eq : K → K → Bool) (laws : IsEquivalence eq) (measure : V → Measure) where
  -- ---- one entry is taken out
  module _ (k : K) (c : Caps) (ws ps qs : List (Entry K V)) (law : IsLawful eq measure (lists_of c ws ps qs)) where
    pub taken-some : (h : Held V) → lookup (eq k) (ws ++ (ps ++ qs)) ≡ Some h
        → IsLawful eq measure (without eq k (lists_of c ws ps qs))
        × (weight_of (without eq k (lists_of c ws ps qs)) + h.weight ≡ weight_of (lists_of c ws ps qs))
    taken-some h is =
        let at = where-is eq laws k ws ps qs h law.distinct is in
        let m = weights-moves (ws ++ (ps ++ qs)) (at.0 ∷ all_entries (without eq k (lists_of c ws ps qs)))
        (without-perm eq laws k c ws ps qs at.0 at.2) in
        let w = weights-cons at.0 (all_entries (without eq k (lists_of c ws ps qs))) in
        let s : at.0.1.weight ≡ h.weight = ap (λ (g : Held V). g.weight) at.1 in
        let a = weight-is (without eq k (lists_of c ws ps qs)) in
        let b = weight-is (lists_of c ws ps qs) in (
          lawful_of eq measure (without eq k (lists_of c ws ps qs))
              (without-placed eq laws k measure c ws ps qs at.0 at.2 (placed_of eq measure (lists_of c ws ps qs) law))
              (omega (arith, m, w, s, a, b, law.bound)),
          omega (arith, m, w, s, a, b),
        )

    pub taken-none : lookup (eq k) (ws ++ (ps ++ qs)) ≡ None
        → IsLawful eq measure (without eq k (lists_of c ws ps qs))
        × (weight_of (without eq k (lists_of c ws ps qs)) ≡ weight_of (lists_of c ws ps qs))
    taken-none n = let e = without-none eq laws k c ws ps qs n in
        (subst (IsLawful eq measure) (sym e) law, ap (λ (r : Lists K V). weight_of r) e)

  -- ---- the expired leave
  sound-kept : (now : ℕ) (c : Caps) (xs es bs : List (Entry K V)) → IsSound eq laws measure (xs ++ (es ++ bs))
      → IsSound eq laws measure (xs ++ (live_of now c es ++ bs))
  sound-kept now c xs [] bs s = s
  sound-kept now c xs (e ∷ es) bs s =
      elim (is_expired c now e.1) as (λ b. IsSound eq laws measure
      (xs ++ (cond b (live_of now c es) (e ∷ live_of now c es) ++ bs))) [
        | true ↦ sound-kept now c xs es bs
            (sound-loses eq laws measure e (xs ++ (e ∷ (es ++ bs))) (xs ++ (es ++ bs))
            (IsPermutation-middle xs e (es ++ bs)) s)
        | false ↦ subst (IsSound eq laws measure) (append_assoc xs (e ∷ []) (live_of now c es ++ bs))
            (sound-kept now c (xs ++ e ∷ []) es bs (subst (IsSound eq laws measure) (sym (append_assoc xs (e ∷ []) (es ++ bs))) s))
      ]

  kept-length : (now : ℕ) (c : Caps) (es : List (Entry K V)) → length (live_of now c es) ≤ length es
  kept-length now c [] = omega arith
  kept-length now c (e ∷ es) = elim (is_expired c now e.1) as
      (λ b. length (cond b (live_of now c es) (e ∷ live_of now c es)) ≤ length (e ∷ es)) [
        | true ↦ let n = kept-length now c es in omega (arith, n)
        | false ↦ let n = kept-length now c es in omega (arith, n)
      ]

  pub cleaned-lawful : (now : ℕ) (c : Caps) (ws ps qs : List (Entry K V)) → IsLawful eq measure (lists_of c ws ps qs)
      → weight_of (lists_of c (live_of now c ws) (live_of now c ps) (live_of now c qs)) ≤ weight_of
      (lists_of c ws ps qs)
      → IsLawful eq measure (lists_of c (live_of now c ws) (live_of now c ps) (live_of now c qs))
  cleaned-lawful now c ws ps qs law less =
      let s0 : IsSound eq laws measure (ws ++ (ps ++ qs)) = record { distinct = law.distinct; measures = law.measures } in
      let s1 : IsSound eq laws measure (live_of now c ws ++ (ps ++ qs)) = sound-kept now c [] ws (ps ++ qs) s0 in
      let s2 : IsSound eq laws measure (live_of now c ws ++ (live_of now c ps ++ qs)) = sound-kept now c (live_of now c ws) ps qs s1 in
      let s3 : IsSound eq laws measure ((live_of now c ws ++ live_of now c ps) ++ (live_of now c qs ++ [])) =
      sound-kept now c (live_of now c ws ++ live_of now c ps) qs []
      (subst (IsSound eq laws measure) (sym
      (ap (λ (es : List (Entry K V)). (live_of now c ws ++ live_of now c ps) ++ es) (append-nil qs)
      ∙ append_assoc (live_of now c ws) (live_of now c ps) qs)) s2) in
      let s : IsSound eq laws measure (live_of now c ws ++ (live_of now c ps ++ live_of now c qs)) =
      subst (IsSound eq laws measure) (ap (λ (es : List (Entry K V)). (live_of now c ws ++ live_of now c ps) ++ es)
      (append-nil (live_of now c qs)) ∙ append_assoc (live_of now c ws) (live_of now c ps) (live_of now c qs)) s3 in
      record {
        fit = law.fit;
        distinct = s.distinct;
        window = omega (arith, kept-length now c ws, law.window);
        protected = omega (arith, kept-length now c qs, law.protected);
        main_part = omega (arith, kept-length now c ps, kept-length now c qs, law.main_part);
        measures = s.measures;
        bound = omega (arith, less, law.bound);
      }

module _ {K V : Type 0} where
  gone-length : (now : ℕ) (c : Caps) (es : List (Entry K V)) → length (expired_of now c es) ≤ length es
  gone-length now c [] = omega arith
  gone-length now c (e ∷ es) = elim (is_expired c now e.1) as
      (λ b. length (cond b (expired_of now c es ++ (notice Expired e ∷ [])) (expired_of now c es)) ≤ length (e ∷ es)) [
        | true ↦ let n = gone-length now c es in omega (arith, n, length-append (expired_of now c es) (notice Expired e ∷ []))
        | false ↦ let n = gone-length now c es in omega (arith, n)
      ]

  cleared-length : (now : ℕ) (c : Caps) (es : List (Entry K V)) → length (told_back now c es) ≡ length es
  cleared-length now c [] = refl
  cleared-length now c (e ∷ es) = let n = cleared-length now c es in
      omega (
        arith,
        n,
        length-append (told_back now c es)
            (notice (cond (is_expired c now e.1) Expired Explicit) e ∷ []),
      )

  module _ (eq : K → K → Bool) (measure : V → Measure) (now : ℕ) (c : Caps) (ws ps qs : List (Entry K V))
      (law : IsPlaced eq measure (lists_of c ws ps qs)) (t0 t1 t2 : NoticeList K V) (room : c.entries ≤ t0.room) where
    pub clean-room-1 : t1 ≡ appended (expired_of now c ws) t0 → length ps ≤ t1.room
    clean-room-1 i = rw i (omega (arith, room, gone-length now c ws, law.window, law.main_part, law.fit.window))

    pub clean-room-2 : t1 ≡ appended (expired_of now c ws) t0 → t2 ≡ appended (expired_of now c ps) t1 → length qs ≤ t2.room
    clean-room-2 i j = rw (j, i) (omega
        (arith, room, gone-length now c ws, gone-length now c ps, law.window, law.main_part, law.fit.window))

    pub clear-room-1 : t1 ≡ appended (told_back now c ws) t0 → length ps ≤ t1.room
    clear-room-1 i = rw i (omega (arith, room, cleared-length now c ws, law.window, law.main_part, law.fit.window))

    pub clear-room-2 : t1 ≡ appended (told_back now c ws) t0 → t2 ≡ appended (told_back now c ps) t1 → length qs ≤ t2.room
    clear-room-2 i j = rw (j, i) (omega
        (arith, room, cleared-length now c ws, cleared-length now c ps, law.window, law.main_part, law.fit.window))
