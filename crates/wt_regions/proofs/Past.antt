-- A new entry over an expired one of its key in probation or protected.
use Rattle.std.proofs.Common.{◌≡◌, ℕ, zero, suc, ◌+◌, ◌-◌, ◌<◌, ◌≤◌, Bool, true, false, cond, List, [], ◌∷◌, ◌++◌, length, Option, Some, None, refl, sym, ap, ◌∙◌, arith, rules, length-append}
use Rattle.std.specs.Prelude.{nat_le, nat_eq, IsSome}
use Rattle.std.specs.Option.{option_map_or}
use Rattle.std.specs.Map.{lookup, remove_entry}
use Rattle.std.specs.Cmp.{IsEquivalence}
use Rattle.std.proofs.lemmas.List.{append-nil}
use Rattle.lru.specs.LruCache.{last_entry}
use Rattle.wt_regions.specs.declared.held.Held.{Held}
use Rattle.wt_regions.specs.declared.caps.Caps.{Caps}
use Rattle.wt_regions.specs.declared.notices.Notice.{Notice}
use Rattle.wt_regions.specs.declared.notices.Cause.TheVariants.{Expired}
use Rattle.wt_regions.specs.declared.weighs.Measure.{Measure}
use Rattle.wt_regions.proofs.Moves.{lookup-append}
use Rattle.wt_regions.proofs.Apart.{no_last_none, apart, none_at_last, distinct_after, below}
use Rattle.wt_regions.proofs.Weights.{weights-cons, weights-last, weights-removed, weight-split}
use Rattle.wt_regions.proofs.Loop.{appended-twice}
use Rattle.wt_regions.proofs.Without.{where-is, without-length, remove-none}
use Rattle.wt_regions.specs.Lists.{Entry, Lists, without, all_but_last, is_expired, lists_of, main_cap, notice, weight_of, weights}
use Rattle.wt_regions.specs.Settle.{settled}
use Rattle.wt_regions.specs.Notices.{NoticeList, appended}
use Rattle.wt_regions.specs.Moves.{IsPlaced}

pub in_by : (a b : ℕ) → a ≤ b → nat_le a b ≡ true
in_by a b h = search (rules, arith)

over_at : (a b : ℕ) → b < a → nat_le a b ≡ false
over_at a b h = search (rules, arith)

yes_at : (a b : ℕ) → nat_le a b ≡ true → a ≤ b
yes_at a b h = search (rules, arith)

no_at : (a b : ℕ) → nat_le a b ≡ false → b < a
no_at a b h = search (rules, arith)

some_at : (a b : ℕ) → a < b → nat_eq b 0 ≡ false
some_at a zero h = absurd (omega arith)
some_at a (suc b) h = search (rules, arith)

some_of : {X : Type 0} (o : Option X) → IsSome o → (x : X) × (o ≡ Some x)
some_of None s = cc
some_of (Some x) s = (x, refl)

-- the last of a list with one more before it
last_under : {K V : Type 0} (e : K × V) (ws : List (K × V)) (l : K × V) → 0 < length ws → last_entry (e ∷ ws) ≡ Some l
    → last_entry ws ≡ Some l
last_under e [] l h is = absurd (omega arith)
last_under e (x ∷ xs) l h is =
    let n : length (e ∷ x ∷ xs) - 1 ≡ suc (length xs) = omega arith in
    let m : length (x ∷ xs) - 1 ≡ length xs = omega arith in
    rw m (rw n at is)

module _ {K V : Type 0} (eq : K → K → Bool) (laws : IsEquivalence eq) (measure : V → Measure) (f : K → ℕ) (now : ℕ) (k : K)
    (h : Held V) (c : Caps) (ws ps qs : List (Entry K V))
    (law : IsPlaced eq measure (lists_of c ws ps qs)) (off : lookup (eq k) ws ≡ None) (on : IsSome (lookup (eq k) (ps ++ qs))) where
  abbrev after : Lists K V × List (Notice K V)
  after = settled f now (k, h) (without eq k (lists_of c ws ps qs))

  -- main has room
  room : suc (length (remove_entry (eq k) ps) + length (remove_entry (eq k) qs)) ≤ main_cap c
  room =
      let g = some_of (lookup (eq k) (ps ++ qs)) on in
      let is : lookup (eq k) (ws ++ (ps ++ qs)) ≡ Some g.0 = rw (lookup-append (eq k) ws (ps ++ qs), off) g.1 in
      let at = where-is eq laws k ws ps qs g.0 law.distinct is in
      let n : suc (length (remove_entry (eq k) ws ++ (remove_entry (eq k) ps ++ remove_entry (eq k) qs)))
      ≡ length (ws ++ (ps ++ qs)) = without-length eq laws k c ws ps qs at.0 at.2 in
      let r = remove-none (eq k) ws off in
      let m : suc (length (ws ++ (remove_entry (eq k) ps ++ remove_entry (eq k) qs))) ≡ length (ws ++ (ps ++ qs)) = rw r at n in
      omega (
        arith,
        m,
        law.main_part,
        length-append ws (ps ++ qs),
        length-append ps qs,
        length-append ws (remove_entry (eq k) ps ++ remove_entry (eq k) qs),
        length-append (remove_entry (eq k) ps) (remove_entry (eq k) qs),
      )

  -- window has room
  pub past-fits : length ((k, h) ∷ ws) ≤ c.window → after ≡ (lists_of c ((k, h) ∷ ws) (remove_entry (eq k) ps) (remove_entry (eq k) qs), [])
  past-fits le = let r = remove-none (eq k) ws off in let b = in_by (length ((k, h) ∷ ws)) c.window le in rw (r, b)

  -- window gives up its last
  module _ (full : c.window < length ((k, h) ∷ ws)) where
    not_own : (l : Entry K V) → last_entry ((k, h) ∷ ws) ≡ Some l → eq k l.0 ≡ false
    not_own l is = let pos = law.fit.some_window in none_at_last (eq k) ws l off (last_under (k, h) ws l (omega (arith, full, pos)) is)

    past-full_at : (l : Entry K V) (x : Bool) → last_entry ((k, h) ∷ ws) ≡ Some l → is_expired c now l.1 ≡ x
        → after ≡ (
          lists_of c (all_but_last ((k, h) ∷ ws)) (remove_entry (eq k) (cond x ps (l ∷ ps)))
              (remove_entry (eq k) qs),
          cond x (notice Expired l ∷ []) [],
        )
    past-full_at l true is e = let r = remove-none (eq k) ws off in let b = over_at (length ((k, h) ∷ ws)) c.window full in rw (r, b, is, e)
    past-full_at l false is e = let r = remove-none (eq k) ws off in let b = over_at (length ((k, h) ∷ ws)) c.window full in
        let n = not_own l is in
        let m = some_at 0 (main_cap c) (omega (arith, room)) in
        let t = below (length (remove_entry (eq k) ps) + length (remove_entry (eq k) qs)) (main_cap c) room in
        rw (r, b, is, e, m, t, n)

    full_by : (l : Entry K V) (x : Bool) → last_entry ((k, h) ∷ ws) ≡ Some l → is_expired c now l.1 ≡ x
        → (lists_of c (all_but_last ((k, h) ∷ ws)) (remove_entry (eq k) (cond x ps (l ∷ ps))) (remove_entry (eq k) qs)
        ≡ after.0) × (option_map_or (λ (l : Entry K V). notice Expired l ∷ []) (cond x (Some l) None) [] ≡ after.1)
    full_by l true is e = let p = past-full_at l true is e in (
      sym (ap (λ (p : Lists K V × List (Notice K V)). p.0) p),
      sym (ap (λ (p : Lists K V × List (Notice K V)). p.1) p),
    )
    full_by l false is e = let p = past-full_at l false is e in (
      sym (ap (λ (p : Lists K V × List (Notice K V)). p.0) p),
      sym (ap (λ (p : Lists K V × List (Notice K V)). p.1) p),
    )

    full_at : (o : Option (Entry K V)) → last_entry ((k, h) ∷ ws) ≡ o
        → (lists_of c (all_but_last ((k, h) ∷ ws))
        (remove_entry (eq k) (option_map_or (λ (l : Entry K V). cond (is_expired c now l.1) ps (l ∷ ps)) o ps))
        (remove_entry (eq k) qs) ≡ after.0)
        × (option_map_or (λ (l : Entry K V). notice Expired l ∷ [])
        (option_map_or (λ (l : Entry K V). cond (is_expired c now l.1) (Some l) None) o None) [] ≡ after.1)
    full_at None is = absurd (no_last_none (k, h) ws is)
    full_at (Some l) is = full_by l (is_expired c now l.1) is refl

    abbrev pub pushed : List (Entry K V)
    pushed = option_map_or (λ (l : Entry K V). cond (is_expired c now l.1) ps (l ∷ ps)) (last_entry ((k, h) ∷ ws)) ps

    abbrev pub left : Option (Entry K V)
    left = option_map_or (λ (l : Entry K V). cond (is_expired c now l.1) (Some l) None) (last_entry ((k, h) ∷ ws)) None

    pub past-lists : lists_of c (all_but_last ((k, h) ∷ ws)) (remove_entry (eq k) pushed) (remove_entry (eq k) qs) ≡ after.0
    past-lists = (full_at (last_entry ((k, h) ∷ ws)) refl).0

    pub past-told : option_map_or (λ (l : Entry K V). notice Expired l ∷ []) left [] ≡ after.1
    past-told = (full_at (last_entry ((k, h) ∷ ws)) refl).1

    lookup_by : (l : Entry K V) (x : Bool) → last_entry ((k, h) ∷ ws) ≡ Some l
        → lookup (eq k) (cond x ps (l ∷ ps) ++ qs) ≡ lookup (eq k) (ps ++ qs)
    lookup_by l true is = refl
    lookup_by l false is = let n = not_own l is in rw n

    lookup_at : (o : Option (Entry K V)) → last_entry ((k, h) ∷ ws) ≡ o
        → lookup (eq k) (option_map_or (λ (l : Entry K V). cond (is_expired c now l.1) ps (l ∷ ps)) o ps ++ qs)
        ≡ lookup (eq k) (ps ++ qs)
    lookup_at None is = refl
    lookup_at (Some l) is = lookup_by l (is_expired c now l.1) is

    pub past-own : lookup (eq k) (pushed ++ qs) ≡ lookup (eq k) (ps ++ qs)
    past-own = lookup_at (last_entry ((k, h) ∷ ws)) refl

  abbrev pub heft : Option (Held V) → ℕ
  heft o = option_map_or (λ (g : Held V). g.weight) o 0

  both_at : (o : Option (Held V)) → lookup (eq k) ps ≡ o → heft (lookup (eq k) (ps ++ qs)) ≡ heft o + heft (lookup (eq k) qs)
  both_at None is = rw (lookup-append (eq k) ps qs, is) (omega arith)
  both_at (Some g) is = let n = apart eq laws k ps qs g (distinct_after eq ws (ps ++ qs) law.distinct) is in
      rw (lookup-append (eq k) ps qs, is, n) (omega arith)

  both : heft (lookup (eq k) (ps ++ qs)) ≡ heft (lookup (eq k) ps) + heft (lookup (eq k) qs)
  both = both_at (lookup (eq k) ps) refl

  pub past-weight-fits : weight_of (lists_of c ((k, h) ∷ ws) (remove_entry (eq k) ps) (remove_entry (eq k) qs)) + heft
      (lookup (eq k) (ps ++ qs)) ≡ weight_of (lists_of c ws ps qs) + h.weight
  past-weight-fits = omega (
    arith,
    both,
    weight-split c ws ps qs,
    weight-split c ((k, h) ∷ ws) (remove_entry (eq k) ps) (remove_entry (eq k) qs),
    weights-cons (k, h) ws,
    weights-removed (eq k) ps,
    weights-removed (eq k) qs,
  )

  weight_by : (l : Entry K V) (x : Bool) → c.window < length ((k, h) ∷ ws) → last_entry ((k, h) ∷ ws) ≡ Some l
      → weight_of (lists_of c (all_but_last ((k, h) ∷ ws)) (remove_entry (eq k) (cond x ps (l ∷ ps)))
      (remove_entry (eq k) qs)) + (heft (lookup (eq k) (ps ++ qs)) + option_map_or (λ (l : Entry K V). l.1.weight)
      (cond x (Some l) None) 0) ≡ weight_of (lists_of c ws ps qs) + h.weight
  weight_by l true full is =
      let b : weights (all_but_last ((k, h) ∷ ws)) + l.1.weight ≡ weights ((k, h) ∷ ws) = rw is at (weights-last ((k, h) ∷ ws)) in
      omega (
        arith,
        both,
        b,
        weight-split c ws ps qs,
        weight-split c (all_but_last ((k, h) ∷ ws)) (remove_entry (eq k) ps) (remove_entry (eq k) qs),
        weights-cons (k, h) ws,
        weights-removed (eq k) ps,
        weights-removed (eq k) qs,
      )
  weight_by l false full is =
      let b : weights (all_but_last ((k, h) ∷ ws)) + l.1.weight ≡ weights ((k, h) ∷ ws) = rw is at (weights-last ((k, h) ∷ ws)) in
      let n = not_own full l is in
      rw n (omega (
        arith,
        both,
        b,
        weight-split c ws ps qs,
        weight-split c (all_but_last ((k, h) ∷ ws)) (l ∷ remove_entry (eq k) ps) (remove_entry (eq k) qs),
        weights-cons l (remove_entry (eq k) ps),
        weights-cons (k, h) ws,
        weights-removed (eq k) ps,
        weights-removed (eq k) qs,
      ))

  weight_at : (o : Option (Entry K V)) → c.window < length ((k, h) ∷ ws) → last_entry ((k, h) ∷ ws) ≡ o
      → weight_of (lists_of c (all_but_last ((k, h) ∷ ws))
      (remove_entry (eq k) (option_map_or (λ (l : Entry K V). cond (is_expired c now l.1) ps (l ∷ ps)) o ps))
      (remove_entry (eq k) qs))
      + (heft (lookup (eq k) (ps ++ qs)) + option_map_or (λ (l : Entry K V). l.1.weight)
      (option_map_or (λ (l : Entry K V). cond (is_expired c now l.1) (Some l) None) o None) 0)
      ≡ weight_of (lists_of c ws ps qs) + h.weight
  weight_at None full is = absurd (no_last_none (k, h) ws is)
  weight_at (Some l) full is = weight_by l (is_expired c now l.1) full is

  pub past-weight : (full : c.window < length ((k, h) ∷ ws))
      → weight_of (lists_of c (all_but_last ((k, h) ∷ ws)) (remove_entry (eq k) (pushed full)) (remove_entry (eq k) qs))
      + (heft (lookup (eq k) (ps ++ qs)) + option_map_or (λ (l : Entry K V). l.1.weight) (left full) 0)
      ≡ weight_of (lists_of c ws ps qs) + h.weight
  past-weight full = weight_at (last_entry ((k, h) ∷ ws)) full refl

  -- no estimate counts
  pub past-any_at : (g : K → ℕ) (o : Option (Entry K V)) → last_entry ((k, h) ∷ ws) ≡ o
      → c.window < length ((k, h) ∷ ws)
      → settled f now (k, h) (without eq k (lists_of c ws ps qs))
      ≡ (
        lists_of c (all_but_last ((k, h) ∷ ws))
            (remove_entry (eq k) (option_map_or (λ (l : Entry K V). cond (is_expired c now l.1) ps (l ∷ ps)) o ps))
            (remove_entry (eq k) qs),
        option_map_or
            (λ (l : Entry K V). cond (is_expired c now l.1) (notice Expired l ∷ []) []) o [],
      )
  past-any_at g None is full = absurd (no_last_none (k, h) ws is)
  past-any_at g (Some l) is full = past-full_at full l (is_expired c now l.1) is refl

  pub past-notices : (n0 n1 n2 : NoticeList K V) (own : Option (Held V)) (l : Option (Entry K V))
      (full : c.window < length ((k, h) ∷ ws)) → own ≡ lookup (eq k) (pushed full ++ qs) → l ≡ left full
      → n1 ≡ appended (option_map_or (λ (g : Held V). notice Expired (k, g) ∷ []) own []) n0
      → n2 ≡ appended (option_map_or (λ (l : Entry K V). notice Expired l ∷ []) l []) n1
      → n2 ≡ appended (option_map_or (λ (g : Held V). notice Expired (k, g) ∷ []) (lookup (eq k) (ps ++ qs)) [] ++ after.1) n0
  past-notices n0 n1 n2 own l full io il i1 i2 =
      rw (i2, i1, io, il, past-own full)
      (rw (past-told full) (sym (appended-twice
      (option_map_or (λ (g : Held V). notice Expired (k, g) ∷ []) (lookup (eq k) (ps ++ qs)) []) after.1 n0)))

  pub past-notices-fits : (n0 n1 : NoticeList K V) (own : Option (Held V)) → length ((k, h) ∷ ws) ≤ c.window
      → own ≡ lookup (eq k) (ps ++ qs)
      → n1 ≡ appended (option_map_or (λ (g : Held V). notice Expired (k, g) ∷ []) own []) n0
      → n1 ≡ appended (option_map_or (λ (g : Held V). notice Expired (k, g) ∷ []) (lookup (eq k) (ps ++ qs)) [] ++ after.1) n0
  past-notices-fits n0 n1 own le io i1 =
      let p : after.1 ≡ [] = ap (λ (p : Lists K V × List (Notice K V)). p.1) (past-fits le) in
      rw (i1, io, p) (ap (λ (ns : List (Notice K V)). appended ns n0)
      (sym (append-nil (option_map_or (λ (g : Held V). notice Expired (k, g) ∷ []) (lookup (eq k) (ps ++ qs)) []))))

module _ {K V : Type 0} (eq : K → K → Bool) (laws : IsEquivalence eq) (measure : V → Measure) (f g : K → ℕ) (now : ℕ) (k : K)
    (h : Held V) (c : Caps) (ws ps qs : List (Entry K V))
    (law : IsPlaced eq measure (lists_of c ws ps qs)) (off : lookup (eq k) ws ≡ None) (on : IsSome (lookup (eq k) (ps ++ qs))) where
  any_by : (x : Bool) → nat_le (length ((k, h) ∷ ws)) c.window ≡ x
      → settled f now (k, h) (without eq k (lists_of c ws ps qs))
      ≡ settled g now (k, h) (without eq k (lists_of c ws ps qs))
  any_by true is = let le : length ((k, h) ∷ ws) ≤ c.window = yes_at (length ((k, h) ∷ ws)) c.window is in
      past-fits eq laws measure f now k h c ws ps qs law off on le ∙ sym (past-fits eq laws measure g now k h c ws ps qs law off on le)
  any_by false is = let full : c.window < length ((k, h) ∷ ws) = no_at (length ((k, h) ∷ ws)) c.window is in
      past-any_at eq laws measure f now k h c ws ps qs law off on (λ _. 0) (last_entry ((k, h) ∷ ws)) refl full
      ∙ sym (past-any_at eq laws measure g now k h c ws ps qs law off on (λ _. 0)
      (last_entry ((k, h) ∷ ws)) refl full)

  pub past-any : settled f now (k, h) (without eq k (lists_of c ws ps qs)) ≡ settled g now (k, h) (without eq k (lists_of c ws ps qs))
  past-any = any_by (nat_le (length ((k, h) ∷ ws)) c.window) refl
