-- What putting a value in gives, case by case.
use Rattle.std.proofs.Common.{◌≡◌, ℕ, ◌+◌, ◌≤◌, Bool, true, false, cond, List, [], ◌∷◌, ◌++◌, length, Some, None, refl, sym, ap, ◌∙◌, arith}
use Rattle.std.specs.Prelude.{IsSome, OnOk, Result, Ok, Err}
use Rattle.std.specs.Option.{option_map_or}
use Rattle.std.specs.Map.{lookup, lookup_entry, remove_entry}
use Rattle.std.specs.Cmp.{IsEquivalence}
use Rattle.std.proofs.lemmas.List.Sorted.{length_permutation}
use Rattle.wt_regions.specs.declared.held.Held.{Held}
use Rattle.wt_regions.specs.declared.caps.Caps.{Caps}
use Rattle.wt_regions.specs.declared.notices.Notice.{Notice}
use Rattle.wt_regions.specs.declared.notices.Cause.TheVariants.{Expired, Replaced}
use Rattle.wt_regions.specs.declared.weighs.Measure.{Measure}
use Rattle.wt_regions.proofs.Moves.{lookup-append, lookup_entry-none, IsPermutation-pull}
use Rattle.wt_regions.proofs.Apart.{apart, distinct_after, entry-from_lookup}
use Rattle.wt_regions.proofs.Settled.{fresh_parts}
use Rattle.wt_regions.proofs.Weights.{weight-is}
use Rattle.wt_regions.proofs.Touches.{brought}
use Rattle.wt_regions.proofs.Without.{where-w, where-p, where-q, remove-none}
use Rattle.wt_regions.proofs.Past.{past-any, in_by}
use Rattle.wt_regions.proofs.Ready.{replaced-weight}
use Rattle.wt_regions.specs.Lists.{Entry, Lists, all_entries, without, is_expired, lists_of, notice, weight_of, weights}
use Rattle.wt_regions.specs.Touch.{touched}
use Rattle.wt_regions.specs.Settle.{settled}
use Rattle.wt_regions.specs.Steps.{placed}
use Rattle.wt_regions.specs.Moves.{IsPlaced}

module _ {K V : Type 0} (eq : K → K → Bool) (laws : IsEquivalence eq) (same : (a b : K) → eq a b ≡ true → a ≡ b)
    (measure : V → Measure) (f : K → ℕ) (now : ℕ) (k : K) (h : Held V) (c : Caps) (ws ps qs : List (Entry K V))
    (law : IsPlaced eq measure (lists_of c ws ps qs)) where
  abbrev r : Lists K V
  r = lists_of c ws ps qs

  abbrev outcome : Lists K V × List (Notice K V)
  outcome = placed eq f now (k, h) r

  weighed : (s t : Lists K V) (n : ℕ) → s ≡ t → weights (all_entries s) + n ≡ weights (ws ++ (ps ++ qs)) + h.weight
      → weight_of t + n ≡ weight_of r + h.weight
  weighed s t n is w = let a = weight-is t in let b = weight-is r in
      let e : weights (all_entries s) ≡ weights (all_entries t) = ap (λ (x : Lists K V). weights (all_entries x)) is in
      omega (arith, a, b, e, w)

  -- ---- in window
  module _ (g : Held V) (at : lookup (eq k) ws ≡ Some g) where
    entry-w : lookup_entry (eq k) ws ≡ Some (k, g)
    entry-w = entry-from_lookup eq same k ws g at

    off-w : (lookup (eq k) ps ≡ None) × (lookup (eq k) qs ≡ None)
    off-w = fresh_parts (eq k) ps qs (apart eq laws k ws (ps ++ qs) g law.distinct at)

    whole-w : lookup (eq k) (ws ++ (ps ++ qs)) ≡ Some g
    whole-w = rw (lookup-append (eq k) ws (ps ++ qs), at)

    shorter-w : length ((k, h) ∷ remove_entry (eq k) ws) ≤ c.window
    shorter-w = let n = length_permutation ws ((k, g) ∷ remove_entry (eq k) ws)
        (IsPermutation-pull (eq k) ws (k, g) entry-w) in omega (arith, n, law.window)

    window_by : (x : Bool) → is_expired c now g ≡ x
        → outcome ≡ (lists_of c ((k, h) ∷ remove_entry (eq k) ws) ps qs, notice (cond x Expired Replaced) (k, g) ∷ [])
    window_by true is = let b = in_by (length ((k, h) ∷ remove_entry (eq k) ws)) c.window shorter-w in
        rw (whole-w, is, remove-none (eq k) ps off-w.0, remove-none (eq k) qs off-w.1, b)
    window_by false is = rw (whole-w, is, entry-w)

    by-window : outcome ≡ (
      lists_of c ((k, h) ∷ remove_entry (eq k) ws) ps qs,
      notice (cond (is_expired c now g) Expired Replaced) (k, g) ∷ [],
    )
    by-window = window_by (is_expired c now g) refl

    pub window-lists : lists_of c (brought eq k (λ _. h) ws) ps qs ≡ outcome.0
    window-lists =
        let b : brought eq k (λ _. h) ws ≡ (k, h) ∷ remove_entry (eq k) ws = rw entry-w in
        ap (λ (es : List (Entry K V)). lists_of c es ps qs) b ∙ sym (ap (λ (p : Lists K V × List (Notice K V)). p.0) by-window)

    pub window-told : (notice (cond (is_expired c now g) Expired Replaced) (k, g) ∷ []) ≡ outcome.1
    window-told = sym (ap (λ (p : Lists K V × List (Notice K V)). p.1) by-window)

    pub window-weight : weight_of (lists_of c (brought eq k (λ _. h) ws) ps qs) + g.weight ≡ weight_of r + h.weight
    window-weight =
        let t : touched eq k (λ _. h) r ≡ lists_of c (brought eq k (λ _. h) ws) ps qs = rw (entry-w) in
        let w = replaced-weight eq laws measure k 0 h c ws ps qs (k, g) law (where-w eq laws k ws ps qs (k, g) entry-w off-w.0 off-w.1) in
        weighed (touched eq k (λ _. h) r) (lists_of c (brought eq k (λ _. h) ws) ps qs) g.weight t w

  -- ---- in probation
  module _ (off : lookup (eq k) ws ≡ None) (g : Held V) (at : lookup (eq k) ps ≡ Some g) where
    entry-p : lookup_entry (eq k) ps ≡ Some (k, g)
    entry-p = entry-from_lookup eq same k ps g at

    off-p : lookup (eq k) qs ≡ None
    off-p = apart eq laws k ps qs g (distinct_after eq ws (ps ++ qs) law.distinct) at

    whole-p : lookup (eq k) (ws ++ (ps ++ qs)) ≡ Some g
    whole-p = rw (lookup-append (eq k) ws (ps ++ qs), off, lookup-append (eq k) ps qs, at)

    probation_by : is_expired c now g ≡ false → outcome ≡ (touched eq k (λ _. h) r, notice Replaced (k, g) ∷ [])
    probation_by is = rw (whole-p, is)

    pub probation-lists : is_expired c now g ≡ false → touched eq k (λ _. h) r ≡ outcome.0
    probation-lists is = sym (ap (λ (p : Lists K V × List (Notice K V)). p.0) (probation_by is))

    pub probation-told : is_expired c now g ≡ false → (notice Replaced (k, g) ∷ []) ≡ outcome.1
    probation-told is = sym (ap (λ (p : Lists K V × List (Notice K V)). p.1) (probation_by is))

    pub probation-weight : weight_of (touched eq k (λ _. h) r) + g.weight ≡ weight_of r + h.weight
    probation-weight =
        let w = replaced-weight eq laws measure k 0 h c ws ps qs (k, g) law (where-p eq laws k ws ps qs (k, g) off entry-p off-p) in
        weighed (touched eq k (λ _. h) r) (touched eq k (λ _. h) r) g.weight refl w

  -- ---- in protected
  module _ (off : lookup (eq k) ws ≡ None) (offp : lookup (eq k) ps ≡ None) (g : Held V) (at : lookup (eq k) qs ≡ Some g) where
    entry-q : lookup_entry (eq k) qs ≡ Some (k, g)
    entry-q = entry-from_lookup eq same k qs g at

    whole-q : lookup (eq k) (ws ++ (ps ++ qs)) ≡ Some g
    whole-q = rw (lookup-append (eq k) ws (ps ++ qs), off, lookup-append (eq k) ps qs, offp, at)

    touched-q : touched eq k (λ _. h) r ≡ lists_of c ws ps (brought eq k (λ _. h) qs)
    touched-q = rw (lookup_entry-none (eq k) ws off, lookup_entry-none (eq k) ps offp, entry-q)

    protected_by : is_expired c now g ≡ false → outcome ≡ (touched eq k (λ _. h) r, notice Replaced (k, g) ∷ [])
    protected_by is = rw (whole-q, is)

    pub protected-lists : is_expired c now g ≡ false → lists_of c ws ps (brought eq k (λ _. h) qs) ≡ outcome.0
    protected-lists is = sym touched-q ∙ sym (ap (λ (p : Lists K V × List (Notice K V)). p.0) (protected_by is))

    pub protected-told : is_expired c now g ≡ false → (notice Replaced (k, g) ∷ []) ≡ outcome.1
    protected-told is = sym (ap (λ (p : Lists K V × List (Notice K V)). p.1) (protected_by is))

    pub protected-weight : weight_of (lists_of c ws ps (brought eq k (λ _. h) qs)) + g.weight ≡ weight_of r + h.weight
    protected-weight =
        let w = replaced-weight eq laws measure k 0 h c ws ps qs (k, g) law (where-q eq laws k ws ps qs (k, g) off offp entry-q) in
        weighed (touched eq k (λ _. h) r) (lists_of c ws ps (brought eq k (λ _. h) qs)) g.weight touched-q w

  -- ---- an expired one below window
  module _ (off : lookup (eq k) ws ≡ None) (g : Held V) (at : lookup (eq k) (ps ++ qs) ≡ Some g) (is : is_expired c now g ≡ true) where
    on : IsSome (lookup (eq k) (ps ++ qs))
    on = rw at refl

    past_by : outcome ≡ (
      (settled f now (k, h) (without eq k r)).0,
      (notice Expired (k, g) ∷ [])
          ++ (settled f now (k, h) (without eq k r)).1,
    )
    past_by = rw (lookup-append (eq k) ws (ps ++ qs), off, at, is)

    any : settled (λ _. 0) now (k, h) (without eq k r) ≡ settled f now (k, h) (without eq k r)
    any = past-any eq laws measure (λ _. 0) f now k h c ws ps qs law off on

    pub past-in-lists : (settled (λ _. 0) now (k, h) (without eq k r)).0 ≡ outcome.0
    past-in-lists = ap (λ (p : Lists K V × List (Notice K V)). p.0) any ∙ sym (ap (λ (p : Lists K V × List (Notice K V)). p.0) past_by)

    pub past-in-told : option_map_or (λ (g : Held V). notice Expired (k, g) ∷ []) (lookup (eq k) (ps ++ qs)) []
        ++ (settled (λ _. 0) now (k, h) (without eq k r)).1 ≡ outcome.1
    past-in-told = rw at (ap (λ (p : Lists K V × List (Notice K V)). (notice Expired (k, g) ∷ []) ++ p.1) any
        ∙ sym (ap (λ (p : Lists K V × List (Notice K V)). p.1) past_by))

  -- ---- nowhere
  pub by-new : lookup (eq k) ws ≡ None → lookup (eq k) ps ≡ None → lookup (eq k) qs ≡ None → outcome ≡ settled f now (k, h) r
  by-new nw np nq = rw (lookup-append (eq k) ws (ps ++ qs), nw, lookup-append (eq k) ps qs, np, nq)

  pub new-lists : lookup (eq k) ws ≡ None → lookup (eq k) ps ≡ None → lookup (eq k) qs ≡ None → (settled f now (k, h) r).0 ≡ outcome.0
  new-lists nw np nq = sym (ap (λ (p : Lists K V × List (Notice K V)). p.0) (by-new nw np nq))

  pub new-told : lookup (eq k) ws ≡ None → lookup (eq k) ps ≡ None → lookup (eq k) qs ≡ None → (settled f now (k, h) r).1 ≡ outcome.1
  new-told nw np nq = sym (ap (λ (p : Lists K V × List (Notice K V)). p.1) (by-new nw np nq))

pub on_ok : {A E : Type 0} {P Q : Type 0} (o : Result A E) → (P → Q) → OnOk o P → OnOk o Q
on_ok (Ok x) f p = f p
on_ok (Err e) f p = tt
