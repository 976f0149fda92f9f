-- What holds of the regions between a value that is put in and trim.
use Rattle.std.proofs.Common.{◌≡◌, inl, inr, ℕ, suc, ◌+◌, ◌-◌, ◌<◌, ◌≤◌, Bool, true, false, cond, List, [], ◌∷◌, ◌++◌, length, take, drop, Option, Some, None, refl, sym, ◌∙◌, arith, rules, length-append}
use Rattle.std.specs.Prelude.{nat_le, nat_lt, All}
use Rattle.std.specs.Option.{option_map_or}
use Rattle.std.specs.List.{IsDistinct}
use Rattle.std.specs.List.Sorted.{IsPermutation}
use Rattle.std.specs.Map.{keys_of, lookup, lookup_entry, remove_entry}
use Rattle.std.specs.Cmp.{IsEquivalence}
use Rattle.std.proofs.lemmas.List.{length-take}
use Rattle.std.proofs.lemmas.List.Elements.{All-cons}
use Rattle.std.proofs.lemmas.List.Sorted.{IsPermutation-refl, IsPermutation-sym, IsPermutation-trans, IsPermutation-middle, IsPermutation-append_right, All-permutation, length_permutation, sum_by-IsPermutation}
use Rattle.lru.specs.LruCache.{last_entry}
use Rattle.wt_regions.specs.declared.held.Held.{Held}
use Rattle.wt_regions.specs.declared.caps.Caps.{Caps}
use Rattle.wt_regions.specs.declared.notices.Notice.{Notice}
use Rattle.wt_regions.specs.declared.notices.Cause.{Cause}
use Rattle.wt_regions.specs.declared.notices.Cause.TheVariants.{Expired, Replaced}
use Rattle.wt_regions.specs.declared.settle.Fate.{Fate}
use Rattle.wt_regions.specs.declared.settle.Fate.TheVariants.{Leaves, Enters, Ousts}
use Rattle.wt_regions.specs.declared.weighs.Measure.{Measure}
use Rattle.wt_regions.proofs.Moves.{IsPermutation-pull, lookup_entry-none, promoted-moves-all, promoted_so}
use Rattle.wt_regions.proofs.Apart.{no_last_none, apart, room_for, lookup-congr}
use Rattle.wt_regions.proofs.Sound.{loses-below}
use Rattle.wt_regions.proofs.Settled.{IsSound, sound-moves, sound-loses, sound-new, IsSettled, settled-kept, Light, light-none, fresh_parts}
use Rattle.wt_regions.proofs.Weights.{weights-cons, weights-moves}
use Rattle.wt_regions.proofs.First.{first-all_but_last, none-drop, others-own, others-none}
use Rattle.wt_regions.proofs.Without.{Where, where-is, where-same, without-perm, without-fresh, without-placed, without-length, remove-none}
use Rattle.wt_regions.specs.Lists.{Entry, Lists, all_entries, without, all_but_last, is_expired, lists_of, main_cap, notice, protected_cap, weights, measured, lasting}
use Rattle.wt_regions.specs.Touch.{promoted, touched}
use Rattle.wt_regions.specs.Settle.{by_fate, fate, settled}
use Rattle.wt_regions.specs.Steps.{placed}
use Rattle.wt_regions.specs.Moves.{IsFirst, IsPlaced, others}

over_by : (a b : ℕ) → nat_le a b ≡ false → b < a
over_by a b h = search (rules, arith)

all_but_last-full : {X : Type 0} (x : X) (xs : List X) → 0 < length xs → take (length (x ∷ xs) - 1) (x ∷ xs) ≡ x ∷ take (length xs - 1) xs
all_but_last-full x [] h = absurd (omega arith)
all_but_last-full x (y ∷ ys) h =
    let n : length (x ∷ y ∷ ys) - 1 ≡ suc (length ys) = omega arith in
    let m : length (y ∷ ys) - 1 ≡ length ys = omega arith in
    rw (n, m)

module _ {K V : Type 0} where
  -- notices told before others
  abbrev pub after_notice : List (Notice K V) → Lists K V × List (Notice K V) → Lists K V × List (Notice K V)
  after_notice ns s = (s.0, ns ++ s.1)

  by_fate-window : (c : Entry K V) (r : Lists K V) (y : Fate) → (by_fate c r y).0.window ≡ r.window
  by_fate-window c r (Leaves why) = refl
  by_fate-window c r Enters = refl
  by_fate-window c r (Ousts why) = refl

  window_at : (e : Entry K V) (r : Lists K V) (x : Bool) (o : Option (Entry K V)) (f : Entry K V → Fate)
      → nat_le (length (e ∷ r.window)) r.caps.window ≡ x → 0 < r.caps.window
      → (ws : List (Entry K V)) × ((cond x (record r { window = e ∷ r.window }, [])
      (option_map_or (λ c. by_fate c (record r { window = all_but_last (e ∷ r.window) }) (f c)) o
      (record r { window = e ∷ r.window }, []))).0.window ≡ e ∷ ws)
  window_at e r true o f le pos = (r.window, refl)
  window_at e r false None f le pos = (r.window, refl)
  window_at e r false (Some l) f le pos =
      let over = over_by (length (e ∷ r.window)) r.caps.window le in (
        all_but_last r.window,
        by_fate-window l (record r { window = all_but_last (e ∷ r.window) }) (f l)
            ∙ all_but_last-full e r.window (omega (arith, over, pos)),
      )

  -- the new entry stays first in window
  pub settled-window : (estimate : K → ℕ) (now : ℕ) (e : Entry K V) (r : Lists K V) → 0 < r.caps.window
      → (ws : List (Entry K V)) × ((settled estimate now e r).0.window ≡ e ∷ ws)
  settled-window estimate now e r pos =
      window_at e r (nat_le (length (e ∷ r.window)) r.caps.window) (last_entry (e ∷ r.window))
      (λ c. fate estimate now r.caps c r.probation r.protected) refl pos

module _ {K V : Type 0} (eq : K → K → Bool) (laws : IsEquivalence eq) (measure : V → Measure) (k : K) (b : ℕ) where
  -- what trim takes over: n entries were there
  pub record IsReady (c : Caps) (n : ℕ) (s : Lists K V × List (Notice K V)) : Type 0 where
    pub placed : IsPlaced eq measure s.0
    pub first : IsFirst eq k s.0
    pub others : others eq k (all_entries s.0) + length s.1 ≤ n
    pub light : All (Light eq k b) (all_entries s.0)
    pub caps : s.0.caps ≡ c

  none-after : (e : Entry K V) (es : List (Entry K V)) → eq k e.0 ≡ true → IsDistinct eq (keys_of ((e ∷ es))) → lookup (eq k) es ≡ None
  none-after e es h d = apart eq laws k (e ∷ []) es e.1 d (rw h refl)

  -- ---- a new entry is settled
  first-window : (e : Entry K V) (c : Caps) (ws ps qs : List (Entry K V)) → eq k e.0 ≡ true
      → IsDistinct eq (keys_of (((e ∷ ws) ++ (ps ++ qs)))) → IsFirst eq k (lists_of c (e ∷ ws) ps qs)
  first-window e c ws ps qs own d =
      let n = fresh_parts (eq k) ws (ps ++ qs) (none-after e (ws ++ (ps ++ qs)) own d) in
      let m = fresh_parts (eq k) ps qs n.1 in
      record { window = n.0; probation = none-drop (eq k) ps m.0; protected = none-drop (eq k) qs m.1 }

  settled_at : (e : Entry K V) (c : Caps) (n : ℕ) (start ws : List (Entry K V)) (s : Lists K V × List (Notice K V))
      → s.0.window ≡ e ∷ ws → eq k e.0 ≡ true → All (Light eq k b) start
      → IsSettled eq laws measure (Light eq k b) start (suc n) c s → IsReady c n s
  settled_at e c n start ws s is own l live_of =
      let d : IsDistinct eq (keys_of (((e ∷ ws) ++ (s.0.probation ++ s.0.protected)))) = rw is at live_of.placed.distinct in
      let f : IsFirst eq k (lists_of s.0.caps (e ∷ ws) s.0.probation s.0.protected) =
      first-window e s.0.caps ws s.0.probation s.0.protected own d in
      let m : others eq k ((e ∷ ws) ++ (s.0.probation ++ s.0.protected))
      ≡ length (ws ++ (s.0.probation ++ s.0.protected)) =
      others-own eq k e (ws ++ (s.0.probation ++ s.0.protected)) own
      ∙ others-none eq k (ws ++ (s.0.probation ++ s.0.protected))
      (none-after e (ws ++ (s.0.probation ++ s.0.protected)) own d) in
      let t : length ((e ∷ ws) ++ (s.0.probation ++ s.0.protected)) + length s.1 ≡ suc n = rw is at live_of.count in
      record {
        placed = live_of.placed;
        first = record { window = rw is f.window; probation = f.probation; protected = f.protected };
        others = rw is (omega (arith, m, t));
        light = live_of.each l;
        caps = live_of.caps;
      }

  pub settled-ready : (estimate : K → ℕ) (now : ℕ) (e : Entry K V) (r : Lists K V) → eq k e.0 ≡ true
      → IsPlaced eq measure r → lookup (eq k) (all_entries r) ≡ None → lookup (eq e.0) (all_entries r) ≡ None
      → measured e.1 ≡ measure e.1.value → e.1.weight ≤ b → IsReady r.caps (length (all_entries r)) (settled estimate now e r)
  settled-ready estimate now e r own law fresh fresh' w low =
      let first = settled-window estimate now e r law.fit.some_window in
      settled_at e r.caps (length (all_entries r)) (e ∷ all_entries r) first.0 (settled estimate now e r) first.1 own
      (All-cons (Light eq k b) e (all_entries r) (λ _. low) (light-none eq k b (all_entries r) fresh))
      (settled-kept eq laws measure (Light eq k b) estimate now r e law fresh' w)

  -- where promote puts an entry
  promoted-first-0 : (c : Caps) (e : Entry K V) (ps qs : List (Entry K V)) (x : Bool) (o : Option (Entry K V))
      → last_entry (e ∷ qs) ≡ o → lookup (eq k) ps ≡ None → lookup (eq k) (drop 1 (promoted_so e ps qs x o).0) ≡ None
  promoted-first-0 c e ps qs true o is n = none-drop (eq k) ps n
  promoted-first-0 c e ps qs false None is n = absurd (no_last_none e qs is)
  promoted-first-0 c e ps qs false (Some l) is n = n

  promoted-first-1 : (c : Caps) (e : Entry K V) (ps qs : List (Entry K V)) (x : Bool) (o : Option (Entry K V))
      → last_entry (e ∷ qs) ≡ o → lookup (eq k) qs ≡ None → lookup (eq k) (drop 1 (promoted_so e ps qs x o).1) ≡ None
  promoted-first-1 c e ps qs true o is n = n
  promoted-first-1 c e ps qs false None is n = absurd (no_last_none e qs is)
  promoted-first-1 c e ps qs false (Some l) is n = first-all_but_last (eq k) (e ∷ qs) n

  promoted-fits : (c : Caps) (e : Entry K V) (ps qs : List (Entry K V)) (x : Bool)
      → nat_lt (length qs) (protected_cap c) ≡ x → (o : Option (Entry K V)) → last_entry (e ∷ qs) ≡ o
      → length qs ≤ protected_cap c → length (promoted_so e ps qs x o).1 ≤ protected_cap c
  promoted-fits c e ps qs true t o l h = room_for (length qs) (protected_cap c) t
  promoted-fits c e ps qs false t None l h = absurd (no_last_none e qs l)
  promoted-fits c e ps qs false t (Some l') l h = let n = length-take (length (e ∷ qs) - 1) (e ∷ qs) in omega (arith, n)

  module _ (h : Held V) (c : Caps) (ws ps qs : List (Entry K V)) (o : Entry K V) (law : IsPlaced eq measure (lists_of c ws ps qs)) where
    rest : List (Entry K V)
    rest = all_entries (without eq k (lists_of c ws ps qs))

    fresh : lookup (eq k) rest ≡ None
    unfolding rest
    fresh = without-fresh eq laws k c ws ps qs law.distinct

    fresh-0 : lookup (eq k) (remove_entry (eq k) ws) ≡ None
    unfolding rest
    fresh-0 = (fresh_parts (eq k) (remove_entry (eq k) ws) (remove_entry (eq k) ps ++ remove_entry (eq k) qs) fresh).0

    fresh-1 : lookup (eq k) (remove_entry (eq k) ps) ≡ None
    unfolding rest
    fresh-1 = (fresh_parts (eq k) (remove_entry (eq k) ps) (remove_entry (eq k) qs)
        (fresh_parts (eq k) (remove_entry (eq k) ws) (remove_entry (eq k) ps ++ remove_entry (eq k) qs) fresh).1).0

    fresh-2 : lookup (eq k) (remove_entry (eq k) qs) ≡ None
    unfolding rest
    fresh-2 = (fresh_parts (eq k) (remove_entry (eq k) ps) (remove_entry (eq k) qs)
        (fresh_parts (eq k) (remove_entry (eq k) ws) (remove_entry (eq k) ps ++ remove_entry (eq k) qs) fresh).1).1

    abbrev replaced : Lists K V
    replaced = touched eq k (λ _. h) (lists_of c ws ps qs)

    abbrev q0 : List (Entry K V)
    q0 = (promoted c (o.0, h) (remove_entry (eq k) ps) qs).0

    abbrev q1 : List (Entry K V)
    q1 = (promoted c (o.0, h) (remove_entry (eq k) ps) qs).1

    -- the three places
    at-window : lookup_entry (eq k) ws ≡ Some o → replaced ≡ lists_of c ((o.0, h) ∷ remove_entry (eq k) ws) ps qs
    at-window a = rw a

    at-probation : lookup (eq k) ws ≡ None → lookup_entry (eq k) ps ≡ Some o → replaced ≡ lists_of c ws q0 q1
    at-probation n a = rw (lookup_entry-none (eq k) ws n, a)

    at-protected : lookup (eq k) ws ≡ None → lookup (eq k) ps ≡ None → lookup_entry (eq k) qs ≡ Some o
        → replaced ≡ lists_of c ws ps ((o.0, h) ∷ remove_entry (eq k) qs)
    at-protected n m a = rw (lookup_entry-none (eq k) ws n, lookup_entry-none (eq k) ps m, a)

    touched-perm : Where eq laws k ws ps qs o → IsPermutation ((o.0, h) ∷ rest) (all_entries replaced)
    unfolding rest Where
    touched-perm (inl w) = rw (at-window w.0, remove-none (eq k) ps w.1, remove-none (eq k) qs w.2)
        (IsPermutation-refl ((o.0, h) ∷ (remove_entry (eq k) ws ++ (ps ++ qs))))
    touched-perm (inr (inl w)) = rw (at-probation w.0 w.1, remove-none (eq k) ws w.0, remove-none (eq k) qs w.2)
        (IsPermutation-trans ((o.0, h) ∷ (ws ++ (remove_entry (eq k) ps ++ qs)))
        (ws ++ ((o.0, h) ∷ (remove_entry (eq k) ps ++ qs))) (ws ++ (q0 ++ q1))
        (IsPermutation-sym _ _ (IsPermutation-middle ws (o.0, h) (remove_entry (eq k) ps ++ qs)))
        (IsPermutation-append_right ws ((o.0, h) ∷ (remove_entry (eq k) ps ++ qs)) (q0 ++ q1)
        (promoted-moves-all c (o.0, h) (remove_entry (eq k) ps) qs)))
    touched-perm (inr (inr w)) = rw (at-protected w.0 w.1 w.2, remove-none (eq k) ws w.0, remove-none (eq k) ps w.1)
        (IsPermutation-sym _ _ (loses-below eq laws (λ _. lasting 0) (o.0, h) ws (ps ++ ((o.0, h) ∷ remove_entry (eq k) qs))
        (ps ++ remove_entry (eq k) qs) (IsPermutation-middle ps (o.0, h) (remove_entry (eq k) qs))))

    touched-caps : Where eq laws k ws ps qs o → replaced.caps ≡ c
    unfolding Where
    touched-caps (inl w) = rw (at-window w.0)
    touched-caps (inr (inl w)) = rw (at-probation w.0 w.1)
    touched-caps (inr (inr w)) = rw (at-protected w.0 w.1 w.2)

    touched-first : Where eq laws k ws ps qs o → IsFirst eq k replaced
    unfolding Where
    touched-first (inl w) = rw (at-window w.0)
        (record { window = fresh-0; probation = none-drop (eq k) ps w.1; protected = none-drop (eq k) qs w.2 })
    touched-first (inr (inl w)) = rw (at-probation w.0 w.1) (record {
      window = none-drop (eq k) ws w.0;
      probation = promoted-first-0 c (o.0, h) (remove_entry (eq k) ps) qs (nat_lt (length qs) (protected_cap c))
          (last_entry ((o.0, h) ∷ qs)) refl fresh-1;
      protected = promoted-first-1 c (o.0, h) (remove_entry (eq k) ps) qs (nat_lt (length qs) (protected_cap c))
          (last_entry ((o.0, h) ∷ qs)) refl w.2;
    })
    touched-first (inr (inr w)) = rw (at-protected w.0 w.1 w.2)
        (record { window = none-drop (eq k) ws w.0; probation = none-drop (eq k) ps w.1; protected = fresh-2 })

    touched-fits : Where eq laws k ws ps qs o → (length replaced.window ≤ c.window)
        × (length replaced.protected ≤ protected_cap c)
        × (length replaced.probation + length replaced.protected ≤ main_cap c)
    unfolding Where
    touched-fits (inl w) = let n = length_permutation ws (o ∷ remove_entry (eq k) ws) (IsPermutation-pull (eq k) ws o w.0) in
        rw (at-window w.0) (omega (arith, n, law.window), law.protected, law.main_part)
    touched-fits (inr (inl w)) =
        let n = length_permutation ps (o ∷ remove_entry (eq k) ps) (IsPermutation-pull (eq k) ps o w.1) in
        let m = length_permutation (((o.0, h) ∷ remove_entry (eq k) ps) ++ qs) (q0 ++ q1)
        (promoted-moves-all c (o.0, h) (remove_entry (eq k) ps) qs) in
        let a = length-append ((o.0, h) ∷ remove_entry (eq k) ps) qs in
        let d = length-append q0 q1 in
        rw (at-probation w.0 w.1) (
          law.window,
          promoted-fits c (o.0, h) (remove_entry (eq k) ps) qs (nat_lt (length qs) (protected_cap c)) refl
              (last_entry ((o.0, h) ∷ qs)) refl law.protected,
          omega (arith, n, m, a, d, law.main_part),
        )
    touched-fits (inr (inr w)) = let n = length_permutation qs (o ∷ remove_entry (eq k) qs) (IsPermutation-pull (eq k) qs o w.2) in
        rw (at-protected w.0 w.1 w.2) (law.window, omega (arith, n, law.protected), omega (arith, n, law.main_part))

    own-fresh : eq k o.0 ≡ true → lookup (eq o.0) rest ≡ None
    own-fresh own = sym (lookup-congr eq laws k o.0 own rest) ∙ fresh

    -- a value that takes the place of another
    pub replaced-ready : (why : Cause) → Where eq laws k ws ps qs o → measured h ≡ measure h.value → h.weight ≤ b
        → (old : Held V) → IsReady c (length (ws ++ (ps ++ qs))) (replaced, notice why (k, old) ∷ [])
    unfolding rest
    replaced-ready why at w low old =
        let own = where-same eq laws k ws ps qs o at in
        let f = touched-fits at in
        let same = touched-caps at in
        let p = touched-perm at in
        let q = without-perm eq laws k c ws ps qs o at in
        let sound : IsSound eq laws measure (all_entries replaced) = sound-moves eq laws measure ((o.0, h) ∷ rest) (all_entries replaced) p
        (sound-new eq laws measure (o.0, h) rest (own-fresh own) w
        (sound-loses eq laws measure o (ws ++ (ps ++ qs)) rest q
        (record { distinct = law.distinct; measures = law.measures }))) in
        let n = length_permutation (ws ++ (ps ++ qs)) (o ∷ rest) q in
        let t : others eq k (all_entries replaced) ≡ others eq k ((o.0, h) ∷ rest) =
        sum_by-IsPermutation (λ (e : Entry K V). cond (eq k e.0) 0 1) ((o.0, h) ∷ rest) (all_entries replaced) p in
        let u : others eq k ((o.0, h) ∷ rest) ≡ length rest = others-own eq k (o.0, h) rest own ∙ others-none eq k rest fresh in
        record {
          placed = record {
            fit = rw same law.fit;
            distinct = sound.distinct;
            window = rw same f.0;
            protected =
                rw same f.1;
            main_part = rw same f.2;
            measures = sound.measures;
          };
          first = touched-first at;
          others = omega (arith, n, t, u);
          light = All-permutation (Light eq k b) ((o.0, h) ∷ rest) (all_entries replaced) p
              (All-cons (Light eq k b) (o.0, h) rest (λ _. low) (light-none eq k b rest fresh));
          caps = same;
        }

    pub replaced-weight : Where eq laws k ws ps qs o → weights (all_entries replaced) + o.1.weight ≡ weights (ws ++ (ps ++ qs)) + h.weight
    unfolding rest
    replaced-weight at =
        let p = weights-moves ((o.0, h) ∷ rest) (all_entries replaced) (touched-perm at) in
        let q = weights-moves (ws ++ (ps ++ qs)) (o ∷ rest) (without-perm eq laws k c ws ps qs o at) in
        omega (arith, p, q, weights-cons (o.0, h) rest, weights-cons o rest)

  -- ---- a value is put in
  later : (c : Caps) (n m : ℕ) (old : Held V) (s : Lists K V × List (Notice K V)) → suc m ≡ n → IsReady c m s
      → IsReady c n (s.0, (notice Expired (k, old) ∷ []) ++ s.1)
  later c n m old s h t = record { placed = t.placed; first = t.first; others = omega (arith, h, t.others); light = t.light; caps = t.caps }

  module _ (estimate : K → ℕ) (now : ℕ) (h : Held V) (c : Caps) (ws ps qs : List (Entry K V))
      (law : IsPlaced eq measure (lists_of c ws ps qs)) (w : measured h ≡ measure h.value) (low : h.weight ≤ b) where
    some-ready : (g : Held V) (x : Bool) → lookup (eq k) (ws ++ (ps ++ qs)) ≡ Some g
        → IsReady c (length (ws ++ (ps ++ qs)))
        (cond x (after_notice (notice Expired (k, g) ∷ [])
        (settled estimate now (k, h) (without eq k (lists_of c ws ps qs))))
        (touched eq k (λ _. h) (lists_of c ws ps qs), notice Replaced (k, g) ∷ []))
    some-ready g true is =
        let at = where-is eq laws k ws ps qs g law.distinct is in
        let n = without-fresh eq laws k c ws ps qs law.distinct in
        later c (length (ws ++ (ps ++ qs))) (length (all_entries (without eq k (lists_of c ws ps qs)))) g
        (settled estimate now (k, h) (without eq k (lists_of c ws ps qs)))
        (without-length eq laws k c ws ps qs at.0 at.2)
        (settled-ready estimate now (k, h) (without eq k (lists_of c ws ps qs)) (laws.refl k)
        (without-placed eq laws k measure c ws ps qs at.0 at.2 law) n n w low)
    some-ready g false is =
        let at = where-is eq laws k ws ps qs g law.distinct is in
        replaced-ready h c ws ps qs at.0 law Replaced at.2 w low g

    ready_at : (o : Option (Held V)) → lookup (eq k) (ws ++ (ps ++ qs)) ≡ o
        → IsReady c (length (ws ++ (ps ++ qs)))
        (option_map_or (λ (g : Held V). cond (is_expired c now g)
        (after_notice (notice Expired (k, g) ∷ [])
        (settled estimate now (k, h) (without eq k (lists_of c ws ps qs))))
        (touched eq k (λ _. h) (lists_of c ws ps qs), notice Replaced (k, g) ∷ [])) o
        (settled estimate now (k, h) (lists_of c ws ps qs)))
    ready_at None is = settled-ready estimate now (k, h) (lists_of c ws ps qs) (laws.refl k) law is is w low
    ready_at (Some g) is = some-ready g (is_expired c now g) is

    pub placed-ready : IsReady c (length (ws ++ (ps ++ qs))) (placed eq estimate now (k, h) (lists_of c ws ps qs))
    placed-ready = ready_at (lookup (eq k) (ws ++ (ps ++ qs))) refl
