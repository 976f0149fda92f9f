-- What settle keeps.
use Rattle.std.proofs.Common.{◌≡◌, ℕ, suc, ◌+◌, ◌-◌, ◌<◌, ◌≤◌, Bool, true, false, cond, List, [], ◌∷◌, ◌++◌, length, Option, Some, None, refl, sym, subst, ◌∙◌, arith, rules, length-append, append_assoc}
use Rattle.std.specs.Prelude.{nat_le, nat_lt, All}
use Rattle.std.specs.Option.{option_map_or, is_some}
use Rattle.std.specs.List.{IsDistinct, AllByRecursion}
use Rattle.std.specs.List.Sorted.{IsPermutation}
use Rattle.std.specs.Map.{keys_of, lookup}
use Rattle.std.specs.Cmp.{IsEquivalence}
use Rattle.std.proofs.lemmas.List.{length-take}
use Rattle.std.proofs.lemmas.List.Elements.{All-cons, All-tail}
use Rattle.std.proofs.lemmas.List.Sorted.{IsPermutation-sym, IsPermutation-trans, IsPermutation-middle, IsPermutation-append_left, IsPermutation-append_right, IsPermutation-append_comm, IsPermutation-map, All-permutation, length_permutation}
use Rattle.std.proofs.lemmas.Map.Keys.{IsDistinct-IsPermutation, IsDistinct-cons}
use Rattle.lru.specs.LruCache.{last_entry}
use Rattle.wt_regions.specs.declared.caps.Caps.{Caps}
use Rattle.wt_regions.specs.declared.notices.Notice.{Notice}
use Rattle.wt_regions.specs.declared.notices.Cause.{Cause}
use Rattle.wt_regions.specs.declared.notices.Cause.TheVariants.{Expired, Size}
use Rattle.wt_regions.specs.declared.settle.Fate.{Fate}
use Rattle.wt_regions.specs.declared.settle.Fate.TheVariants.{Leaves, Enters, Ousts}
use Rattle.wt_regions.specs.declared.weighs.Measure.{Measure}
use Rattle.wt_regions.proofs.Moves.{IsPermutation-last}
use Rattle.wt_regions.proofs.Apart.{no_last_none, distinct_after}
use Rattle.wt_regions.proofs.Sound.{keys-all_but_last, weights-all_but_last, keys_none, loses-window, loses-below}
use Rattle.wt_regions.proofs.Fates.{ousts_some}
use Rattle.wt_regions.specs.Lists.{Entry, Lists, all_entries, all_but_last, lists_of, main_cap, notice, protected_cap, measured, lasting}
use Rattle.wt_regions.specs.Settle.{by_fate, fate, settled}
use Rattle.wt_regions.specs.Lawful.{IsFit}
use Rattle.wt_regions.specs.Moves.{IsPlaced}

room_of : (a b m : ℕ) → nat_lt (a + b) m ≡ true → suc a + b ≤ m
room_of a b m h = search (rules, arith)

duel_not : (a b : Bool) → cond a (Ousts Expired) (cond b (Ousts Size) (Leaves Size)) ≡ Enters → ⊥
duel_not true b h = cc
duel_not false true h = cc
duel_not false false h = cc

module _ {K V : Type 0} where
  enters_at : (c1 c2 c3 : Bool) (f : Entry K V → Fate) (o : Option (Entry K V))
      → cond c1 (Leaves Expired) (cond c2 (Leaves Size) (cond c3 Enters (option_map_or f o (Leaves Size)))) ≡ Enters
      → ((x : Entry K V) → f x ≡ Enters → ⊥) → c3 ≡ true
  enters_at true c2 c3 f o h off = cc
  enters_at false true c3 f o h off = cc
  enters_at false false true f o h off = refl
  enters_at false false false f None h off = cc
  enters_at false false false f (Some x) h off = absurd (off x h)

  one_out : (why : Cause) (o : Option (Entry K V)) → is_some o ≡ true → length (option_map_or (λ v. notice why v ∷ []) o []) ≡ 1
  one_out why None h = cc
  one_out why (Some v) h = omega arith

  some_of : (es : List (Entry K V)) (o : Option (Entry K V)) → last_entry es ≡ o → is_some o ≡ true → (v : Entry K V)
      × (last_entry es ≡ Some v)
  some_of es None h s = cc
  some_of es (Some v) h s = (v, h)

  all_but_last-length : (es : List (Entry K V)) (v : Entry K V) → last_entry es ≡ Some v → suc (length (all_but_last es)) ≡ length es
  all_but_last-length [] v h = cc
  all_but_last-length (x ∷ xs) v h = let n = length-take (length (x ∷ xs) - 1) (x ∷ xs) in omega (arith, n)

  module _ (eq : K → K → Bool) (laws : IsEquivalence eq) (measure : V → Measure) where
    -- keys once and weights right
    pub record IsSound (es : List (Entry K V)) : Type 0 where
      pub distinct : IsDistinct eq (keys_of es)
      pub measures : All (λ (e : Entry K V). measured e.1 ≡ measure e.1.value) es

    pub sound-moves : (es fs : List (Entry K V)) → IsPermutation es fs → IsSound es → IsSound fs
    sound-moves es fs h s = record {
      distinct = IsDistinct-IsPermutation eq laws.symm (keys_of es) (keys_of fs)
          (IsPermutation-map (λ (e : Entry K V). e.0) es fs (h)) s.distinct;
      measures = All-permutation (λ (e : Entry K V). measured e.1 ≡ measure e.1.value) es fs (h) s.measures;
    }

    pub sound-loses : (l : Entry K V) (es fs : List (Entry K V)) → IsPermutation es (l ∷ fs) → IsSound es → IsSound fs
    sound-loses l es fs h s = record {
      distinct = keys-all_but_last eq laws measure l es fs h s.distinct;
      measures =
          weights-all_but_last eq laws measure l es fs h s.measures;
    }

    pub sound-new : (e : Entry K V) (es : List (Entry K V)) → lookup (eq e.0) es ≡ None → measured e.1 ≡ measure e.1.value
        → IsSound es → IsSound (e ∷ es)
    sound-new e es n w s = record {
      distinct = IsDistinct-cons eq e.0 (keys_of es) (keys_none eq laws measure e.0 es n) s.distinct;
      measures = All-cons (λ (e : Entry K V). measured e.1 ≡ measure e.1.value) e es w s.measures;
    }

    pub distinct-comm : (xs ys : List (Entry K V)) → IsDistinct eq (keys_of ((xs ++ ys))) → IsDistinct eq (keys_of ((ys ++ xs)))
    distinct-comm xs ys d = IsDistinct-IsPermutation eq laws.symm (keys_of ((xs ++ ys))) (keys_of ((ys ++ xs)))
        (IsPermutation-map (λ (e : Entry K V). e.0) (xs ++ ys) (ys ++ xs) ((IsPermutation-append_comm xs ys))) d

    -- what a settled r' with notices ns keeps of n entries
    pub record IsSettled (P : Entry K V → Type 0) (start : List (Entry K V)) (n : ℕ) (c : Caps)
        (s : Lists K V × List (Notice K V)) : Type 0 where
      pub each : All P start → All P (all_entries s.0)
      pub placed : IsPlaced eq measure s.0
      pub count : length (all_entries s.0) + length s.1 ≡ n
      pub few : length s.1 ≤ 1
      pub caps : s.0.caps ≡ c

    module _ (P : Entry K V → Type 0) (estimate : K → ℕ) (now : ℕ) (c : Caps) (fit : IsFit c)
        (ws ps qs : List (Entry K V)) (l : Entry K V) (last : last_entry ws ≡ Some l)
        (sound : IsSound (ws ++ (ps ++ qs))) (w : length ws ≡ suc c.window) (q : length qs ≤ protected_cap c)
        (m : length ps + length qs ≤ main_cap c) where
      given : (f : Fate) → fate estimate now c l ps qs ≡ f
          → IsSettled P (ws ++ (ps ++ qs)) (length (ws ++ (ps ++ qs))) c
          (by_fate l (lists_of c (all_but_last ws) ps qs) f)
      given (Leaves why) is =
          let n = all_but_last-length ws l last in
          let s = sound-loses l (ws ++ (ps ++ qs)) (all_but_last ws ++ (ps ++ qs))
          (loses-window eq laws measure l ws (ps ++ qs) (IsPermutation-last ws l last)) sound in
          record {
            each = λ a. All-tail P l (all_but_last ws ++ (ps ++ qs))
                (All-permutation P (ws ++ (ps ++ qs)) (l ∷ (all_but_last ws ++ (ps ++ qs)))
                (loses-window eq laws measure l ws (ps ++ qs) (IsPermutation-last ws l last)) a);
            placed = record {
              fit = fit;
              distinct = s.distinct;
              window = omega (arith, n);
              protected = q;
              main_part = m;
              measures = s.measures;
            };
            count = omega (arith, n, length-append ws (ps ++ qs), length-append (all_but_last ws) (ps ++ qs));
            few = omega arith;
            caps = refl;
          }
      given Enters is =
          let n = all_but_last-length ws l last in
          let t : nat_lt (length ps + length qs) (main_cap c) ≡ true = enters_at _ _ _ _ (last_entry ps) is (λ x. duel_not _ _) in
          let p : IsPermutation (ws ++ (ps ++ qs)) (all_but_last ws ++ ((l ∷ ps) ++ qs)) =
          IsPermutation-trans (ws ++ (ps ++ qs)) (l ∷ (all_but_last ws ++ (ps ++ qs)))
          (all_but_last ws ++ ((l ∷ ps) ++ qs))
          (loses-window eq laws measure l ws (ps ++ qs) (IsPermutation-last ws l last))
          (IsPermutation-sym _ _ (IsPermutation-middle (all_but_last ws) l (ps ++ qs))) in
          let s = sound-moves (ws ++ (ps ++ qs)) (all_but_last ws ++ ((l ∷ ps) ++ qs)) p sound in
          record {
            each = λ a. All-permutation P (ws ++ (ps ++ qs)) (all_but_last ws ++ ((l ∷ ps) ++ qs)) p a;
            placed = record {
              fit = fit;
              distinct = s.distinct;
              window = omega (arith, n);
              protected = q;
              main_part =
                  room_of (length ps) (length qs) (main_cap c) t;
              measures = s.measures;
            };
            count = omega (arith, length_permutation (ws ++ (ps ++ qs)) (all_but_last ws ++ ((l ∷ ps) ++ qs)) p);
            few = omega arith;
            caps = refl;
          }
      given (Ousts why) is =
          let n = all_but_last-length ws l last in
          let there = ousts_some estimate now c l ps qs why is in
          let v = some_of ps (last_entry ps) refl there in
          let k = all_but_last-length ps v.0 v.1 in
          let p : IsPermutation (ws ++ (ps ++ qs)) (all_but_last ws ++ ((l ∷ ps) ++ qs)) =
          IsPermutation-trans (ws ++ (ps ++ qs)) (l ∷ (all_but_last ws ++ (ps ++ qs)))
          (all_but_last ws ++ ((l ∷ ps) ++ qs))
          (loses-window eq laws measure l ws (ps ++ qs) (IsPermutation-last ws l last))
          (IsPermutation-sym _ _ (IsPermutation-middle (all_but_last ws) l (ps ++ qs))) in
          let without : IsPermutation (l ∷ ps) (v.0 ∷ (l ∷ all_but_last ps)) =
          IsPermutation-trans (l ∷ ps) (l ∷ v.0 ∷ all_but_last ps) (v.0 ∷ l ∷ all_but_last ps)
          (IsPermutation-append_right (l ∷ []) ps (v.0 ∷ all_but_last ps) (IsPermutation-last ps v.0 v.1))
          (IsPermutation-middle (l ∷ []) v.0 (all_but_last ps)) in
          let out : IsPermutation (all_but_last ws ++ ((l ∷ ps) ++ qs))
          (v.0 ∷ (all_but_last ws ++ ((l ∷ all_but_last ps) ++ qs))) =
          loses-below eq laws measure v.0 (all_but_last ws) ((l ∷ ps) ++ qs) ((l ∷ all_but_last ps) ++ qs)
          (IsPermutation-append_left qs (l ∷ ps) (v.0 ∷ l ∷ all_but_last ps) without) in
          let s = sound-loses v.0 (all_but_last ws ++ ((l ∷ ps) ++ qs))
          (all_but_last ws ++ ((l ∷ all_but_last ps) ++ qs)) out
          (sound-moves (ws ++ (ps ++ qs)) (all_but_last ws ++ ((l ∷ ps) ++ qs)) p sound) in
          let one = one_out why (last_entry ps) there in
          record {
            each = λ a. All-tail P v.0 (all_but_last ws ++ ((l ∷ all_but_last ps) ++ qs))
                (All-permutation P (all_but_last ws ++ ((l ∷ ps) ++ qs))
                (v.0 ∷ (all_but_last ws ++ ((l ∷ all_but_last ps) ++ qs))) out
                (All-permutation P (ws ++ (ps ++ qs)) (all_but_last ws ++ ((l ∷ ps) ++ qs)) p a));
            placed = record {
              fit = fit;
              distinct = s.distinct;
              window = omega (arith, n);
              protected = q;
              main_part =
                  omega (arith, k);
              measures = s.measures;
            };
            count = omega (
              arith,
              one,
              length_permutation (ws ++ (ps ++ qs)) (all_but_last ws ++ ((l ∷ ps) ++ qs)) p,
              length_permutation (all_but_last ws ++ ((l ∷ ps) ++ qs))
                  (v.0 ∷ (all_but_last ws ++ ((l ∷ all_but_last ps) ++ qs))) out,
            );
            few = omega (arith, one);
            caps = refl;
          }

    over_by : (a b : ℕ) → nat_le a b ≡ false → b < a
    over_by a b h = search (rules, arith)

    in_by : (a b : ℕ) → nat_le a b ≡ true → a ≤ b
    in_by a b h = search (rules, arith)

    module _ (P : Entry K V → Type 0) (estimate : K → ℕ) (now : ℕ) (r : Lists K V) (e : Entry K V)
        (law : IsPlaced eq measure r) (fresh : lookup (eq e.0) (all_entries r) ≡ None)
        (w : measured e.1 ≡ measure e.1.value) where
      grown-sound : IsSound ((e ∷ r.window) ++ (r.probation ++ r.protected))
      grown-sound = sound-new e (all_entries r) fresh w (record { distinct = law.distinct; measures = law.measures })

      kept_at : (b : Bool) → nat_le (length (e ∷ r.window)) r.caps.window ≡ b → (o : Option (Entry K V)) → last_entry (e ∷ r.window) ≡ o
          → IsSettled P (e ∷ all_entries r) (suc (length (all_entries r))) r.caps
          (cond b (record r { window = e ∷ r.window }, [])
          (option_map_or (λ c. by_fate c (record r { window = all_but_last (e ∷ r.window) })
          (fate estimate now r.caps c r.probation r.protected)) o (record r { window = e ∷ r.window }, [])))
      kept_at true le o is = record {
        each = λ a. a;
        placed = record {
          fit = law.fit;
          distinct = grown-sound.distinct;
          window =
              in_by (length (e ∷ r.window)) r.caps.window le;
          protected = law.protected;
          main_part = law.main_part;
          measures = grown-sound.measures;
        };
        count = omega arith;
        few = omega arith;
        caps = refl;
      }
      kept_at false le None is = absurd (no_last_none e r.window is)
      kept_at false le (Some l) is =
          let over = over_by (length (e ∷ r.window)) r.caps.window le in
          given P estimate now r.caps law.fit (e ∷ r.window) r.probation r.protected l is grown-sound
          (omega (arith, over, law.window)) law.protected law.main_part
          (fate estimate now r.caps l r.probation r.protected) refl

      pub settled-kept : IsSettled P (e ∷ all_entries r) (suc (length (all_entries r))) r.caps (settled estimate now e r)
      settled-kept = kept_at (nat_le (length (e ∷ r.window)) r.caps.window) refl (last_entry (e ∷ r.window)) refl

pub by_recursion : {X : Type 0} (P : X → Type 0) (xs : List X) → All P xs → AllByRecursion P xs
by_recursion P [] h = tt
by_recursion P (x ∷ xs) h = (h 0 x (omega arith), by_recursion P xs (All-tail P x xs h))

module _ {K V : Type 0} (eq : K → K → Bool) (k : K) (b : ℕ) where
  abbrev pub Light : Entry K V → Type 0
  Light e = eq k e.0 ≡ true → e.1.weight ≤ b

  pub light-none : (es : List (Entry K V)) → lookup (eq k) es ≡ None → All Light es
  light-none [] h = λ i d l. absurd (omega arith)
  light-none (e ∷ es) h = (elim (eq k e.0) as (λ c. eq k e.0 ≡ c → cond c (Some e.1) (lookup (eq k) es) ≡ None → All Light (e ∷ es)) [
    | true ↦ λ t q. cc
    | false ↦ λ t q. All-cons Light e es (λ y. let z = sym t ∙ y in cc) (light-none es q)
  ]) refl h

pub fresh_parts : {K X : Type 0} (test : K → Bool) (xs ys : List (K × X)) → lookup test (xs ++ ys) ≡ None
    → (lookup test xs ≡ None) × (lookup test ys ≡ None)
fresh_parts test [] ys h = (refl, h)
fresh_parts test (x ∷ xs) ys h =
    (elim (test x.0) as (λ c. cond c (Some x.1) (lookup test (xs ++ ys)) ≡ None
    → (cond c (Some x.1) (lookup test xs) ≡ None) × (lookup test ys ≡ None)) [
      | true ↦ λ q. cc
      | false ↦ λ q. fresh_parts test xs ys q
    ]) h

pub distinct_turned : {K V : Type 0} (eq : K → K → Bool) (laws : IsEquivalence eq) (ws ps qs : List (Entry K V))
    → IsDistinct eq (keys_of ((ws ++ (ps ++ qs)))) → IsDistinct eq (keys_of ((ps ++ ws)))
distinct_turned {K = K} {V = V} eq laws ws ps qs d =
    let a = subst (λ (es : List (Entry K V)). IsDistinct eq (keys_of es)) (sym (append_assoc ws ps qs)) d in
    distinct-comm eq laws (λ _. lasting 0) ws ps (distinct_after eq qs (ws ++ ps) (distinct-comm eq laws (λ _. lasting 0) (ws ++ ps) qs a))
