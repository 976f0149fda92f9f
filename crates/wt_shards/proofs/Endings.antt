-- What passes add up to where the shards end.
use Rattle.std.proofs.Common.{◌≡◌, ◌⊎◌, ℕ, zero, suc, ◌+◌, ◌<◌, ◌≤◌, List, [], ◌∷◌, ◌++◌, length, Option, Some, None, refl, ap, sym, subst, ◌∙◌, arith, inl, inr, append_assoc}
use Rattle.std.specs.Prelude.{◌≢◌, ◌↔◌, IfSome, IsSome, IsSomeAnd, sum_by, slice_index_or}
use Rattle.std.proofs.lemmas.List.Sums.{sum_by-cons}
use mathlib.Core.List.{IsPrefix}
use Rattle.wt_core.specs.declared.calls.Call.{Call}
use Rattle.wt_core.specs.State.{State, stats_of}
use Rattle.wt_history.proofs.Fronts.{prefix_self, prefix_trans}
use Rattle.wt_shards.specs.Counts.{ShardCounts, no_steps}
use Rattle.wt_shards.specs.Endings.{AddsTo, AreAdded, AreAllBelow, AreNotSums, AreSummed, BeginSeen, Ending, Ends, FallsShort, IsAddedTo, IsAllOf, IsPartOf, IsShort, OneSaw, ending_at}
use Rattle.wt_shards.specs.History.{state_at}
use Rattle.wt_shards.specs.Members.{Members}
use Rattle.wt_shards.specs.Passes.{Seen, counts_at, front_at, hits_in, new_pass, steps_in}
use Rattle.wt_shards.specs.Place.{Layout, Place, place_of}
use Rattle.wt_shards.specs.Totals.{AddUp, AddUpBelow, AreEndings, AreSettled, AreTotals, IsEnding, IsMissing, IsSettled, IsTotal, Settled, total_of}
use Rattle.wt_shards.specs.declared.total.Total.{Total}

-- each list begins with nothing
pub prefix_none : {A : Type 0} (xs : List A) → IsPrefix [] xs
prefix_none xs = (xs, refl)

module _ {K V : Type 0} where
  pub begin-more : (i : ℕ) (ps : List (Seen K V)) (xs ys : List (Call K V)) → IsPrefix xs ys → BeginSeen i ps xs → BeginSeen i ps ys
  begin-more i [] xs ys p b = tt
  begin-more i (q ∷ ps) xs ys p b = (prefix_trans (front_at i q) xs ys b.0 p, begin-more i ps xs ys p b.1)

  -- nothing was added
  pub added_same : (c : ShardCounts) (f : List (Call K V)) → IsAddedTo c no_steps c f [] f
  added_same c f = record { steps = omega arith; hits = omega arith; this = prefix_self f; that = prefix_none f; longer = inl refl }

  -- to nothing was added
  pub added_first : (c : ShardCounts) (f : List (Call K V)) → IsAddedTo no_steps c c [] f f
  added_first c f = record { steps = omega arith; hits = omega arith; this = prefix_none f; that = prefix_self f; longer = inr refl }

  -- no pass is there, and a step was made
  pub short_none : (e : Ending K V) → 0 ≢ e.total.steps → FallsShort e no_steps []
  short_none e ne = record { steps = omega arith; hits = omega arith; less = inl (prefix_none e.calls, inl ne) }

  added-none : IsAddedTo {K = K} {V = V} no_steps no_steps no_steps [] [] []
  added-none = record { steps = refl; hits = refl; this = prefix_self []; that = prefix_self []; longer = inl refl }

  -- four shards, at each of which something was added
  pub four-added : (a b c d e f g h k l m n : ShardCounts) (aa bb cc dd ee ff gg hh kk ll mm nn : List (Call K V))
      → IsAddedTo a e k aa ee kk → IsAddedTo b f l bb ff ll → IsAddedTo c g m cc gg mm → IsAddedTo d h n dd hh nn
      → (i : ℕ) → IsAddedTo (slice_index_or (a ∷ b ∷ c ∷ d ∷ []) i no_steps) (slice_index_or (e ∷ f ∷ g ∷ h ∷ []) i no_steps)
      (slice_index_or (k ∷ l ∷ m ∷ n ∷ []) i no_steps)
      (slice_index_or (aa ∷ bb ∷ cc ∷ dd ∷ []) i []) (slice_index_or (ee ∷ ff ∷ gg ∷ hh ∷ []) i [])
      (slice_index_or (kk ∷ ll ∷ mm ∷ nn ∷ []) i [])
  four-added a b c d e f g h k l m n aa bb cc dd ee ff gg hh kk ll mm nn p q r s zero = p
  four-added a b c d e f g h k l m n aa bb cc dd ee ff gg hh kk ll mm nn p q r s (suc zero) = q
  four-added a b c d e f g h k l m n aa bb cc dd ee ff gg hh kk ll mm nn p q r s (suc (suc zero)) = r
  four-added a b c d e f g h k l m n aa bb cc dd ee ff gg hh kk ll mm nn p q r s (suc (suc (suc zero))) = s
  four-added a b c d e f g h k l m n aa bb cc dd ee ff gg hh kk ll mm nn p q r s (suc (suc (suc (suc i)))) = added-none

  none-at : (i : ℕ) → (counts_at i (new_pass {K = K} {V = V} 0).counts ≡ no_steps) × (front_at i (new_pass {K = K} {V = V} 0) ≡ [])
  none-at zero = (refl, refl)
  none-at (suc zero) = (refl, refl)
  none-at (suc (suc zero)) = (refl, refl)
  none-at (suc (suc (suc zero))) = (refl, refl)
  none-at (suc (suc (suc (suc i)))) = (refl, refl)

  -- no pass made nor saw anything
  pub summed-none : (i : ℕ) → AreSummed {K = K} {V = V} i [] (new_pass 0)
  summed-none i = record {
    steps = sym (ap (λ (c : ShardCounts). c.steps) (none-at i).0);
    hits = sym (ap (λ (c : ShardCounts). c.hits) (none-at i).0);
    seen = tt;
    saw = λ n less. absurd (let e = ap length (none-at i).1 in omega (arith, less, e));
  }

  -- one pass more
  pub summed-more : (i : ℕ) (p : Seen K V) (ps : List (Seen K V)) (old new : Seen K V) → AreSummed i ps old
      → IsAddedTo (counts_at i old.counts) (counts_at i p.counts) (counts_at i new.counts) (front_at i old) (front_at i p) (front_at i new)
      → AreSummed i (p ∷ ps) new
  summed-more i p ps old new s a = record {
    steps = (let all : sum_by (steps_in i) (p ∷ ps) ≡ steps_in i p + sum_by (steps_in i) ps = sum_by-cons (steps_in i) p ps in
        let x = s.steps in let y = a.steps in omega (arith, all, x, y));
    hits = (let all : sum_by (hits_in i) (p ∷ ps) ≡ hits_in i p + sum_by (hits_in i) ps = sum_by-cons (hits_in i) p ps in
        let x = s.hits in let y = a.hits in omega (arith, all, x, y));
    seen = (a.that, begin-more i ps (front_at i old) (front_at i new) a.this s.seen);
    saw = λ n less. at_longer n less a.longer;
  }
    where
      at_longer : (n : ℕ) → n < length (front_at i new) → (front_at i new ≡ front_at i old) ⊎ (front_at i new ≡ front_at i p)
          → OneSaw n i (p ∷ ps)
      at_longer n less (inl e) = inr (s.saw n (subst (λ (w : List (Call K V)). n < length w) e less))
      at_longer n less (inr e) = inl (subst (λ (w : List (Call K V)). n < length w) e less)

-- a list that is empty but for its end is that
pub nothing_before : {A : Type 0} (xs done all : List A) → all ≡ xs ++ done → length xs ≡ 0 → done ≡ all
nothing_before [] done all e none = sym e
nothing_before (x ∷ xs) done all e none = absurd (omega arith)

module _ {K V : Type 0} (i : ℕ) (passes : List (Seen K V)) (all : Seen K V) where
  pub all-of : (e : Ending K V) → AreSummed i passes all → AddsTo e (counts_at i all.counts) (front_at i all) → IsAllOf i passes e
  all-of e s a = record {
    sums = record { steps = s.steps ∙ a.steps; hits = s.hits ∙ a.hits };
    begins = begin-more i passes (front_at i all) e.calls a.begins s.seen;
  }

  pub part-of : (e : Ending K V) → AreSummed i passes all → FallsShort e (counts_at i all.counts) (front_at i all) → IsPartOf i passes e
  part-of e s f = record {
    steps = (let a = f.steps in let b = s.steps in omega (arith, a, b));
    hits = (let a = f.hits in let b = s.hits in omega (arith, a, b));
    differ = at_less f.less;
  }
    where
      at_less : (IsPrefix (front_at i all) e.calls × ((steps_in i all ≢ e.total.steps) ⊎ (hits_in i all ≢ e.total.hits)))
          ⊎ (steps_in i all < length (front_at i all))
          → (BeginSeen i passes e.calls × AreNotSums i passes e.total.steps e.total.hits) ⊎ OneSaw (sum_by (steps_in i) passes) i passes
      at_less (inl (b, inl d)) = inl (begin-more i passes (front_at i all) e.calls b s.seen, inl (λ x. d (sym s.steps ∙ x)))
      at_less (inl (b, inr d)) = inl (begin-more i passes (front_at i all) e.calls b s.seen, inr (λ x. d (sym s.hits ∙ x)))
      at_less (inr more) = inr (s.saw (sum_by (steps_in i) passes) (let b = s.steps in omega (arith, more, b)))

  -- the same of a shard that may not be in use
  pub all-at : (o : Option (Ending K V)) → AreSummed i passes all → IsSome o
      → IfSome o (λ e. AddsTo e (counts_at i all.counts) (front_at i all)) → IsSomeAnd o (IsAllOf i passes)
  all-at None s there a = absurd cc
  all-at (Some e) s there a = all-of e s a

  pub part-at : (o : Option (Ending K V)) → AreSummed i passes all → IsSome o
      → IfSome o (λ e. FallsShort e (counts_at i all.counts) (front_at i all)) → IsSomeAnd o (IsPartOf i passes)
  part-at None s there f = absurd cc
  part-at (Some e) s there f = part-of e s f

  pub settled-at : (o : Option (Ending K V)) (c : Option Total) → AreSummed i passes all
      → IsSome c ↔ IsSome o → IfSome o (λ e. IfSome c (λ t. t ≡ e.total))
      → IfSome o (λ e. AddsTo e (counts_at i all.counts) (front_at i all)) → IsSettled i passes c o
  settled-at None None s there same a = (refl, tt)
  settled-at None (Some t) s there same a = absurd (let some = there.0 refl in cc)
  settled-at (Some e) None s there same a = absurd (let some = there.1 refl in cc)
  settled-at (Some e) (Some t) s there same a = (ap (λ x. Some x) same, all-of e s a)

module _ {K V : Type 0} (members : Members K V) (p : Place) (passes : List (Seen K V)) where
  adds-up : (e : Ending K V) → IsEnding members p e → IsAllOf p.index passes e → AddUp members p passes
  adds-up e n a = record {
    calls = e.calls;
    whole = n.whole;
    begins = a.begins;
    sums = record {
      steps = a.sums.steps ∙ ap (λ (t : Total). t.steps) n.total ∙ n.whole.all_made;
      hits = a.sums.hits ∙ ap (λ (t : Total). t.hits) n.total;
    };
  }

  total-of-all : (e : Ending K V) → IsEnding members p e → IsAllOf p.index passes e → IsTotal members p passes e.total
  total-of-all e n a = record {
    calls = e.calls;
    whole = n.whole;
    begins = a.begins;
    total = n.total;
    sound = record { sums = a.sums; looked = n.looked; weight = n.weight; small = n.small };
  }

  missing-there : (e : Ending K V) → IsEnding members p e → IsPartOf p.index passes e → IsMissing members p passes
  missing-there e n f =
      let long : e.total.steps ≡ length e.calls = ap (λ (t : Total). t.steps) n.total ∙ n.whole.all_made in
      let hit : e.total.hits ≡ (state_at members p e.calls).counts.hits = ap (λ (t : Total). t.hits) n.total in
      record {
        calls = e.calls;
        whole = n.whole;
        steps = (let a = f.steps in omega (arith, a, long));
        hits = (let a = f.hits in omega (arith, a, hit));
        differ = subst (λ (m : ℕ). (BeginSeen p.index passes e.calls
            × AreNotSums p.index passes m (state_at members p e.calls).counts.hits) ⊎ OneSaw (sum_by (steps_in p.index) passes) p.index passes) long
            (subst (λ (m : ℕ). (BeginSeen p.index passes e.calls
            × AreNotSums p.index passes e.total.steps m) ⊎ OneSaw (sum_by (steps_in p.index) passes) p.index passes) hit f.differ);
      }

  -- the same of a shard that may not be in use
  adds-at : (o : Option (Ending K V)) → IfSome o (IsEnding members p) → IsSomeAnd o (IsAllOf p.index passes) → AddUp members p passes
  adds-at None n a = absurd a
  adds-at (Some e) n a = adds-up e n a

  missing-at : (o : Option (Ending K V)) → IfSome o (IsEnding members p) → IsSomeAnd o (IsPartOf p.index passes) → IsMissing members p passes
  missing-at None n f = absurd f
  missing-at (Some e) n f = missing-there e n f

  pub total-at : (o : Option (Ending K V)) (c : Option Total) → IfSome o (IsEnding members p) → IsSettled p.index passes c o
      → IfSome c (IsTotal members p passes)
  total-at o None n a = tt
  total-at None (Some t) n a = absurd (let clash = a.0 in cc)
  total-at (Some e) (Some t) n a = (let same : t ≡ e.total = (let is = a.0 in cc) in
      subst (IsTotal members p passes) (sym same) (total-of-all e n a.1))

module _ {K V : Type 0} (members : Members K V) (l : Layout) (e : Ends K V) (passes : List (Seen K V)) (ends : AreEndings members l e) where
  ended : (i : ℕ) → IfSome (ending_at i e) (IsEnding members (place_of i l))
  ended zero = ends.0
  ended (suc zero) = ends.1
  ended (suc (suc zero)) = ends.2
  ended (suc (suc (suc zero))) = ends.3
  ended (suc (suc (suc (suc i)))) = tt

  pub short-missing : (least : ℕ) → IsShort e passes least → IsMissing members (place_of least l) passes
  short-missing least s = missing-at members (place_of least l) passes (ending_at least e) (ended least) s.part

  pub all-below : (least : ℕ) → AreAllBelow e passes least → AddUpBelow members l passes least
  all-below zero a = tt
  all-below (suc n) a = (all-below n a.0, adds-at members (place_of n l) passes (ending_at n e) (ended n) a.1)

  pub settled-totals : (t : Settled) → AreSettled e passes t → AreTotals members l passes t
  settled-totals t s = (
    total-at members (place_of 0 l) passes e.zero t.zero ends.0 s.0,
    total-at members (place_of 1 l) passes e.one t.one ends.1 s.1,
    total-at members (place_of 2 l) passes e.two t.two ends.2 s.2,
    total-at members (place_of 3 l) passes e.three t.three ends.3 s.3,
  )
