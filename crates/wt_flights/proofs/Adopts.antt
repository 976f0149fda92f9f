-- What the two tables and their list of rows are after a row was added that is newer than all.
use Rattle.std.proofs.Common.{◌≡◌, ◌≢◌, ℕ, suc, ◌+◌, ◌<◌, ◌≤◌, Bool, true, false, eqb, cond, ◌&&◌, [], ◌∷◌, ◌++◌, length, Option, Some, None, sym, refl, ap, ◌∙◌, ⊎_elim, arith, length-append}
use Rattle.std.specs.Option.{option_to_list, is_some}
use Rattle.std.specs.Prelude.{IsNone, nat_le}
use Rattle.std.specs.Cmp.{IsEquivalence}
use Rattle.std.proofs.lemmas.Bool.{eq-eqb}
use Rattle.std.proofs.lemmas.Bool.Decides.{eqb_tells, nat_tests}
use Rattle.wt_flights.specs.declared.row.Row.{Row}
use Rattle.wt_flights.specs.declared.row.Open.{Open}
use Rattle.wt_flights.specs.Tables.{is_at, row_at, rows_of, AreTied, AreMarked}
use Rattle.wt_flights.proofs.Listings.{listed_same, listed_gap}
use Rattle.wt_flights.proofs.Lookups.{flag, both, below, is_at-true, is_at-here, row_here, no_row, finds_current, row_same}
use Rattle.wt_flights.proofs.RowLists.{current_id}

nothing : {X : Type 0} (o : Option X) → IsNone o → o ≡ None
nothing None none = refl
nothing (Some x) none = absurd (cc)

and_true : (b c : Bool) → c ≡ true → b && c ≡ b
and_true true c e = e
and_true false c e = refl

module _ {K : Type 0} where
  -- what the table by id keeps of a row
  abbrev pub open_of : Row K → Open K
  open_of r = record { key = r.key; sharers = r.sharers; current = r.current }

  -- the table by id got an entry for a row that is newer than all, and the one by key too if the row is current, whose key had none
  pub record Adopts (eq : K → K → Bool) (by_id by_id' : ℕ → Option (Open K)) (by_key by_key' : K → Option ℕ) (next : ℕ)
      (r : Row K) : Type 0 where
    pub newer : next ≤ r.id
    pub only : r.current ≡ true → by_key r.key ≡ None
    pub opened : (q : ℕ) → by_id' q ≡ cond (eqb r.id q) (Some (open_of r)) (by_id q)
    pub named : (q : K) → by_key' q ≡ cond (r.current && eq r.key q) (Some r.id) (by_key q)

  -- the table by id has one entry more
  pub one_longer : (by_id g : ℕ → Option (Open K)) (next id len held len' : ℕ) (found : Option (Open K)) → ((q : ℕ) → g q ≡ by_id q)
      → ((i : ℕ) → next ≤ i → by_id i ≡ None) → next ≤ id → held ≡ len → found ≡ g id
      → len' ≡ held + cond (is_some found) 0 1 → len' ≡ len + 1
  one_longer by_id g next id len held len' found same' fresh newer held-is found-is len-is =
      let absent' : found ≡ None = found-is ∙ same' id ∙ fresh id newer in
      let added : Option (Open K) → ℕ = λ o. cond (is_some o) 0 1 in
      let one : added found ≡ 1 = ap added absent' in
      omega (arith, one, len-is, held-is)

  module _ (eq : K → K → Bool) (laws : IsEquivalence eq) (same : (a b : K) → eq a b ≡ true → a ≡ b) where
    -- a key that has no current row in the list has none in the table
    pub none_there : (by_id : ℕ → Option (Open K)) (by_key : K → Option ℕ) (next len : ℕ) (key : K) → AreTied by_id by_key next len
        → IsNone (current_id eq key (rows_of by_id by_key next)) → by_key key ≡ None
    none_there by_id by_key next len key tied none =
        sym (finds_current eq laws same by_id by_key next len key tied) ∙ nothing (current_id eq key (rows_of by_id by_key next)) none

    module _ (by_id by_id' : ℕ → Option (Open K)) (by_key by_key' : K → Option ℕ) (next : ℕ) (r : Row K)
        (a : Adopts eq by_id by_id' by_key by_key' next r) where
      -- what the table by id has at another id
      opened_apart : (i : ℕ) → eqb r.id i ≡ false → by_id' i ≡ by_id i
      opened_apart i ne = a.opened i ∙ ap (λ b. cond b (Some (open_of r)) (by_id i)) ne

      -- what the table by id has at the row's id
      opened_here : (i : ℕ) → eqb r.id i ≡ true → by_id' i ≡ Some (open_of r)
      opened_here i is = a.opened i ∙ ap (λ b. cond b (Some (open_of r)) (by_id i)) is

      -- what the table by key has at the row's key, if the row is current
      named_here : (q : K) → r.current && eq r.key q ≡ true → by_key' q ≡ Some r.id
      named_here q is = a.named q ∙ ap (λ b. cond b (Some r.id) (by_key q)) is

      -- what the table by key has at another key
      named_apart : (q : K) → r.current && eq r.key q ≡ false → by_key' q ≡ by_key q
      named_apart q ne = a.named q ∙ ap (λ b. cond b (Some r.id) (by_key q)) ne

      -- an id below the row's is another
      id_apart : (i : ℕ) → i < r.id → eqb r.id i ≡ false
      id_apart i l = grind (arith, nat_tests)

      -- whether another row is current stays
      is_at-apart : (i : ℕ) (q : K) → eqb r.id i ≡ false → is_at (by_key' q) i ≡ is_at (by_key q) i
      is_at-apart i q ne = ⊎_elim
          (λ (t : r.current && eq r.key q ≡ true).
          let u = both r.current (eq r.key q) t in
          let k : r.key ≡ q = same r.key q u.1 in
          ap (λ x. is_at x i) (named_here q t) ∙ ne ∙ sym (ap (λ x. is_at x i) (ap by_key (sym k) ∙ a.only u.0)))
          (λ (t : r.current && eq r.key q ≡ false). ap (λ x. is_at x i) (named_apart q t))
          (flag (r.current && eq r.key q))

      -- whether the row itself is current
      is_at-adopted : (len : ℕ) → AreTied by_id by_key next len → is_at (by_key' r.key) r.id ≡ r.current
      is_at-adopted len tied = ⊎_elim
          (λ (t : r.current ≡ true). is_at-here (by_key' r.key) r.id
          (named_here r.key (and_true r.current (eq r.key r.key) (laws.refl r.key) ∙ t)) ∙ sym t)
          (λ (t : r.current ≡ false).
          let stays : by_key' r.key ≡ by_key r.key = named_apart r.key (ap (λ b. b && eq r.key r.key) t) in
          let absent' : is_at (by_key r.key) r.id ≡ false = ⊎_elim
          (λ (u : is_at (by_key r.key) r.id ≡ true).
          let h = tied.held r.key r.id (is_at-true (by_key r.key) r.id u) in
          let there = h.1 in
          let z = tied.fresh r.id a.newer in
          absurd (cc))
          (λ (u : is_at (by_key r.key) r.id ≡ false). u)
          (flag (is_at (by_key r.key) r.id)) in
          ap (λ x. is_at x r.id) stays ∙ absent' ∙ sym t)
          (flag r.current)

      -- the list has the row at its end
      pub rows_of-adopted : (len : ℕ) → AreTied by_id by_key next len
          → rows_of by_id' by_key' (r.id + 1) ≡ rows_of by_id by_key next ++ r ∷ []
      rows_of-adopted len tied =
          let k : r.id + 1 ≡ suc r.id = omega arith in
          let last : row_at by_id' by_key' r.id ≡ Some r =
          row_here by_id' by_key' r.id (open_of r) (opened_here r.id (eq-eqb r.id r.id refl))
          ∙ ap (λ b. Some (record { id = r.id; key = r.key; current = b; sharers = r.sharers })) (is_at-adopted len tied) in
          let front : rows_of by_id' by_key' r.id ≡ rows_of by_id by_key r.id =
          listed_same (row_at by_id' by_key') (row_at by_id by_key) r.id
          (λ i l. let ne = id_apart i l in row_same by_id by_id' by_key by_key' i (opened_apart i ne) (λ p at. is_at-apart i p.key ne)) in
          let gap : rows_of by_id by_key r.id ≡ rows_of by_id by_key next = listed_gap (row_at by_id by_key) next r.id a.newer
          (λ i l. no_row by_id by_key i (tied.fresh i l)) in
          let end : option_to_list (row_at by_id' by_key' r.id) ≡ r ∷ [] = ap option_to_list last in
          ap (rows_of by_id' by_key') k ∙ cc

      -- the tables still fit together
      pub adopt_keeps : (len len' : ℕ) → 0 < next → len' ≡ len + 1 → AreTied by_id by_key next len → AreTied by_id' by_key' (r.id + 1) len'
      adopt_keeps len len' positive longer tied =
          let newer = a.newer in
          record {
            counted = ap length (rows_of-adopted len tied) ∙ length-append _ _ ∙ ap (λ n. n + 1) tied.counted ∙ sym longer;
            from_one = opened_apart 0 (id_apart 0 (omega arith)) ∙ tied.from_one;
            fresh = λ i l. ⊎_elim (λ (t : (eqb r.id i ≡ true) × (r.id ≡ i)). let q = t.1 in absurd (omega arith))
                (λ (t : (eqb r.id i ≡ false) × (r.id ≢ i)). opened_apart i t.0 ∙ tied.fresh i (omega arith)) (eqb_tells r.id i);
            held = λ q i at. ⊎_elim
                (λ (t : r.current && eq r.key q ≡ true).
                let here = named_here q t in
                let is : r.id ≡ i = cc in
                (open_of r, opened_here i (eq-eqb r.id i is), sym (same r.key q (both r.current (eq r.key q) t).1)))
                (λ (t : r.current && eq r.key q ≡ false).
                let h = tied.held q i (sym (named_apart q t) ∙ at) in
                let l = below by_id next i h.0 tied.fresh h.1 in
                (h.0, opened_apart i (id_apart i (omega arith)) ∙ h.1, h.2))
                (flag (r.current && eq r.key q));
          }

      -- each load still says whether it is current
      pub adopt_marks : (len since : ℕ) → AreTied by_id by_key next len → AreMarked by_id by_key next since
          → AreMarked by_id' by_key' (r.id + 1) since
      adopt_marks len since tied marked =
          let newer = a.newer in
          let past = marked.past in
          record {
            marks = λ i o at. ⊎_elim
                (λ (t : (eqb r.id i ≡ true) × (r.id ≡ i)).
                let there = opened_here i t.0 in
                let is : o ≡ open_of r = cc in
                let k = t.1 in
                let l : nat_le since i ≡ true = grind (arith, nat_tests) in
                ap (λ (p : Open K). p.current && nat_le since i) is ∙ and_true r.current (nat_le since i) l
                ∙ sym (ap (λ (p : Open K). is_at (by_key' p.key) i) is ∙ ap (is_at (by_key' r.key)) (sym k) ∙ is_at-adopted len tied))
                (λ (t : (eqb r.id i ≡ false) × (r.id ≢ i)). marked.marks i o (sym (opened_apart i t.0) ∙ at)
                ∙ sym (is_at-apart i o.key t.0))
                (eqb_tells r.id i);
            past = omega arith;
          }
