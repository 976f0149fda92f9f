-- What each open load says of itself, after each change of the two tables.
use Rattle.std.proofs.Common.{◌≡◌, ◌≢◌, ℕ, ◌+◌, ◌≤◌, Bool, true, false, eqb, cond, ◌&&◌, length, Option, Some, None, sym, refl, ap, ◌∙◌, subst, ⊎_elim, arith}
use Rattle.std.specs.Prelude.{nat_le}
use Rattle.std.specs.Cmp.{IsEquivalence}
use Rattle.std.proofs.lemmas.Bool.{eq-eqb}
use Rattle.std.proofs.lemmas.Bool.Decides.{eqb_tells, nat_tests}
use Rattle.wt_flights.specs.declared.row.Open.{Open}
use Rattle.wt_flights.specs.Tables.{is_at, row_at, rows_of, AreTied, AreMarked}
use Rattle.wt_flights.proofs.Listings.{listed_same}
use Rattle.wt_flights.proofs.Lookups.{flag, both, below, is_at-here, row_here, row_same}
use Rattle.wt_flights.proofs.Lands.{Leaves}

and_false : (b : Bool) → b && false ≡ false
and_false true = refl
and_false false = refl

module _ {K : Type 0} where
  -- a load that was forgotten by itself
  abbrev pub unflagged : Open K → Open K
  unflagged o = record { key = o.key; sharers = o.sharers; current = false }

  -- ---- the same at each id and key
  pub same_marks : (by_id by_id' : ℕ → Option (Open K)) (by_key by_key' : K → Option ℕ) (next since : ℕ)
      → ((q : ℕ) → by_id' q ≡ by_id q) → ((q : K) → by_key' q ≡ by_key q) → AreMarked by_id by_key next since
      → AreMarked by_id' by_key' next since
  same_marks by_id by_id' by_key by_key' next since e c marked = record {
    marks = λ i o at. marked.marks i o (sym (e i) ∙ at) ∙ sym (ap (λ x. is_at x i) (c o.key));
    past = marked.past;
  }

  -- ---- a landing: the marks of the other loads stay
  pub land_marks : (by_id by_id' : ℕ → Option (Open K)) (by_key by_key' : K → Option ℕ) (next since id : ℕ)
      → ((q : ℕ) → by_id' q ≡ cond (eqb id q) None (by_id q)) → Leaves by_id by_key by_key' id
      → AreMarked by_id by_key next since → AreMarked by_id' by_key' next since
  land_marks by_id by_id' by_key by_key' next since id e leaves marked = record {
    marks = λ i p at. ⊎_elim
        (λ (t : (eqb id i ≡ true) × (id ≡ i)). let n : by_id' i ≡ None = e i ∙ ap (λ b. cond b None (by_id i)) t.0 in absurd (cc))
        (λ (t : (eqb id i ≡ false) × (id ≢ i)).
        let ne = t.1 in
        let w : by_id i ≡ Some p = sym (e i ∙ ap (λ b. cond b None (by_id i)) t.0) ∙ at in
        marked.marks i p w ∙ sym (leaves.marks i p (λ q. ne (sym q)) w))
        (eqb_tells id i);
    past = marked.past;
  }

  pub land_none_marks : (by_id by_id' : ℕ → Option (Open K)) (by_key : K → Option ℕ) (next since id : ℕ)
      → ((q : ℕ) → by_id' q ≡ cond (eqb id q) None (by_id q)) → AreMarked by_id by_key next since
      → AreMarked by_id' by_key next since
  land_none_marks by_id by_id' by_key next since id e marked = record {
    marks = λ i p at. ⊎_elim
        (λ (t : (eqb id i ≡ true) × (id ≡ i)). let n : by_id' i ≡ None = e i ∙ ap (λ b. cond b None (by_id i)) t.0 in absurd (cc))
        (λ (t : (eqb id i ≡ false) × (id ≢ i)). marked.marks i p (sym (e i ∙ ap (λ b. cond b None (by_id i)) t.0) ∙ at))
        (eqb_tells id i);
    past = marked.past;
  }

  -- the newest load is current, so that it isn't from before all were forgotten
  pub still_past : (by_id : ℕ → Option (Open K)) (by_key : K → Option ℕ) (next since id : ℕ) (o : Open K)
      → by_id id ≡ Some o → by_key o.key ≡ Some id → AreMarked by_id by_key next since → since ≤ id
  still_past by_id by_key next since id o at here marked =
      let m : o.current && nat_le since id ≡ true = marked.marks id o at ∙ is_at-here (by_key o.key) id here in
      let l : nat_le since id ≡ true = (both o.current (nat_le since id) m).1 in
      grind (arith, nat_tests)

  pub take_back_marks : (by_id : ℕ → Option (Open K)) (by_key : K → Option ℕ) (next since id : ℕ) → since ≤ id
      → AreMarked by_id by_key next since → AreMarked by_id by_key id since
  take_back_marks by_id by_key next since id l marked = record { marks = marked.marks; past = l }

  -- ---- all were forgotten at once
  pub forget_all_marks : (by_id : ℕ → Option (Open K)) (by_key' : K → Option ℕ) (next : ℕ)
      → ((i : ℕ) → next ≤ i → by_id i ≡ None) → ((q : K) → by_key' q ≡ None) → AreMarked by_id by_key' next next
  forget_all_marks by_id by_key' next fresh e = record {
    marks = λ i o at.
        let l = below by_id next i o fresh at in
        let f : nat_le next i ≡ false = grind (arith, nat_tests) in
        ap (λ b. o.current && b) f ∙ and_false o.current ∙ sym (ap (λ x. is_at x i) (e o.key));
    past = omega arith;
  }

  -- ---- what a load says of itself is no part of its row
  pub unflagged_rows : (by_id by_id' : ℕ → Option (Open K)) (by_key : K → Option ℕ) (next id : ℕ) (o : Open K)
      → by_id id ≡ Some o → ((q : ℕ) → by_id' q ≡ cond (eqb id q) (Some (unflagged o)) (by_id q))
      → rows_of by_id' by_key next ≡ rows_of by_id by_key next
  unflagged_rows by_id by_id' by_key next id o at e = listed_same (row_at by_id' by_key) (row_at by_id by_key) next (λ i l. ⊎_elim
      (λ (t : (eqb id i ≡ true) × (id ≡ i)).
      let P : ℕ → Type 0 = λ j. row_at by_id' by_key j ≡ row_at by_id by_key j in
      let there : by_id' id ≡ Some (unflagged o) = e id ∙ ap (λ b. cond b (Some (unflagged o)) (by_id id)) (eq-eqb id id refl) in
      subst P t.1 (row_here by_id' by_key id (unflagged o) there ∙ sym (row_here by_id by_key id o at)))
      (λ (t : (eqb id i ≡ false) × (id ≢ i)). row_same by_id by_id' by_key by_key i
      (e i ∙ ap (λ b. cond b (Some (unflagged o)) (by_id i)) t.0) (λ p a. refl))
      (eqb_tells id i))

  pub unflagged_keeps : (by_id by_id' : ℕ → Option (Open K)) (by_key : K → Option ℕ) (next len id : ℕ) (o : Open K)
      → by_id id ≡ Some o → ((q : ℕ) → by_id' q ≡ cond (eqb id q) (Some (unflagged o)) (by_id q))
      → AreTied by_id by_key next len → AreTied by_id' by_key next len
  unflagged_keeps by_id by_id' by_key next len id o at e kept = record {
    counted = ap length (unflagged_rows by_id by_id' by_key next id o at e) ∙ kept.counted;
    from_one = ⊎_elim (λ (t : (eqb id 0 ≡ true) × (id ≡ 0)). let z = kept.from_one in
        let y : by_id 0 ≡ Some o = ap by_id (sym t.1) ∙ at in absurd (cc))
        (λ (t : (eqb id 0 ≡ false) × (id ≢ 0)). e 0 ∙ ap (λ b. cond b (Some (unflagged o)) (by_id 0)) t.0 ∙ kept.from_one) (eqb_tells id 0);
    fresh = λ i l. ⊎_elim (λ (t : (eqb id i ≡ true) × (id ≡ i)). let z = kept.fresh i l in
        let y : by_id i ≡ Some o = ap by_id (sym t.1) ∙ at in absurd (cc))
        (λ (t : (eqb id i ≡ false) × (id ≢ i)). e i ∙ ap (λ b. cond b (Some (unflagged o)) (by_id i)) t.0
        ∙ kept.fresh i l) (eqb_tells id i);
    held = λ k' i a. let h = kept.held k' i a in ⊎_elim
        (λ (t : (eqb id i ≡ true) × (id ≡ i)). let y : by_id i ≡ Some o = ap by_id (sym t.1) ∙ at in let hh = h.1 in let w : h.0 ≡ o = cc in
        (unflagged o, e i ∙ ap (λ b. cond b (Some (unflagged o)) (by_id i)) t.0, h.2 ∙ ap (λ (p : Open K). p.key) w))
        (λ (t : (eqb id i ≡ false) × (id ≢ i)). (h.0, e i ∙ ap (λ b. cond b (Some (unflagged o)) (by_id i)) t.0 ∙ h.1, h.2))
        (eqb_tells id i);
  }

  module _ (eq : K → K → Bool) (laws : IsEquivalence eq) (same : (a b : K) → eq a b ≡ true → a ≡ b) where
    -- ---- the key's current load was forgotten
    pub forget_marks : (by_id by_id' : ℕ → Option (Open K)) (by_key by_key' : K → Option ℕ) (next since id : ℕ)
        (o : Open K) (key : K) → by_key key ≡ Some id → key ≡ o.key
        → ((q : ℕ) → by_id' q ≡ cond (eqb id q) (Some (unflagged o)) (by_id q)) → ((q : K) → by_key' q ≡ cond (eq key q) None (by_key q))
        → AreMarked by_id by_key next since → AreMarked by_id' by_key' next since
    forget_marks by_id by_id' by_key by_key' next since id o key here k e c marked = record {
      marks = λ i p at. ⊎_elim
          (λ (t : (eqb id i ≡ true) × (id ≡ i)).
          let z : by_id' i ≡ Some (unflagged o) = e i ∙ ap (λ b. cond b (Some (unflagged o)) (by_id i)) t.0 in
          let is : p ≡ unflagged o = cc in
          let u : eq key o.key ≡ true = subst (λ x. eq key x ≡ true) k (laws.refl key) in
          let n : by_key' p.key ≡ None = ap (λ (q : Open K). by_key' q.key) is ∙ c o.key ∙ ap (λ b. cond b None (by_key o.key)) u in
          ap (λ (q : Open K). q.current && nat_le since i) is ∙ sym (ap (λ x. is_at x i) n))
          (λ (t : (eqb id i ≡ false) × (id ≢ i)).
          let w : by_id i ≡ Some p = sym (e i ∙ ap (λ b. cond b (Some (unflagged o)) (by_id i)) t.0) ∙ at in
          marked.marks i p w ∙ sym (⊎_elim
          (λ (u : eq key p.key ≡ true).
          let k' : key ≡ p.key = same key p.key u in
          ap (λ x. is_at x i) (c p.key ∙ ap (λ b. cond b None (by_key p.key)) u)
          ∙ sym (ap (λ x. is_at x i) (ap by_key (sym k') ∙ here) ∙ t.0))
          (λ (u : eq key p.key ≡ false). ap (λ x. is_at x i) (c p.key ∙ ap (λ b. cond b None (by_key p.key)) u))
          (flag (eq key p.key))))
          (eqb_tells id i);
      past = marked.past;
    }

    -- a key that had no current load has none after it was taken out
    pub forget_none : (by_key by_key' : K → Option ℕ) (key : K) → by_key key ≡ None
        → ((q : K) → by_key' q ≡ cond (eq key q) None (by_key q)) → (q : K) → by_key' q ≡ by_key q
    forget_none by_key by_key' key none c q = ⊎_elim
        (λ (u : eq key q ≡ true). c q ∙ ap (λ b. cond b None (by_key q)) u ∙ sym (ap by_key (sym (same key q u)) ∙ none))
        (λ (u : eq key q ≡ false). c q ∙ ap (λ b. cond b None (by_key q)) u)
        (flag (eq key q))

    -- ---- the key's current load got one more sharer
    pub join_marks : (by_id by_id' : ℕ → Option (Open K)) (by_key : K → Option ℕ) (next since id : ℕ) (o : Open K) → by_id id ≡ Some o
        → ((q : ℕ) → by_id' q ≡ cond (eqb id q)
        (Some (record { key = o.key; sharers = o.sharers + 1; current = o.current })) (by_id q))
        → AreMarked by_id by_key next since → AreMarked by_id' by_key next since
    join_marks by_id by_id' by_key next since id o at' e marked =
        let more : Open K = record { key = o.key; sharers = o.sharers + 1; current = o.current } in
        record {
          marks = λ i p at. ⊎_elim
              (λ (t : (eqb id i ≡ true) × (id ≡ i)).
              let z : by_id' i ≡ Some more = e i ∙ ap (λ b. cond b (Some more) (by_id i)) t.0 in
              let is : p ≡ more = cc in
              ap (λ (q : Open K). q.current && nat_le since i) is ∙ marked.marks i o (ap by_id (sym t.1) ∙ at')
              ∙ sym (ap (λ (q : Open K). is_at (by_key q.key) i) is))
              (λ (t : (eqb id i ≡ false) × (id ≢ i)). marked.marks i p (sym (e i ∙ ap (λ b. cond b (Some more) (by_id i)) t.0) ∙ at))
              (eqb_tells id i);
          past = marked.past;
        }
