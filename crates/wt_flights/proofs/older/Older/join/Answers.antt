use Rattle.std.proofs.Common.{rules, ◌≡◌, ◌∙◌, ◌<◌, ◌^◌, ◌+◌, sym, ap, subst, arith, ℕ, Option, Some, IfSome}
use Rattle.std.specs.HashMap.{get, hash_map_len}
use Rattle.std.specs.Prelude.{nat_eq}
use Rattle.wt_flights.specs.declared.row.Row.{Row}
use Rattle.wt_flights.specs.declared.row.Open.{Open}
use Rattle.wt_flights.specs.Tables.{AreTied}
use Rattle.wt_flights.proofs.Joins.{joins, joins_none, join_keeps}
use Rattle.wt_flights.proofs.Lookups.{finds_current, current_some}
use Rattle.wt_flights.proofs.Marks.{join_marks}
use Rattle.wt_flights.proofs.older.Older.join.Goals as goal

-- what the table by id has at the id found, has that key
its_key : {K : Type 0} (by_id : ℕ → Option (Open K)) (by_key : K → Option ℕ) (next len id : ℕ) (o : Open K) (key : K)
    → AreTied by_id by_key next len → by_key key ≡ Some id → by_id id ≡ Some o → key ≡ o.key
its_key {K = K} by_id by_key next len id o key tied here at = let h = tied.held key id here in let a = h.1 in
    let e : h.0 ≡ o = cc in h.2 ∙ ap (λ (p : Open K). p.key) e

pub returns-in_err-id-clause-answer : goal.returns-in_err-id-clause-answer
returns-in_err-id-clause-answer g c = rw (← c.self.view_is)
    (c.from_residual.ensures ∙ c.in_err-id.ensures.value
    ∙ sym (finds_current g.K.PartialEq.eq
    (g.met.K.Eq g.world.𝓛 g.world.𝓜 g.world.𝓡 ((λ s x. x), (λ x. x), (λ x. x), λ x. x)).laws
    (g.met.K.CacheKey g.world.𝓛 g.world.𝓜 g.world.𝓡 ((λ s x. x), (λ x. x), (λ x. x), λ x. x)).same _ _ _ _
    c.args.key c.self.invariant.tied))

pub returns-in_err-id-clause-state : goal.returns-in_err-id-clause-state
returns-in_err-id-clause-state g c =
    rw (← c.self.view_is) (ap (λ rs. record { limit = c.self.inside.limit; next = c.self.inside.next; rows = rs })
    (joins_none g.K.PartialEq.eq (g.met.K.Eq g.world.𝓛 g.world.𝓜 g.world.𝓡
    ((λ s x. x), (λ x. x), (λ x. x), λ x. x)).laws
    (g.met.K.CacheKey g.world.𝓛 g.world.𝓜 g.world.𝓡 ((λ s x. x), (λ x. x), (λ x. x), λ x. x)).same
    (get nat_eq c.self.inside.by_id) (get g.K.PartialEq.eq c.self.inside.by_key) c.self.inside.next c.args.key
    (sym c.in_err-id.ensures.value)))

pub overflow_add-open : goal.overflow_add-open
overflow_add-open g c =
    let here = sym c.in_ok-id.ensures.value in
    let at = sym c.in-Some.ensures.value in
    let k = its_key _ _ _ _ _ _ _ c.self.invariant.tied here at in
    let found = current_some g.K.PartialEq.eq
    (g.met.K.Eq g.world.𝓛 g.world.𝓜 g.world.𝓡 ((λ s x. x), (λ x. x), (λ x. x), λ x. x)).laws
    (g.met.K.CacheKey g.world.𝓛 g.world.𝓜 g.world.𝓡 ((λ s x. x), (λ x. x), (λ x. x), λ x. x)).same
    (get nat_eq c.self.inside.by_id)
    (get g.K.PartialEq.eq c.self.inside.by_key) c.self.inside.next c.in_ok-id.field-0.now c.in-Some.open.now
    c.args.key c.self.invariant.tied.fresh here at k in
    let P : Option (Row g.row.K.Denot) → Type 0 = λ x. IfSome x (λ r. r.sharers < 2 ^ 63) in
    let h : c.in-Some.open.now.sharers < 2 ^ 63 = subst P found (rw (← c.self.view_is) at c.requires.sharers_left) in
    omega arith

pub invariant_of-self : goal.invariant_of-self
invariant_of-self g c =
    let here = sym c.in_ok-id.ensures.value in
    let at = sym c.in-Some.ensures.value in
    let more : Open g.row.K.Denot =
    record {
      key = c.in-Some.open.now.key;
      sharers = c.in-Some.open.now.sharers + 1;
      current =
          c.in-Some.open.now.current;
    } in
    let w = c.get_mut.follows.holds more in
    let k = its_key _ _ _ _ _ _ _ c.self.invariant.tied here at in
    rw (w.2) (record {
      tied = join_keeps g.K.PartialEq.eq
          (g.met.K.Eq g.world.𝓛 g.world.𝓜 g.world.𝓡 ((λ s x. x), (λ x. x), (λ x. x), λ x. x)).laws
          (g.met.K.CacheKey g.world.𝓛 g.world.𝓜 g.world.𝓡 ((λ s x. x), (λ x. x), (λ x. x), λ x. x)).same
          (get nat_eq c.self.inside.by_id) (get nat_eq (c.get_mut.follows.lender more))
          (get g.K.PartialEq.eq c.self.inside.by_key) c.self.inside.next (hash_map_len c.self.inside.by_id)
          c.in_ok-id.field-0.now c.in-Some.open.now c.args.key here at k (w.3 (search rules)).0 c.self.invariant.tied;
      marked = join_marks g.K.PartialEq.eq
          (g.met.K.Eq g.world.𝓛 g.world.𝓜 g.world.𝓡 ((λ s x. x), (λ x. x), (λ x. x), λ x. x)).laws
          (g.met.K.CacheKey g.world.𝓛 g.world.𝓜 g.world.𝓡 ((λ s x. x), (λ x. x), (λ x. x), λ x. x)).same
          (get nat_eq c.self.inside.by_id) (get nat_eq (c.get_mut.follows.lender more))
          (get g.K.PartialEq.eq c.self.inside.by_key) c.self.inside.next c.self.inside.since c.in_ok-id.field-0.now
          c.in-Some.open.now at (w.3 (search rules)).0 c.self.invariant.marked;
      within = c.self.invariant.within;
      positive = c.self.invariant.positive;
    })

pub returns-clause-answer : goal.returns-clause-answer
returns-clause-answer g c = rw (← c.self.view_is)
    (c.in_ok-id.ensures.value ∙ sym
    (finds_current g.K.PartialEq.eq
    (g.met.K.Eq g.world.𝓛 g.world.𝓜 g.world.𝓡 ((λ s x. x), (λ x. x), (λ x. x), λ x. x)).laws
    (g.met.K.CacheKey g.world.𝓛 g.world.𝓜 g.world.𝓡 ((λ s x. x), (λ x. x), (λ x. x), λ x. x)).same _ _ _ _
    c.args.key c.self.invariant.tied))

pub returns-clause-state : goal.returns-clause-state
returns-clause-state g c =
    let here = sym c.in_ok-id.ensures.value in
    let at = sym c.in-Some.ensures.value in
    let more : Open g.row.K.Denot =
    record {
      key = c.in-Some.open.now.key;
      sharers = c.in-Some.open.now.sharers + 1;
      current =
          c.in-Some.open.now.current;
    } in
    let w = c.get_mut.follows.holds more in
    let k = its_key _ _ _ _ _ _ _ c.self.invariant.tied here at in
    rw (← c.self.view_is) (ap (λ rs. record { limit = c.self.inside.limit; next = c.self.inside.next; rows = rs })
    (joins g.K.PartialEq.eq (g.met.K.Eq g.world.𝓛 g.world.𝓜 g.world.𝓡 ((λ s x. x), (λ x. x), (λ x. x), λ x. x)).laws
    (g.met.K.CacheKey g.world.𝓛 g.world.𝓜 g.world.𝓡 ((λ s x. x), (λ x. x), (λ x. x), λ x. x)).same
    (get nat_eq c.self.inside.by_id) (get nat_eq (c.get_mut.follows.lender more))
    (get g.K.PartialEq.eq c.self.inside.by_key) c.self.inside.next c.in_ok-id.field-0.now c.in-Some.open.now
    c.args.key here at k (w.3 (search rules)).0))
