use Rattle.std.proofs.Common.{◌≡◌, ◌∙◌, sym, ap, ℕ, List, Option, true, false, arith}
use Rattle.std.specs.HashMap.{get, hash_map_len}
use Rattle.std.specs.Prelude.{nat_eq}
use Rattle.wt_flights.specs.declared.row.Row.{Row}
use Rattle.wt_flights.specs.declared.row.Open.{Open}
use Rattle.wt_flights.specs.Rows.{Flights}
use Rattle.wt_flights.specs.Tables.{is_at, rows_of}
use Rattle.wt_flights.proofs.RowLists.{landed_rows}
use Rattle.wt_flights.proofs.Lands.{lands, land_keeps, lands_none, land_none_keeps, leaves_past, leaves_current}
use Rattle.wt_flights.proofs.Lookups.{row_none, row_some, is_at-true, is_at-here}
use Rattle.wt_flights.proofs.Marks.{land_marks, land_none_marks}
use Rattle.wt_flights.proofs.older.Older.land.Goals.{then-current, else-current}
use Rattle.wt_flights.proofs.older.Older.land.Goals as goal

pub invariant_of-self : goal.invariant_of-self
invariant_of-self g c =
    let l = c.in_err-open.ensures.len in
    let within = c.self.invariant.within in
    record {
      tied = land_none_keeps (get nat_eq c.self.inside.by_id) (get nat_eq c.remove.new.self)
          (get g.K.PartialEq.eq c.self.inside.by_key) c.self.inside.next (hash_map_len c.self.inside.by_id)
          (hash_map_len c.remove.new.self) c.args.id
          c.in_err-open.ensures.updates.0 (sym c.in_err-open.ensures.value) l c.self.invariant.tied;
      marked = land_none_marks (get nat_eq c.self.inside.by_id) (get nat_eq c.remove.new.self)
          (get g.K.PartialEq.eq c.self.inside.by_key) c.self.inside.next c.self.inside.since c.args.id
          c.in_err-open.ensures.updates.0 c.self.invariant.marked;
      within = omega (arith, l, within);
      positive = c.self.invariant.positive;
    }

pub returns-in_err-open-clause-answer : goal.returns-in_err-open-clause-answer
returns-in_err-open-clause-answer g c = rw (← c.self.view_is)
    (c.from_residual.ensures ∙ sym (row_none (get nat_eq c.self.inside.by_id)
    (get g.K.PartialEq.eq c.self.inside.by_key) c.self.inside.next c.args.id c.self.invariant.tied.fresh
    (sym c.in_err-open.ensures.value)))

pub returns-in_err-open-clause-state : goal.returns-in_err-open-clause-state
returns-in_err-open-clause-state g c =
    rw (← c.self.view_is) (ap (λ rs. record { limit = c.self.inside.limit; next = c.self.inside.next; rows = rs })
    (lands_none (get nat_eq c.self.inside.by_id) (get nat_eq c.remove.new.self)
    (get g.K.PartialEq.eq c.self.inside.by_key) c.self.inside.next c.args.id c.in_err-open.ensures.updates.0
    (sym c.in_err-open.ensures.value)))

pub invariant_of-self-then-current : goal.invariant_of-self-then-current
invariant_of-self-then-current g c =
    let at = sym c.in_ok-open.ensures.value in
    let marked : is_at (get g.K.PartialEq.eq c.self.inside.by_key c.in_ok-open.open.key) c.args.id ≡ true =
    sym (c.is_current-current.ensures ∙ c.self.invariant.marked.marks c.args.id c.in_ok-open.open at) ∙ c.if-current.true in
    let leaves = leaves_current g.K.PartialEq.eq
    (g.met.K.Eq g.world.𝓛 g.world.𝓜 g.world.𝓡 ((λ s x. x), (λ x. x), (λ x. x), λ x. x)).laws
    (g.met.K.CacheKey g.world.𝓛 g.world.𝓜 g.world.𝓡 ((λ s x. x), (λ x. x), (λ x. x), λ x. x)).same
    (get nat_eq c.self.inside.by_id) (get g.K.PartialEq.eq c.self.inside.by_key)
    (get g.K.PartialEq.eq c.remove-then-current.new.self) c.self.inside.next
    (hash_map_len c.self.inside.by_id) c.args.id c.in_ok-open.open
    c.self.invariant.tied at (is_at-true _ _ marked) c.remove-then-current.ensures.updates.0 in
    let l = c.in_ok-open.ensures.len in
    let within = c.self.invariant.within in
    record {
      tied = land_keeps _ _ _ _ _ _ _ _ _ c.in_ok-open.ensures.updates.0 leaves at l c.self.invariant.tied;
      marked = land_marks _ _ _ _ _ _ c.args.id c.in_ok-open.ensures.updates.0 leaves c.self.invariant.marked;
      within = omega (arith, l, within);
      positive = c.self.invariant.positive;
    }

pub invariant_of-self-else-current : goal.invariant_of-self-else-current
invariant_of-self-else-current g c =
    let at = sym c.in_ok-open.ensures.value in
    let marked : is_at (get g.K.PartialEq.eq c.self.inside.by_key c.in_ok-open.open.key) c.args.id ≡ false =
    sym (c.is_current-current.ensures ∙ c.self.invariant.marked.marks c.args.id c.in_ok-open.open at) ∙ c.if-current.false in
    let leaves = leaves_past (get nat_eq c.self.inside.by_id)
    (get g.K.PartialEq.eq c.self.inside.by_key) c.self.inside.next
    (hash_map_len c.self.inside.by_id) c.args.id c.in_ok-open.open c.self.invariant.tied at
    (λ e. let t = is_at-here _ _ e in cc) in
    let l = c.in_ok-open.ensures.len in
    let within = c.self.invariant.within in
    record {
      tied = land_keeps _ _ _ _ _ _ _ _ _ c.in_ok-open.ensures.updates.0 leaves at l c.self.invariant.tied;
      marked = land_marks _ _ _ _ _ _ c.args.id c.in_ok-open.ensures.updates.0 leaves c.self.invariant.marked;
      within = omega (arith, l, within);
      positive = c.self.invariant.positive;
    }

pub returns-clause-answer : goal.returns-clause-answer
returns-clause-answer g c =
    let at = sym c.in_ok-open.ensures.value in
    rw (← c.self.view_is)
    (sym (row_some (get nat_eq c.self.inside.by_id)
    (get g.K.PartialEq.eq c.self.inside.by_key) c.self.inside.next c.args.id c.in_ok-open.open
    c.is_current-current.result c.self.invariant.tied.fresh (sym c.in_ok-open.ensures.value)
    (c.is_current-current.ensures ∙ c.self.invariant.marked.marks c.args.id c.in_ok-open.open at)))

pub returns-clause-state : goal.returns-clause-state
returns-clause-state g c =
    let at = sym c.in_ok-open.ensures.value in
    let by_id : ℕ → Option (Open g.row.K.Denot) = get nat_eq c.self.inside.by_id in
    let by_id' : ℕ → Option (Open g.row.K.Denot) = get nat_eq c.remove.new.self in
    let by_key : g.row.K.Denot → Option ℕ = get g.K.PartialEq.eq c.self.inside.by_key in
    let flights : List (Row g.row.K.Denot)
    → Flights g.row.K.Denot = λ rs. record { limit = c.self.inside.limit; next = c.self.inside.next; rows = rs } in
    let mark : c.is_current-current.result ≡ is_at (by_key c.in_ok-open.open.key) c.args.id =
    c.is_current-current.ensures ∙ c.self.invariant.marked.marks c.args.id c.in_ok-open.open at in
    let e : c.if-current.self ≡ flights (landed_rows c.args.id (rows_of by_id by_key c.self.inside.next)) = elim c.if-current.branch [
      | then-current w ↦ w.self-is ∙ ap flights
          (lands by_id by_id' by_key (get g.K.PartialEq.eq w.remove-then-current.new.self) c.self.inside.next c.args.id
          c.in_ok-open.ensures.updates.0
          (leaves_current g.K.PartialEq.eq
          (g.met.K.Eq g.world.𝓛 g.world.𝓜 g.world.𝓡 ((λ s x. x), (λ x. x), (λ x. x), λ x. x)).laws
          (g.met.K.CacheKey g.world.𝓛 g.world.𝓜 g.world.𝓡 ((λ s x. x), (λ x. x), (λ x. x), λ x. x)).same by_id
          by_key (get g.K.PartialEq.eq w.remove-then-current.new.self) c.self.inside.next
          (hash_map_len c.self.inside.by_id) c.args.id c.in_ok-open.open
          c.self.invariant.tied at (is_at-true _ _ (sym mark ∙ w.if-current.true)) w.remove-then-current.ensures.updates.0))
      | else-current w ↦ w.self-is ∙ ap flights
          (lands by_id by_id' by_key by_key c.self.inside.next c.args.id c.in_ok-open.ensures.updates.0
          (leaves_past by_id by_key c.self.inside.next
          (hash_map_len c.self.inside.by_id) c.args.id c.in_ok-open.open c.self.invariant.tied at
          (λ e. let t = is_at-here _ _ e in let u = sym mark ∙ w.if-current.false in cc)))
    ] in
    rw (← c.self.view_is) e
