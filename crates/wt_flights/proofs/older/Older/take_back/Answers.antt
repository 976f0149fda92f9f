use Rattle.std.proofs.Common.{◌≡◌, ◌∙◌, ◌-◌, sym, ap, ℕ, List, Option, Some, arith, refl}
use Rattle.std.specs.HashMap.{get, hash_map_len}
use Rattle.std.specs.Prelude.{nat_eq}
use Rattle.wt_flights.specs.Rows.{Flights}
use Rattle.wt_flights.specs.declared.row.Row.{Row}
use Rattle.wt_flights.specs.declared.row.Open.{Open}
use Rattle.wt_flights.proofs.Lands.{lands, land_keeps, leaves_current}
use Rattle.wt_flights.proofs.TakesBack.{newest, Newest, shrinks_to, shrink_keeps, id_gone, last_cut, undone, still_positive}
use Rattle.wt_flights.proofs.Marks.{land_marks, still_past, take_back_marks}
use Rattle.wt_flights.proofs.older.Older.take_back.Goals as goal

pub unreachable-requires : goal.unreachable-requires
unreachable-requires g c =
    let new = newest (get nat_eq c.self.inside.by_id) (get g.K.PartialEq.eq c.self.inside.by_key) c.self.inside.next
    (hash_map_len c.self.inside.by_id) c.self.invariant.tied (rw (← c.self.view_is) at c.requires) in
    let at = new.at in
    let v = c.remove.ensures.value in
    let n = c.in_default.is in
    cc

-- the load that was taken out is the newest one
its_mark : {K : Type 0} (by_id : ℕ → Option (Open K)) (by_key : K → Option ℕ) (next : ℕ) (o : Open K)
    → Newest by_id by_key next → by_id (next - 1) ≡ Some o → by_key o.key ≡ Some (next - 1)
its_mark {K = K} by_id by_key next o new at = let a = new.at in let e : new.open' ≡ o = cc in
    ap (λ (p : Open K). by_key p.key) (sym e) ∙ new.here

pub invariant_of-self : goal.invariant_of-self
invariant_of-self g c =
    let by_id : ℕ → Option (Open g.row.K.Denot) = get nat_eq c.self.inside.by_id in
    let by_id' : ℕ → Option (Open g.row.K.Denot) = get nat_eq c.remove.new.self in
    let by_key : g.row.K.Denot → Option ℕ = get g.K.PartialEq.eq c.self.inside.by_key in
    let by_key' : g.row.K.Denot → Option ℕ = get g.K.PartialEq.eq c.remove-2.new.self in
    let id : ℕ = c.self.inside.next - 1 in
    let new = newest by_id by_key c.self.inside.next (hash_map_len c.self.inside.by_id) c.self.invariant.tied
    (rw (← c.self.view_is) at c.requires) in
    let at = sym c.in-Some.ensures.value in
    let leaves = leaves_current g.K.PartialEq.eq
    (g.met.K.Eq g.world.𝓛 g.world.𝓜 g.world.𝓡 ((λ s x. x), (λ x. x), (λ x. x), λ x. x)).laws
    (g.met.K.CacheKey g.world.𝓛 g.world.𝓜 g.world.𝓡 ((λ s x. x), (λ x. x), (λ x. x), λ x. x)).same by_id by_key
    by_key' c.self.inside.next (hash_map_len c.self.inside.by_id) id c.in-Some.open c.self.invariant.tied at
    (its_mark by_id by_key c.self.inside.next c.in-Some.open new at) c.remove-2.ensures.updates.0 in
    let tied = land_keeps by_id by_id' by_key by_key' c.self.inside.next (hash_map_len c.self.inside.by_id)
    (hash_map_len c.remove.new.self) id c.in-Some.open c.in-Some.ensures.updates.0 leaves at c.in-Some.ensures.len
    c.self.invariant.tied in
    let l = c.in-Some.ensures.len in
    let within = c.self.invariant.within in
    record {
      tied = shrink_keeps by_id' by_key' c.self.inside.next id (hash_map_len c.remove.new.self) new.above
          (id_gone by_id by_id' id c.in-Some.ensures.updates.0) tied;
      marked = take_back_marks by_id' by_key' c.self.inside.next c.self.inside.since id
          (still_past by_id by_key c.self.inside.next c.self.inside.since id c.in-Some.open at
          (its_mark by_id by_key c.self.inside.next c.in-Some.open new at) c.self.invariant.marked)
          (land_marks by_id by_id' by_key by_key' c.self.inside.next c.self.inside.since id c.in-Some.ensures.updates.0
          leaves c.self.invariant.marked);
      within = omega (arith, l, within);
      positive = still_positive by_id by_key c.self.inside.next (hash_map_len c.self.inside.by_id) c.self.invariant.tied new;
    }

pub returns-clause-state : goal.returns-clause-state
returns-clause-state g c =
    let by_id : ℕ → Option (Open g.row.K.Denot) = get nat_eq c.self.inside.by_id in
    let by_id' : ℕ → Option (Open g.row.K.Denot) = get nat_eq c.remove.new.self in
    let by_key : g.row.K.Denot → Option ℕ = get g.K.PartialEq.eq c.self.inside.by_key in
    let by_key' : g.row.K.Denot → Option ℕ = get g.K.PartialEq.eq c.remove-2.new.self in
    let id : ℕ = c.self.inside.next - 1 in
    let new = newest by_id by_key c.self.inside.next (hash_map_len c.self.inside.by_id) c.self.invariant.tied
    (rw (← c.self.view_is) at c.requires) in
    let at = sym c.in-Some.ensures.value in
    let leaves = leaves_current g.K.PartialEq.eq
    (g.met.K.Eq g.world.𝓛 g.world.𝓜 g.world.𝓡 ((λ s x. x), (λ x. x), (λ x. x), λ x. x)).laws
    (g.met.K.CacheKey g.world.𝓛 g.world.𝓜 g.world.𝓡 ((λ s x. x), (λ x. x), (λ x. x), λ x. x)).same by_id by_key
    by_key' c.self.inside.next (hash_map_len c.self.inside.by_id) id c.in-Some.open c.self.invariant.tied at
    (its_mark by_id by_key c.self.inside.next c.in-Some.open new at) c.remove-2.ensures.updates.0 in
    let flights : List (Row g.row.K.Denot) → Flights g.row.K.Denot = λ rs. record { limit = c.self.inside.limit; next = id; rows = rs } in
    rw (← c.self.view_is) (ap flights
    (shrinks_to by_id' by_key' c.self.inside.next id new.above (id_gone by_id by_id' id c.in-Some.ensures.updates.0)
    ∙ lands by_id by_id' by_key by_key' c.self.inside.next id c.in-Some.ensures.updates.0 leaves))

pub returns-clause-undone : goal.returns-clause-undone
returns-clause-undone g c =
    let by_id : ℕ → Option (Open g.row.K.Denot) = get nat_eq c.self.inside.by_id in
    let by_id' : ℕ → Option (Open g.row.K.Denot) = get nat_eq c.remove.new.self in
    let by_key : g.row.K.Denot → Option ℕ = get g.K.PartialEq.eq c.self.inside.by_key in
    let by_key' : g.row.K.Denot → Option ℕ = get g.K.PartialEq.eq c.remove-2.new.self in
    let id : ℕ = c.self.inside.next - 1 in
    let new = newest by_id by_key c.self.inside.next (hash_map_len c.self.inside.by_id) c.self.invariant.tied
    (rw (← c.self.view_is) at c.requires) in
    let at = sym c.in-Some.ensures.value in
    let leaves = leaves_current g.K.PartialEq.eq
    (g.met.K.Eq g.world.𝓛 g.world.𝓜 g.world.𝓡 ((λ s x. x), (λ x. x), (λ x. x), λ x. x)).laws
    (g.met.K.CacheKey g.world.𝓛 g.world.𝓜 g.world.𝓡 ((λ s x. x), (λ x. x), (λ x. x), λ x. x)).same by_id by_key
    by_key' c.self.inside.next (hash_map_len c.self.inside.by_id) id c.in-Some.open c.self.invariant.tied at
    (its_mark by_id by_key c.self.inside.next c.in-Some.open new at) c.remove-2.ensures.updates.0 in
    rw (← c.self.view_is) (undone _ _ _
    (last_cut by_id by_id' by_key by_key' c.self.inside.next id c.in-Some.open new.above at
    c.in-Some.ensures.updates.0 leaves) new.above refl)
