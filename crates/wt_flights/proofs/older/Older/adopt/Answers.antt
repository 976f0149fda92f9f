use Rattle.std.proofs.Common.{◌≡◌, ◌+◌, ◌<◌, ◌∙◌, ap, refl, arith, true, eqb, cond, Some, None, length}
use Rattle.std.specs.HashMap.{get, hash_map_len}
use Rattle.std.specs.Prelude.{nat_eq}
use Rattle.wt_flights.specs.Tables.{rows_of}
use Rattle.wt_flights.proofs.Lookups.{same_keeps}
use Rattle.wt_flights.proofs.Marks.{same_marks}
use Rattle.wt_flights.proofs.Adopts.{Adopts, open_of, none_there, one_longer, rows_of-adopted, adopt_keeps, adopt_marks}
use Rattle.wt_flights.proofs.older.Older.adopt.Given.{Over}
use Rattle.wt_flights.proofs.older.Older.adopt.Goals.{In-Ok}
use Rattle.wt_flights.proofs.older.Older.adopt.Goals as goal

pub invariant_of-self : goal.invariant_of-self
invariant_of-self g c =
    let l = c.in_err-reserve.ensures.entries.1 in
    let within = c.self.invariant.within in
    record {
      tied = same_keeps _ _ _ _ _ _ _ c.in_err-reserve.ensures.entries.2 (λ q. refl) l c.self.invariant.tied;
      marked = same_marks _ _ _ _ _ _ c.in_err-reserve.ensures.entries.2 (λ q. refl) c.self.invariant.marked;
      within = omega arith;
      positive = c.self.invariant.positive;
    }

pub invariant_of-self-in_err-name_current : goal.invariant_of-self-in_err-name_current
invariant_of-self-in_err-name_current g c =
    let l = c.in_ok-reserve.ensures.entries.1 in
    let within = c.self.invariant.within in
    record {
      tied = same_keeps _ _ _ _ _ _ _ c.in_ok-reserve.ensures.entries.2 c.in_err-name_current.ensures.err l c.self.invariant.tied;
      marked = same_marks _ _ _ _ _ _ c.in_ok-reserve.ensures.entries.2 c.in_err-name_current.ensures.err c.self.invariant.marked;
      within = omega arith;
      positive = c.self.invariant.positive;
    }

-- a load that is current is its key's only one
only : (g : Over) → (c : In-Ok g) → c.args.row.current ≡ true → get g.K.PartialEq.eq c.self.inside.by_key c.args.row.key ≡ None
only g c is =
    let laws = (g.met.K.Eq g.world.𝓛 g.world.𝓜 g.world.𝓡 ((λ s x. x), (λ x. x), (λ x. x), λ x. x)).laws in
    let same = (g.met.K.CacheKey g.world.𝓛 g.world.𝓜 g.world.𝓡 ((λ s x. x), (λ x. x), (λ x. x), λ x. x)).same in
    let none = (rw (← c.self.view_is) at c.requires.only) is in
    none_there g.K.PartialEq.eq laws same (get nat_eq c.self.inside.by_id) _ _ _ c.args.row.key c.self.invariant.tied none

-- both tables got their entry
adopts : (g : Over) → (c : In-Ok g) → Adopts g.K.PartialEq.eq (get nat_eq c.self.inside.by_id) (get nat_eq c.insert.new.self)
    (get g.K.PartialEq.eq c.self.inside.by_key) (get g.K.PartialEq.eq c.name_current.new.by_key) c.self.inside.next c.args.row
adopts g c = record {
  newer = rw (← c.self.view_is) at c.requires.after;
  only = only g c;
  opened = λ q. c.in-Ok.ensures.updates.0 q
      ∙ ap (cond (eqb c.args.row.id q) (Some (open_of c.args.row))) (c.in_ok-reserve.ensures.entries.2 q);
  named = c.in_ok-name_current.ensures.ok;
}

-- the table by id is one longer
longer : (g : Over) → (c : In-Ok g) → hash_map_len c.insert.new.self ≡ hash_map_len c.self.inside.by_id + 1
longer g c = one_longer (get nat_eq c.self.inside.by_id)
    (get nat_eq c.reserve.new.self) c.self.inside.next c.args.row.id _ _ _ c.in-Ok.field-0
    c.in_ok-reserve.ensures.entries.2 c.self.invariant.tied.fresh
    (adopts g c).newer c.in_ok-reserve.ensures.entries.1 c.in-Ok.ensures.old c.in-Ok.ensures.len

pub invariant_of-self-2 : goal.invariant_of-self-2
invariant_of-self-2 g c =
    let ok = (goal.at.invariant_of-self-2 g c).In-Ok in
    let laws = (g.met.K.Eq g.world.𝓛 g.world.𝓜 g.world.𝓡 ((λ s x. x), (λ x. x), (λ x. x), λ x. x)).laws in
    let same = (g.met.K.CacheKey g.world.𝓛 g.world.𝓜 g.world.𝓡 ((λ s x. x), (λ x. x), (λ x. x), λ x. x)).same in
    let l = longer g ok in
    let rows = rows_of (get nat_eq c.self.inside.by_id) (get g.K.PartialEq.eq c.self.inside.by_key) c.self.inside.next in
    let room : length rows < c.self.inside.limit = rw (← c.self.view_is) at c.requires.room in
    let counted = c.self.invariant.tied.counted in
    let last = c.requires.last in
    record {
      tied = rw last at (adopt_keeps g.K.PartialEq.eq laws same _ _ _ _ _ c.args.row
          (adopts g ok) _ _ c.self.invariant.positive l c.self.invariant.tied);
      marked = rw last at (adopt_marks g.K.PartialEq.eq laws same _ _ _ _ _ c.args.row
          (adopts g ok) _ _ c.self.invariant.tied c.self.invariant.marked);
      within = omega (arith, l, room, counted);
      positive = omega (arith, last);
    }

pub returns-clause-state : goal.returns-clause-state
returns-clause-state g c =
    let ok = (goal.at.returns-clause-state g c).In-Ok in
    let laws = (g.met.K.Eq g.world.𝓛 g.world.𝓜 g.world.𝓡 ((λ s x. x), (λ x. x), (λ x. x), λ x. x)).laws in
    let same = (g.met.K.CacheKey g.world.𝓛 g.world.𝓜 g.world.𝓡 ((λ s x. x), (λ x. x), (λ x. x), λ x. x)).same in
    rw (← c.self.view_is, ← c.requires.last) (ap (λ rs. record { limit = c.self.inside.limit; next = c.args.row.id + 1; rows = rs })
    (rows_of-adopted g.K.PartialEq.eq laws same _ _ _ _ _ c.args.row (adopts g ok) _ c.self.invariant.tied))
