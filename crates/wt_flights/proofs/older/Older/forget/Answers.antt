use Rattle.std.proofs.Common.{rules, ◌≡◌, ◌∙◌, sym, ap, subst, refl, arith, ℕ, Bool, true, false, cond, eqb, Option, Some, None, IfSome}
use Rattle.std.specs.HashMap.{get, hash_map_len}
use Rattle.std.specs.Prelude.{nat_eq, IsSome}
use Rattle.std.specs.Option.{is_some}
use Rattle.wt_flights.specs.declared.row.Open.{Open}
use Rattle.wt_flights.specs.Tables.{AreTied}
use Rattle.wt_flights.proofs.Forgets.{forgets, forget_keeps}
use Rattle.wt_flights.proofs.Lookups.{finds_current, nothing_in}
use Rattle.wt_flights.proofs.Marks.{same_marks, forget_none, forget_marks, unflagged, unflagged_rows, unflagged_keeps}
use Rattle.wt_flights.proofs.older.Older.forget.Goals as goal

-- ---- no load is current
-- taking a key out of an empty table changes nothing
untaken : {X : Type 0} (b : Bool) (g : Option X) → g ≡ None → g ≡ cond b None g
untaken true g none = none
untaken false g none = refl

pub returns-then-is_empty-clause-state : goal.returns-then-is_empty-clause-state
returns-then-is_empty-clause-state g c =
    let by_key : g.row.K.Denot → Option ℕ = get g.K.PartialEq.eq c.self.inside.by_key in
    let none : (q : g.row.K.Denot) → by_key q ≡ None =
    λ q. nothing_in (g.K.PartialEq.eq q) c.self.inside.by_key.entries (c.is_empty.ensures.0 c.if-is_empty.true) in
    rw (← c.self.view_is) (ap (λ rs. record { limit = c.self.inside.limit; next = c.self.inside.next; rows = rs })
    (forgets g.K.PartialEq.eq (g.met.K.Eq g.world.𝓛 g.world.𝓜 g.world.𝓡 ((λ s x. x), (λ x. x), (λ x. x), λ x. x)).laws
    (g.met.K.CacheKey g.world.𝓛 g.world.𝓜 g.world.𝓡 ((λ s x. x), (λ x. x), (λ x. x), λ x. x)).same
    (get nat_eq c.self.inside.by_id) by_key by_key c.self.inside.next c.args.key
    (λ q. untaken (g.K.PartialEq.eq c.args.key q) (by_key q) (none q))))

pub returns-then-is_empty-clause-answer : goal.returns-then-is_empty-clause-answer
returns-then-is_empty-clause-answer g c = rw (← c.self.view_is)
    (sym (ap is_some (finds_current g.K.PartialEq.eq
    (g.met.K.Eq g.world.𝓛 g.world.𝓜 g.world.𝓡 ((λ s x. x), (λ x. x), (λ x. x), λ x. x)).laws
    (g.met.K.CacheKey g.world.𝓛 g.world.𝓜 g.world.𝓡 ((λ s x. x), (λ x. x), (λ x. x), λ x. x)).same _ _ _ _
    c.args.key c.self.invariant.tied
    ∙ nothing_in (g.K.PartialEq.eq c.args.key) c.self.inside.by_key.entries
    (c.is_empty.ensures.0 c.if-is_empty.true))))

-- ---- the key has no current load
pub invariant_of-self : goal.invariant_of-self
invariant_of-self g c =
    let none : get g.K.PartialEq.eq c.self.inside.by_key c.args.key ≡ None = sym c.remove.ensures.value ∙ c.in_default.is in
    record {
      tied = forget_keeps g.K.PartialEq.eq
          (g.met.K.Eq g.world.𝓛 g.world.𝓜 g.world.𝓡 ((λ s x. x), (λ x. x), (λ x. x), λ x. x)).laws
          (g.met.K.CacheKey g.world.𝓛 g.world.𝓜 g.world.𝓡 ((λ s x. x), (λ x. x), (λ x. x), λ x. x)).same _ _ _ _ _
          c.args.key c.remove.ensures.updates.0 c.self.invariant.tied;
      marked = same_marks (get nat_eq c.self.inside.by_id) (get nat_eq c.self.inside.by_id)
          (get g.K.PartialEq.eq c.self.inside.by_key)
          (get g.K.PartialEq.eq c.remove.new.self) c.self.inside.next c.self.inside.since
          (λ q. refl) (forget_none g.K.PartialEq.eq
          (g.met.K.Eq g.world.𝓛 g.world.𝓜 g.world.𝓡 ((λ s x. x), (λ x. x), (λ x. x), λ x. x)).laws
          (g.met.K.CacheKey g.world.𝓛 g.world.𝓜 g.world.𝓡 ((λ s x. x), (λ x. x), (λ x. x), λ x. x)).same
          (get g.K.PartialEq.eq c.self.inside.by_key)
          (get g.K.PartialEq.eq c.remove.new.self) c.args.key none c.remove.ensures.updates.0)
          c.self.invariant.marked;
      within = c.self.invariant.within;
      positive = c.self.invariant.positive;
    }

pub returns-in_default-clause-state : goal.returns-in_default-clause-state
returns-in_default-clause-state g c =
    rw (← c.self.view_is) (ap (λ rs. record { limit = c.self.inside.limit; next = c.self.inside.next; rows = rs })
    (forgets g.K.PartialEq.eq (g.met.K.Eq g.world.𝓛 g.world.𝓜 g.world.𝓡 ((λ s x. x), (λ x. x), (λ x. x), λ x. x)).laws
    (g.met.K.CacheKey g.world.𝓛 g.world.𝓜 g.world.𝓡 ((λ s x. x), (λ x. x), (λ x. x), λ x. x)).same
    (get nat_eq c.self.inside.by_id) (get g.K.PartialEq.eq c.self.inside.by_key)
    (get g.K.PartialEq.eq c.remove.new.self) c.self.inside.next c.args.key c.remove.ensures.updates.0))

pub returns-in_default-clause-answer : goal.returns-in_default-clause-answer
returns-in_default-clause-answer g c =
    let none : get g.K.PartialEq.eq c.self.inside.by_key c.args.key ≡ None = sym c.remove.ensures.value ∙ c.in_default.is in
    rw (← c.self.view_is) (sym (ap is_some
    (finds_current g.K.PartialEq.eq
    (g.met.K.Eq g.world.𝓛 g.world.𝓜 g.world.𝓡 ((λ s x. x), (λ x. x), (λ x. x), λ x. x)).laws
    (g.met.K.CacheKey g.world.𝓛 g.world.𝓜 g.world.𝓡 ((λ s x. x), (λ x. x), (λ x. x), λ x. x)).same _ _ _ _
    c.args.key c.self.invariant.tied ∙ none)))

-- ---- the key's current load loses its flag
-- what the table by id has after that
after : {K : Type 0} (by_id by_id' : ℕ → Option (Open K)) (id : ℕ) (o : Open K) → by_id id ≡ Some o
    → IfSome (by_id id) (λ p. (q : ℕ) → by_id' q ≡ cond (eqb id q) (Some (record p { current = false })) (by_id q))
    → (q : ℕ) → by_id' q ≡ cond (eqb id q) (Some (unflagged o)) (by_id q)
after {K = K} by_id by_id' id o at flag =
    subst (λ (x : Option (Open K)). IfSome x (λ p. (q : ℕ) → by_id' q ≡ cond (eqb id q) (Some (unflagged p)) (by_id q)))
    at flag

-- an entry that is there
is_there : {X : Type 0} (g : Option X) (x : X) → g ≡ Some x → IsSome g
is_there g x at = subst IsSome (sym at) refl

pub unflag-requires : goal.unflag-requires
unflag-requires g c = let h = c.self.invariant.tied.held c.args.key c.in-Some.id (sym c.in-Some.ensures.value) in
    (search rules, (search rules, is_there (get nat_eq c.self.inside.by_id c.in-Some.id) h.0 h.1))

pub invariant_of-self-2 : goal.invariant_of-self-2
invariant_of-self-2 g c =
    let by_id : ℕ → Option (Open g.row.K.Denot) = get nat_eq c.self.inside.by_id in
    let by_id' : ℕ → Option (Open g.row.K.Denot) = get nat_eq c.unflag.new.by_id in
    let by_key : g.row.K.Denot → Option ℕ = get g.K.PartialEq.eq c.self.inside.by_key in
    let by_key' : g.row.K.Denot → Option ℕ = get g.K.PartialEq.eq c.remove.new.self in
    let here = sym c.in-Some.ensures.value in
    let h = c.self.invariant.tied.held c.args.key c.in-Some.id here in
    let e = after by_id by_id' c.in-Some.id h.0 h.1 c.unflag.ensures.state in
    let l = c.unflag.ensures.len in
    let within = c.self.invariant.within in
    record {
      tied = subst (λ n. AreTied by_id' by_key' c.self.inside.next n) (sym l)
          (unflagged_keeps by_id by_id' by_key' c.self.inside.next
          (hash_map_len c.self.inside.by_id) c.in-Some.id h.0 h.1 e
          (forget_keeps g.K.PartialEq.eq (g.met.K.Eq g.world.𝓛 g.world.𝓜 g.world.𝓡
          ((λ s x. x), (λ x. x), (λ x. x), λ x. x)).laws
          (g.met.K.CacheKey g.world.𝓛 g.world.𝓜 g.world.𝓡 ((λ s x. x), (λ x. x), (λ x. x), λ x. x)).same by_id
          by_key by_key' c.self.inside.next
          (hash_map_len c.self.inside.by_id) c.args.key c.in-Some.ensures.updates.0 c.self.invariant.tied));
      marked = forget_marks g.K.PartialEq.eq
          (g.met.K.Eq g.world.𝓛 g.world.𝓜 g.world.𝓡 ((λ s x. x), (λ x. x), (λ x. x), λ x. x)).laws
          (g.met.K.CacheKey g.world.𝓛 g.world.𝓜 g.world.𝓡 ((λ s x. x), (λ x. x), (λ x. x), λ x. x)).same by_id by_id'
          by_key by_key' c.self.inside.next c.self.inside.since c.in-Some.id h.0 c.args.key here h.2 e
          c.in-Some.ensures.updates.0 c.self.invariant.marked;
      within = omega (arith, l, within);
      positive = c.self.invariant.positive;
    }

pub returns-clause-state : goal.returns-clause-state
returns-clause-state g c =
    let by_id : ℕ → Option (Open g.row.K.Denot) = get nat_eq c.self.inside.by_id in
    let by_id' : ℕ → Option (Open g.row.K.Denot) = get nat_eq c.unflag.new.by_id in
    let by_key : g.row.K.Denot → Option ℕ = get g.K.PartialEq.eq c.self.inside.by_key in
    let by_key' : g.row.K.Denot → Option ℕ = get g.K.PartialEq.eq c.remove.new.self in
    let h = c.self.invariant.tied.held c.args.key c.in-Some.id (sym c.in-Some.ensures.value) in
    let e = after by_id by_id' c.in-Some.id h.0 h.1 c.unflag.ensures.state in
    rw (← c.self.view_is) (ap (λ rs. record { limit = c.self.inside.limit; next = c.self.inside.next; rows = rs })
    (unflagged_rows by_id by_id' by_key' c.self.inside.next c.in-Some.id h.0 h.1 e
    ∙ forgets g.K.PartialEq.eq (g.met.K.Eq g.world.𝓛 g.world.𝓜 g.world.𝓡
    ((λ s x. x), (λ x. x), (λ x. x), λ x. x)).laws
    (g.met.K.CacheKey g.world.𝓛 g.world.𝓜 g.world.𝓡 ((λ s x. x), (λ x. x), (λ x. x), λ x. x)).same by_id by_key
    by_key' c.self.inside.next c.args.key c.in-Some.ensures.updates.0))

pub returns-clause-answer : goal.returns-clause-answer
returns-clause-answer g c = rw (← c.self.view_is)
    (sym (ap is_some (finds_current g.K.PartialEq.eq
    (g.met.K.Eq g.world.𝓛 g.world.𝓜 g.world.𝓡 ((λ s x. x), (λ x. x), (λ x. x), λ x. x)).laws
    (g.met.K.CacheKey g.world.𝓛 g.world.𝓜 g.world.𝓡 ((λ s x. x), (λ x. x), (λ x. x), λ x. x)).same _ _ _ _ c.args.key
    c.self.invariant.tied ∙ sym c.in-Some.ensures.value)))
