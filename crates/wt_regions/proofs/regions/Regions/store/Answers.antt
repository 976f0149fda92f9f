use Rattle.std.proofs.Common.{◌≡◌, ◌≤◌, refl}
use Rattle.wt_sketch.specs.Sketch.{estimate_of}
use Rattle.wt_regions.specs.declared.held.Held.{Held}
use Rattle.wt_regions.specs.Lists.{lifeless}
use Rattle.wt_regions.proofs.Moves.{placed_of}
use Rattle.wt_regions.proofs.Kept.{kept-first, kept-room, kept-lawful, kept-caps, both-lists, both-told}
use Rattle.wt_regions.proofs.Lives.{measured-lifeless, none-before, none-stored}
use Rattle.wt_regions.specs.Steps.{new_entry, placed}
use Rattle.wt_regions.proofs.regions.Regions.store.Goals as goal

pub trim-self-inside-requires-clause-first : goal.trim-self-inside-requires-clause-first
trim-self-inside-requires-clause-first g c κs within =
    let r = c.self.inside.caches in
    let law = placed_of g.K.PartialEq.eq g.V.Weighs.measure r c.self.invariant.0 in
    let h : Held g.row.V.Denot = (new_entry g.V.Weighs.measure c.args.key c.args.value c.args.now c.args.stamp).1 in
    let low : (g.V.Weighs.measure c.args.value).weight ≤ r.caps.bound =
    rw (← c.self-inside.view_is) (rw c.measure-weight.ensures at c.if-weight-bound.false) in
    let is = rw c.measure-weight.ensures at c.in-Ok.ensures.state in
    kept-first g.K.PartialEq.eq (g.met.K.Eq g.world.𝓛 g.world.𝓜 g.world.𝓡 ((λ s x. x), (λ x. x), (λ x. x), λ x. x)).laws
    g.V.Weighs.measure (λ k. estimate_of c.args.sketch.now (g.K.CacheKey.word k)) c.args.now c.args.key h r.caps
    r.window r.probation r.protected law refl low c.place.new.self is

pub trim-self-inside-requires-clause-room : goal.trim-self-inside-requires-clause-room
trim-self-inside-requires-clause-room g c κs within =
    let r = c.self.inside.caches in
    let law = placed_of g.K.PartialEq.eq g.V.Weighs.measure r c.self.invariant.0 in
    let h : Held g.row.V.Denot = (new_entry g.V.Weighs.measure c.args.key c.args.value c.args.now c.args.stamp).1 in
    let low : (g.V.Weighs.measure c.args.value).weight ≤ r.caps.bound =
    rw (← c.self-inside.view_is) (rw c.measure-weight.ensures at c.if-weight-bound.false) in
    let is = rw c.measure-weight.ensures at c.in-Ok.ensures.state in
    let told = rw c.measure-weight.ensures at c.in-Ok.ensures.notices in
    let room : r.caps.entries ≤ c.args.notices.now.room = rw (← c.self.view_is) at c.requires.room in
    kept-room g.K.PartialEq.eq (g.met.K.Eq g.world.𝓛 g.world.𝓜 g.world.𝓡 ((λ s x. x), (λ x. x), (λ x. x), λ x. x)).laws
    g.V.Weighs.measure (λ k. estimate_of c.args.sketch.now (g.K.CacheKey.word k)) c.args.now c.args.key h r.caps
    r.window r.probation r.protected law refl low c.place.new.self c.args.notices.now c.place.new.notices is told
    room

pub invariant_of-self : goal.invariant_of-self
invariant_of-self g c =
    let r = c.self.inside.caches in
    let law = placed_of g.K.PartialEq.eq g.V.Weighs.measure r c.self.invariant.0 in
    let h : Held g.row.V.Denot = (new_entry g.V.Weighs.measure c.args.key c.args.value c.args.now c.args.stamp).1 in
    let low : (g.V.Weighs.measure c.args.value).weight ≤ r.caps.bound =
    rw (← c.self-inside.view_is) (rw c.measure-weight.ensures at c.if-weight-bound.false) in
    let is = rw c.measure-weight.ensures at c.in-Ok.ensures.state in (
      kept-lawful g.K.PartialEq.eq (g.met.K.Eq g.world.𝓛 g.world.𝓜 g.world.𝓡
          ((λ s x. x), (λ x. x), (λ x. x), λ x. x)).laws g.V.Weighs.measure
          (λ k. estimate_of c.args.sketch.now (g.K.CacheKey.word k)) c.args.now c.args.key h r.caps r.window r.probation
          r.protected law refl low c.place.new.self c.trim-self-inside.new.self is c.trim-self-inside.ensures.state,
      c.trim-self-inside.ensures.weight,
      λ none.
          let before = none-before c.self.inside.lives c.measure-weight.result.life none in
          let z : (g.V.Weighs.measure c.args.value).life ≡ 0 = rw c.measure-weight.ensures at (none-stored c.self.inside.lives c.measure-weight.result.life none) in
          kept-lawful g.K.PartialEq.eq (g.met.K.Eq g.world.𝓛 g.world.𝓜 g.world.𝓡
          ((λ s x. x), (λ x. x), (λ x. x), λ x. x)).laws (lifeless g.V.Weighs.measure)
          (λ k. estimate_of c.args.sketch.now (g.K.CacheKey.word k)) c.args.now c.args.key h r.caps r.window r.probation
          r.protected (placed_of g.K.PartialEq.eq (lifeless g.V.Weighs.measure) r (c.self.invariant.2 before))
          (measured-lifeless g.V.Weighs.measure h refl z) low c.place.new.self c.trim-self-inside.new.self is
          c.trim-self-inside.ensures.state,
    )

pub returns-in-Ok-clause-state : goal.returns-in-Ok-clause-state
returns-in-Ok-clause-state g c =
    let r = c.self.inside.caches in
    let law = placed_of g.K.PartialEq.eq g.V.Weighs.measure r c.self.invariant.0 in
    let h : Held g.row.V.Denot = (new_entry g.V.Weighs.measure c.args.key c.args.value c.args.now c.args.stamp).1 in
    let low : (g.V.Weighs.measure c.args.value).weight ≤ r.caps.bound =
    rw (← c.self-inside.view_is) (rw c.measure-weight.ensures at c.if-weight-bound.false) in
    let is = rw c.measure-weight.ensures at c.in-Ok.ensures.state in
    rw (← c.self.view_is) (both-lists g.K.PartialEq.eq c.args.key c.place.new.self c.trim-self-inside.new.self
    (placed g.K.PartialEq.eq (λ k. estimate_of c.args.sketch.now (g.K.CacheKey.word k)) c.args.now
    (c.args.key, h) r) is c.trim-self-inside.ensures.state)

pub returns-in-Ok-clause-notices : goal.returns-in-Ok-clause-notices
returns-in-Ok-clause-notices g c =
    let r = c.self.inside.caches in
    let law = placed_of g.K.PartialEq.eq g.V.Weighs.measure r c.self.invariant.0 in
    let h : Held g.row.V.Denot = (new_entry g.V.Weighs.measure c.args.key c.args.value c.args.now c.args.stamp).1 in
    let low : (g.V.Weighs.measure c.args.value).weight ≤ r.caps.bound =
    rw (← c.self-inside.view_is) (rw c.measure-weight.ensures at c.if-weight-bound.false) in
    let is = rw c.measure-weight.ensures at c.in-Ok.ensures.state in
    let told = rw c.measure-weight.ensures at c.in-Ok.ensures.notices in
    rw (← c.self.view_is) (both-told g.K.PartialEq.eq c.args.key c.place.new.self
    (placed g.K.PartialEq.eq (λ k. estimate_of c.args.sketch.now (g.K.CacheKey.word k)) c.args.now
    (c.args.key, h) r) c.args.notices.now c.place.new.notices c.trim-self-inside.new.notices is told
    c.trim-self-inside.ensures.notices)

pub returns-in-Ok-clause-same : goal.returns-in-Ok-clause-same
returns-in-Ok-clause-same g c =
    let r = c.self.inside.caches in
    let law = placed_of g.K.PartialEq.eq g.V.Weighs.measure r c.self.invariant.0 in
    let h : Held g.row.V.Denot = (new_entry g.V.Weighs.measure c.args.key c.args.value c.args.now c.args.stamp).1 in
    let low : (g.V.Weighs.measure c.args.value).weight ≤ r.caps.bound =
    rw (← c.self-inside.view_is) (rw c.measure-weight.ensures at c.if-weight-bound.false) in
    let is = rw c.measure-weight.ensures at c.in-Ok.ensures.state in
    rw (← c.self.view_is) (kept-caps g.K.PartialEq.eq
    (g.met.K.Eq g.world.𝓛 g.world.𝓜 g.world.𝓡 ((λ s x. x), (λ x. x), (λ x. x), λ x. x)).laws g.V.Weighs.measure
    (λ k. estimate_of c.args.sketch.now (g.K.CacheKey.word k)) c.args.now c.args.key h r.caps r.window r.probation
    r.protected law refl low c.place.new.self c.trim-self-inside.new.self is c.trim-self-inside.ensures.state)
