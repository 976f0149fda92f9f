use Rattle.std.proofs.Common.{arith, ◌<◌, ◌≤◌, ◌∷◌, length, refl}
use Rattle.wt_regions.proofs.Past.{past-fits, past-lists, past-weight, past-weight-fits, past-notices, past-notices-fits, past-own}
use Rattle.wt_regions.proofs.caches.Caches.settle_past.Goals as goal

pub returns-then-len-self-clause-state : goal.returns-then-len-self-clause-state
returns-then-len-self-clause-state g c =
    let i = c.self.inside in
    let placed = rw (← c.self.view_is) at c.requires.placed in
    let off = rw (← c.self.view_is) at c.requires.elsewhere in
    let on = rw (← c.self.view_is) at c.requires.there in
    let laws = (g.met.K.Eq g.world.𝓛 g.world.𝓜 g.world.𝓡 ((λ s x. x), (λ x. x), (λ x. x), λ x. x)).laws in
    let less : length i.window.entries < i.caps.window = rw c.len.ensures.len at c.if-len-self.true in
    let le : length ((c.args.key, c.args.held) ∷ i.window.entries) ≤ i.caps.window = omega (arith, less) in
    let p = past-fits g.K.PartialEq.eq laws g.V.Weighs.measure
    (λ _. 0) c.args.held.written c.args.key c.args.held i.caps i.window.entries i.probation.entries
    i.protected.entries placed off on le in
    rw (c.take_below-own.ensures.state, c.in_ok-push_new.ensures.state, ← c.self.view_is) (rw p refl)

pub returns-then-len-self-clause-notices : goal.returns-then-len-self-clause-notices
returns-then-len-self-clause-notices g c =
    let i = c.self.inside in
    let placed = rw (← c.self.view_is) at c.requires.placed in
    let off = rw (← c.self.view_is) at c.requires.elsewhere in
    let on = rw (← c.self.view_is) at c.requires.there in
    let laws = (g.met.K.Eq g.world.𝓛 g.world.𝓜 g.world.𝓡 ((λ s x. x), (λ x. x), (λ x. x), λ x. x)).laws in
    let less : length i.window.entries < i.caps.window = rw c.len.ensures.len at c.if-len-self.true in
    let le : length ((c.args.key, c.args.held) ∷ i.window.entries) ≤ i.caps.window = omega (arith, less) in
    rw (← c.self.view_is) (past-notices-fits g.K.PartialEq.eq laws g.V.Weighs.measure
    (λ _. 0) c.args.held.written c.args.key c.args.held i.caps i.window.entries i.probation.entries
    i.protected.entries placed off on
    c.args.notices.now c.tell_held.new.notices c.take_below-own.result le c.take_below-own.ensures.held c.tell_held.ensures.notices)

pub returns-then-len-self-clause-weight : goal.returns-then-len-self-clause-weight
returns-then-len-self-clause-weight g c =
    let i = c.self.inside in
    let placed = rw (← c.self.view_is) at c.requires.placed in
    let off = rw (← c.self.view_is) at c.requires.elsewhere in
    let on = rw (← c.self.view_is) at c.requires.there in
    let laws = (g.met.K.Eq g.world.𝓛 g.world.𝓜 g.world.𝓡 ((λ s x. x), (λ x. x), (λ x. x), λ x. x)).laws in
    let p = past-weight-fits g.K.PartialEq.eq laws g.V.Weighs.measure
    (λ _. 0) c.args.held.written c.args.key c.args.held i.caps i.window.entries i.probation.entries
    i.protected.entries placed off on in
    rw (
      c.tell_held.ensures.weight,
      c.take_below-own.ensures.held,
      c.take_below-own.ensures.state,
      c.in_ok-push_new.ensures.state,
      ← c.self.view_is,
    ) p

pub returns-clause-state : goal.returns-clause-state
returns-clause-state g c =
    let i = c.self.inside in
    let placed = rw (← c.self.view_is) at c.requires.placed in
    let off = rw (← c.self.view_is) at c.requires.elsewhere in
    let on = rw (← c.self.view_is) at c.requires.there in
    let laws = (g.met.K.Eq g.world.𝓛 g.world.𝓜 g.world.𝓡 ((λ s x. x), (λ x. x), (λ x. x), λ x. x)).laws in
    let whole : i.caps.window ≤ length i.window.entries = omega (arith, c.len.ensures.len, c.if-len-self.false) in
    let full : i.caps.window < length ((c.args.key, c.args.held) ∷ i.window.entries) = omega (arith, whole) in
    rw (c.take_below-own-2.ensures.state, c.in_ok-left.ensures.state, ← c.self.view_is)
    (past-lists g.K.PartialEq.eq laws g.V.Weighs.measure
    (λ _. 0) c.args.held.written c.args.key c.args.held i.caps i.window.entries i.probation.entries
    i.protected.entries placed off on full)

pub returns-clause-notices : goal.returns-clause-notices
returns-clause-notices g c =
    let i = c.self.inside in
    let placed = rw (← c.self.view_is) at c.requires.placed in
    let off = rw (← c.self.view_is) at c.requires.elsewhere in
    let on = rw (← c.self.view_is) at c.requires.there in
    let laws = (g.met.K.Eq g.world.𝓛 g.world.𝓜 g.world.𝓡 ((λ s x. x), (λ x. x), (λ x. x), λ x. x)).laws in
    let whole : i.caps.window ≤ length i.window.entries = omega (arith, c.len.ensures.len, c.if-len-self.false) in
    let full : i.caps.window < length ((c.args.key, c.args.held) ∷ i.window.entries) = omega (arith, whole) in
    let own = rw (c.in_ok-left.ensures.state, ← c.self.view_is) at c.take_below-own-2.ensures.held in
    let left = rw (← c.self.view_is) at c.in_ok-left.ensures.left in
    rw (← c.self.view_is) (past-notices g.K.PartialEq.eq laws g.V.Weighs.measure
    (λ _. 0) c.args.held.written c.args.key c.args.held i.caps i.window.entries i.probation.entries
    i.protected.entries placed off on
    c.args.notices.now c.tell_held-gone.new.notices c.tell_left.new.notices c.take_below-own-2.result c.in_ok-left.left
    full own left c.tell_held-gone.ensures.notices c.tell_left.ensures.notices)

pub returns-clause-weight : goal.returns-clause-weight
returns-clause-weight g c =
    let i = c.self.inside in
    let placed = rw (← c.self.view_is) at c.requires.placed in
    let off = rw (← c.self.view_is) at c.requires.elsewhere in
    let on = rw (← c.self.view_is) at c.requires.there in
    let laws = (g.met.K.Eq g.world.𝓛 g.world.𝓜 g.world.𝓡 ((λ s x. x), (λ x. x), (λ x. x), λ x. x)).laws in
    let whole : i.caps.window ≤ length i.window.entries = omega (arith, c.len.ensures.len, c.if-len-self.false) in
    let full : i.caps.window < length ((c.args.key, c.args.held) ∷ i.window.entries) = omega (arith, whole) in
    let p = past-weight g.K.PartialEq.eq laws g.V.Weighs.measure
    (λ _. 0) c.args.held.written c.args.key c.args.held i.caps i.window.entries i.probation.entries
    i.protected.entries placed off on full in
    let o = past-own g.K.PartialEq.eq laws g.V.Weighs.measure
    (λ _. 0) c.args.held.written c.args.key c.args.held i.caps i.window.entries i.probation.entries
    i.protected.entries placed off on full in
    rw (
      c.tell_left.ensures.weight,
      c.tell_held-gone.ensures.weight,
      c.take_below-own-2.ensures.held,
      c.take_below-own-2.ensures.state,
      c.in_ok-left.ensures.left,
      c.in_ok-left.ensures.state,
      ← c.self.view_is,
      o,
    ) p

pub make_way-requires-clause-full : goal.make_way-requires-clause-full
make_way-requires-clause-full g c κs within =
    let i = c.self.inside in
    let whole : i.caps.window ≤ length i.window.entries = omega (arith, c.len.ensures.len, c.if-len-self.false) in
    record {
      placed = c.requires.placed;
      elsewhere = c.requires.elsewhere;
      full = rw (← c.self.view_is) whole;
    }
