use Rattle.std.proofs.Common.{rules, ◌≡◌, ◌++◌, None, Some, true, false, refl, sym, ap, ◌∙◌, List}
use Rattle.std.specs.Map.{lookup}
use Rattle.wt_sketch.specs.Sketch.{estimate_of}
use Rattle.wt_regions.specs.declared.notices.Notice.{Notice}
use Rattle.wt_regions.proofs.Apart.{above-probation, above-protected}
use Rattle.wt_regions.proofs.Moves.{lookup-append}
use Rattle.wt_regions.proofs.Placed.{on_ok, window-lists, window-told, window-weight, probation-lists, probation-told, probation-weight, protected-lists, protected-told, protected-weight, past-in-lists, past-in-told, new-lists, new-told}
use Rattle.wt_regions.specs.Lists.{is_expired}
use Rattle.wt_regions.specs.Notices.{appended}
use Rattle.wt_regions.proofs.caches.Caches.place.Goals as goal

pub settle_past-requires-clause-there : goal.settle_past-requires-clause-there
settle_past-requires-clause-there g c κs within =
    let i = c.self.inside in
    let at : lookup (g.K.PartialEq.eq c.args.key) i.protected.entries ≡ Some c.in-Some.own.now = search rules in
    let off = above-protected g.K.PartialEq.eq
    (g.met.K.Eq g.world.𝓛 g.world.𝓜 g.world.𝓡 ((λ s x. x), (λ x. x), (λ x. x), λ x. x)).laws c.args.key
    i.window.entries i.probation.entries i.protected.entries c.in-Some.own.now
    (rw (← c.self.view_is) at c.requires.placed).distinct at in
    rw (← c.self.view_is, lookup-append (g.K.PartialEq.eq c.args.key) i.probation.entries i.protected.entries, off.1, at) refl

pub returns-then-is_expired-clause-state : goal.returns-then-is_expired-clause-state
returns-then-is_expired-clause-state g c =
    let i = c.self.inside in
    let placed = rw (← c.self.view_is) at c.requires.placed in
    let at : lookup (g.K.PartialEq.eq c.args.key) i.protected.entries ≡ Some c.in-Some.own.now = search rules in
    let off = above-protected g.K.PartialEq.eq
    (g.met.K.Eq g.world.𝓛 g.world.𝓜 g.world.𝓡 ((λ s x. x), (λ x. x), (λ x. x), λ x. x)).laws c.args.key
    i.window.entries i.probation.entries i.protected.entries c.in-Some.own.now placed.distinct at in
    let on : lookup (g.K.PartialEq.eq c.args.key) (i.probation.entries ++ i.protected.entries)
    ≡ Some c.in-Some.own.now = rw (
      lookup-append
          (g.K.PartialEq.eq c.args.key) i.probation.entries i.protected.entries,
      off.1,
      at,
    ) in
    let old : is_expired i.caps c.args.held.written c.in-Some.own.now ≡ true = sym c.is_expired.ensures ∙ c.if-is_expired.true in
    rw (← c.self.view_is) (on_ok c.settle_past.result
    (λ is. is ∙ past-in-lists g.K.PartialEq.eq
    (g.met.K.Eq g.world.𝓛 g.world.𝓜 g.world.𝓡 ((λ s x. x), (λ x. x), (λ x. x), λ x. x)).laws
    (g.met.K.CacheKey g.world.𝓛 g.world.𝓜 g.world.𝓡 ((λ s x. x), (λ x. x), (λ x. x), λ x. x)).same g.V.Weighs.measure
    (λ k. estimate_of c.args.sketch.now (g.K.CacheKey.word k)) c.args.held.written c.args.key c.args.held i.caps
    i.window.entries i.probation.entries i.protected.entries placed off.0 c.in-Some.own.now on old)
    (rw (← c.self.view_is) at c.settle_past.ensures.state))

pub returns-then-is_expired-clause-notices : goal.returns-then-is_expired-clause-notices
returns-then-is_expired-clause-notices g c =
    let i = c.self.inside in
    let placed = rw (← c.self.view_is) at c.requires.placed in
    let at : lookup (g.K.PartialEq.eq c.args.key) i.protected.entries ≡ Some c.in-Some.own.now = search rules in
    let off = above-protected g.K.PartialEq.eq
    (g.met.K.Eq g.world.𝓛 g.world.𝓜 g.world.𝓡 ((λ s x. x), (λ x. x), (λ x. x), λ x. x)).laws c.args.key
    i.window.entries i.probation.entries i.protected.entries c.in-Some.own.now placed.distinct at in
    let on : lookup (g.K.PartialEq.eq c.args.key) (i.probation.entries ++ i.protected.entries)
    ≡ Some c.in-Some.own.now = rw (
      lookup-append
          (g.K.PartialEq.eq c.args.key) i.probation.entries i.protected.entries,
      off.1,
      at,
    ) in
    let old : is_expired i.caps c.args.held.written c.in-Some.own.now ≡ true = sym c.is_expired.ensures ∙ c.if-is_expired.true in
    rw (← c.self.view_is) (on_ok c.settle_past.result
    (λ is. is ∙ (ap (λ (ns : List (Notice g.row.K.Denot g.row.V.Denot)). appended ns c.args.notices.now)
    (past-in-told g.K.PartialEq.eq (g.met.K.Eq g.world.𝓛 g.world.𝓜 g.world.𝓡
    ((λ s x. x), (λ x. x), (λ x. x), λ x. x)).laws
    (g.met.K.CacheKey g.world.𝓛 g.world.𝓜 g.world.𝓡 ((λ s x. x), (λ x. x), (λ x. x), λ x. x)).same g.V.Weighs.measure
    (λ k. estimate_of c.args.sketch.now (g.K.CacheKey.word k)) c.args.held.written c.args.key c.args.held i.caps
    i.window.entries i.probation.entries i.protected.entries placed off.0 c.in-Some.own.now on old)))
    (rw (← c.self.view_is) at c.settle_past.ensures.notices))

pub returns-in-Some-clause-state : goal.returns-in-Some-clause-state
returns-in-Some-clause-state g c =
    let i = c.self.inside in
    let placed = rw (← c.self.view_is) at c.requires.placed in
    let at : lookup (g.K.PartialEq.eq c.args.key) i.protected.entries ≡ Some c.in-Some.own.now = search rules in
    let off = above-protected g.K.PartialEq.eq
    (g.met.K.Eq g.world.𝓛 g.world.𝓜 g.world.𝓡 ((λ s x. x), (λ x. x), (λ x. x), λ x. x)).laws c.args.key
    i.window.entries i.probation.entries i.protected.entries c.in-Some.own.now placed.distinct at in
    let fresh : is_expired i.caps c.args.held.written c.in-Some.own.now ≡ false = sym c.is_expired.ensures ∙ c.if-is_expired.false in
    rw (c.replace_in-old.ensures.state, ← c.self.view_is)
    (protected-lists g.K.PartialEq.eq
    (g.met.K.Eq g.world.𝓛 g.world.𝓜 g.world.𝓡 ((λ s x. x), (λ x. x), (λ x. x), λ x. x)).laws
    (g.met.K.CacheKey g.world.𝓛 g.world.𝓜 g.world.𝓡 ((λ s x. x), (λ x. x), (λ x. x), λ x. x)).same g.V.Weighs.measure
    (λ k. estimate_of c.args.sketch.now (g.K.CacheKey.word k)) c.args.held.written c.args.key c.args.held i.caps
    i.window.entries i.probation.entries i.protected.entries placed off.0 off.1 c.in-Some.own.now at fresh)

pub returns-in-Some-clause-notices : goal.returns-in-Some-clause-notices
returns-in-Some-clause-notices g c =
    let i = c.self.inside in
    let placed = rw (← c.self.view_is) at c.requires.placed in
    let at : lookup (g.K.PartialEq.eq c.args.key) i.protected.entries ≡ Some c.in-Some.own.now = search rules in
    let off = above-protected g.K.PartialEq.eq
    (g.met.K.Eq g.world.𝓛 g.world.𝓜 g.world.𝓡 ((λ s x. x), (λ x. x), (λ x. x), λ x. x)).laws c.args.key
    i.window.entries i.probation.entries i.protected.entries c.in-Some.own.now placed.distinct at in
    let fresh : is_expired i.caps c.args.held.written c.in-Some.own.now ≡ false = sym c.is_expired.ensures ∙ c.if-is_expired.false in
    rw (c.tell_held.ensures.notices, c.replace_in-old.ensures.old, at, ← c.self.view_is)
    (ap (λ (ns : List (Notice g.row.K.Denot g.row.V.Denot)). appended ns c.args.notices.now)
    (protected-told g.K.PartialEq.eq
    (g.met.K.Eq g.world.𝓛 g.world.𝓜 g.world.𝓡 ((λ s x. x), (λ x. x), (λ x. x), λ x. x)).laws
    (g.met.K.CacheKey g.world.𝓛 g.world.𝓜 g.world.𝓡 ((λ s x. x), (λ x. x), (λ x. x), λ x. x)).same g.V.Weighs.measure
    (λ k. estimate_of c.args.sketch.now (g.K.CacheKey.word k)) c.args.held.written c.args.key c.args.held i.caps
    i.window.entries i.probation.entries i.protected.entries placed off.0 off.1 c.in-Some.own.now at fresh))

pub returns-in-Some-clause-weight : goal.returns-in-Some-clause-weight
returns-in-Some-clause-weight g c =
    let i = c.self.inside in
    let placed = rw (← c.self.view_is) at c.requires.placed in
    let at : lookup (g.K.PartialEq.eq c.args.key) i.protected.entries ≡ Some c.in-Some.own.now = search rules in
    let off = above-protected g.K.PartialEq.eq
    (g.met.K.Eq g.world.𝓛 g.world.𝓜 g.world.𝓡 ((λ s x. x), (λ x. x), (λ x. x), λ x. x)).laws c.args.key
    i.window.entries i.probation.entries i.protected.entries c.in-Some.own.now placed.distinct at in
    rw (c.tell_held.ensures.weight, c.replace_in-old.ensures.old, c.replace_in-old.ensures.state, at, ← c.self.view_is)
    (protected-weight g.K.PartialEq.eq
    (g.met.K.Eq g.world.𝓛 g.world.𝓜 g.world.𝓡 ((λ s x. x), (λ x. x), (λ x. x), λ x. x)).laws
    (g.met.K.CacheKey g.world.𝓛 g.world.𝓜 g.world.𝓡 ((λ s x. x), (λ x. x), (λ x. x), λ x. x)).same g.V.Weighs.measure
    (λ k. estimate_of c.args.sketch.now (g.K.CacheKey.word k)) c.args.held.written c.args.key c.args.held i.caps
    i.window.entries i.probation.entries i.protected.entries placed off.0 off.1 c.in-Some.own.now at)

pub settle_past-requires-then-is_expired-2-clause-there : goal.settle_past-requires-then-is_expired-2-clause-there
settle_past-requires-then-is_expired-2-clause-there g c κs within =
    let i = c.self.inside in
    let at : lookup (g.K.PartialEq.eq c.args.key) i.probation.entries ≡ Some c.in-Some-held_in.own.now = search rules in
    rw (← c.self.view_is, lookup-append (g.K.PartialEq.eq c.args.key) i.probation.entries i.protected.entries, at) refl

pub returns-then-is_expired-2-clause-state : goal.returns-then-is_expired-2-clause-state
returns-then-is_expired-2-clause-state g c =
    let i = c.self.inside in
    let placed = rw (← c.self.view_is) at c.requires.placed in
    let at : lookup (g.K.PartialEq.eq c.args.key) i.probation.entries ≡ Some c.in-Some-held_in.own.now = search rules in
    let nw = above-probation g.K.PartialEq.eq
    (g.met.K.Eq g.world.𝓛 g.world.𝓜 g.world.𝓡 ((λ s x. x), (λ x. x), (λ x. x), λ x. x)).laws c.args.key
    i.window.entries i.probation.entries i.protected.entries c.in-Some-held_in.own.now placed.distinct at in
    let on : lookup (g.K.PartialEq.eq c.args.key) (i.probation.entries ++ i.protected.entries)
    ≡ Some c.in-Some-held_in.own.now =
    rw (lookup-append (g.K.PartialEq.eq c.args.key) i.probation.entries i.protected.entries, at) in
    let old : is_expired i.caps c.args.held.written c.in-Some-held_in.own.now ≡ true =
    sym c.is_expired-in-Some-held_in.ensures ∙ c.if-is_expired-2.true in
    rw (← c.self.view_is) (on_ok c.settle_past-then-is_expired-2.result
    (λ is. is ∙ past-in-lists g.K.PartialEq.eq
    (g.met.K.Eq g.world.𝓛 g.world.𝓜 g.world.𝓡 ((λ s x. x), (λ x. x), (λ x. x), λ x. x)).laws
    (g.met.K.CacheKey g.world.𝓛 g.world.𝓜 g.world.𝓡 ((λ s x. x), (λ x. x), (λ x. x), λ x. x)).same g.V.Weighs.measure
    (λ k. estimate_of c.args.sketch.now (g.K.CacheKey.word k)) c.args.held.written c.args.key c.args.held i.caps
    i.window.entries i.probation.entries i.protected.entries placed nw c.in-Some-held_in.own.now on old)
    (rw (← c.self.view_is) at c.settle_past-then-is_expired-2.ensures.state))

pub returns-then-is_expired-2-clause-notices : goal.returns-then-is_expired-2-clause-notices
returns-then-is_expired-2-clause-notices g c =
    let i = c.self.inside in
    let placed = rw (← c.self.view_is) at c.requires.placed in
    let at : lookup (g.K.PartialEq.eq c.args.key) i.probation.entries ≡ Some c.in-Some-held_in.own.now = search rules in
    let nw = above-probation g.K.PartialEq.eq
    (g.met.K.Eq g.world.𝓛 g.world.𝓜 g.world.𝓡 ((λ s x. x), (λ x. x), (λ x. x), λ x. x)).laws c.args.key
    i.window.entries i.probation.entries i.protected.entries c.in-Some-held_in.own.now placed.distinct at in
    let on : lookup (g.K.PartialEq.eq c.args.key) (i.probation.entries ++ i.protected.entries)
    ≡ Some c.in-Some-held_in.own.now =
    rw (lookup-append (g.K.PartialEq.eq c.args.key) i.probation.entries i.protected.entries, at) in
    let old : is_expired i.caps c.args.held.written c.in-Some-held_in.own.now ≡ true =
    sym c.is_expired-in-Some-held_in.ensures ∙ c.if-is_expired-2.true in
    rw (← c.self.view_is) (on_ok c.settle_past-then-is_expired-2.result
    (λ is. is ∙ (ap (λ (ns : List (Notice g.row.K.Denot g.row.V.Denot)). appended ns c.args.notices.now)
    (past-in-told g.K.PartialEq.eq (g.met.K.Eq g.world.𝓛 g.world.𝓜 g.world.𝓡
    ((λ s x. x), (λ x. x), (λ x. x), λ x. x)).laws
    (g.met.K.CacheKey g.world.𝓛 g.world.𝓜 g.world.𝓡 ((λ s x. x), (λ x. x), (λ x. x), λ x. x)).same g.V.Weighs.measure
    (λ k. estimate_of c.args.sketch.now (g.K.CacheKey.word k)) c.args.held.written c.args.key c.args.held i.caps
    i.window.entries i.probation.entries i.protected.entries placed nw c.in-Some-held_in.own.now on old)))
    (rw (← c.self.view_is) at c.settle_past-then-is_expired-2.ensures.notices))

pub returns-in-Some-held_in-clause-state : goal.returns-in-Some-held_in-clause-state
returns-in-Some-held_in-clause-state g c =
    let i = c.self.inside in
    let placed = rw (← c.self.view_is) at c.requires.placed in
    let at : lookup (g.K.PartialEq.eq c.args.key) i.probation.entries ≡ Some c.in-Some-held_in.own.now = search rules in
    let nw = above-probation g.K.PartialEq.eq
    (g.met.K.Eq g.world.𝓛 g.world.𝓜 g.world.𝓡 ((λ s x. x), (λ x. x), (λ x. x), λ x. x)).laws c.args.key
    i.window.entries i.probation.entries i.protected.entries c.in-Some-held_in.own.now placed.distinct at in
    let fresh : is_expired i.caps c.args.held.written c.in-Some-held_in.own.now ≡ false =
    sym c.is_expired-in-Some-held_in.ensures ∙ c.if-is_expired-2.false in
    rw (c.in_ok-old.ensures.state, ← c.self.view_is)
    (probation-lists g.K.PartialEq.eq
    (g.met.K.Eq g.world.𝓛 g.world.𝓜 g.world.𝓡 ((λ s x. x), (λ x. x), (λ x. x), λ x. x)).laws
    (g.met.K.CacheKey g.world.𝓛 g.world.𝓜 g.world.𝓡 ((λ s x. x), (λ x. x), (λ x. x), λ x. x)).same g.V.Weighs.measure
    (λ k. estimate_of c.args.sketch.now (g.K.CacheKey.word k)) c.args.held.written c.args.key c.args.held i.caps
    i.window.entries i.probation.entries i.protected.entries placed nw c.in-Some-held_in.own.now at fresh)

pub returns-in-Some-held_in-clause-notices : goal.returns-in-Some-held_in-clause-notices
returns-in-Some-held_in-clause-notices g c =
    let i = c.self.inside in
    let placed = rw (← c.self.view_is) at c.requires.placed in
    let at : lookup (g.K.PartialEq.eq c.args.key) i.probation.entries ≡ Some c.in-Some-held_in.own.now = search rules in
    let nw = above-probation g.K.PartialEq.eq
    (g.met.K.Eq g.world.𝓛 g.world.𝓜 g.world.𝓡 ((λ s x. x), (λ x. x), (λ x. x), λ x. x)).laws c.args.key
    i.window.entries i.probation.entries i.protected.entries c.in-Some-held_in.own.now placed.distinct at in
    let fresh : is_expired i.caps c.args.held.written c.in-Some-held_in.own.now ≡ false =
    sym c.is_expired-in-Some-held_in.ensures ∙ c.if-is_expired-2.false in
    rw (c.tell_held-in-Some-held_in.ensures.notices, c.in_ok-old.ensures.held, ← c.self.view_is, at)
    (ap (λ (ns : List (Notice g.row.K.Denot g.row.V.Denot)). appended ns c.args.notices.now)
    (probation-told g.K.PartialEq.eq
    (g.met.K.Eq g.world.𝓛 g.world.𝓜 g.world.𝓡 ((λ s x. x), (λ x. x), (λ x. x), λ x. x)).laws
    (g.met.K.CacheKey g.world.𝓛 g.world.𝓜 g.world.𝓡 ((λ s x. x), (λ x. x), (λ x. x), λ x. x)).same g.V.Weighs.measure
    (λ k. estimate_of c.args.sketch.now (g.K.CacheKey.word k)) c.args.held.written c.args.key c.args.held i.caps
    i.window.entries i.probation.entries i.protected.entries placed nw c.in-Some-held_in.own.now at fresh))

pub returns-in-Some-held_in-clause-weight : goal.returns-in-Some-held_in-clause-weight
returns-in-Some-held_in-clause-weight g c =
    let i = c.self.inside in
    let placed = rw (← c.self.view_is) at c.requires.placed in
    let at : lookup (g.K.PartialEq.eq c.args.key) i.probation.entries ≡ Some c.in-Some-held_in.own.now = search rules in
    let nw = above-probation g.K.PartialEq.eq
    (g.met.K.Eq g.world.𝓛 g.world.𝓜 g.world.𝓡 ((λ s x. x), (λ x. x), (λ x. x), λ x. x)).laws c.args.key
    i.window.entries i.probation.entries i.protected.entries c.in-Some-held_in.own.now placed.distinct at in
    rw (
      c.tell_held-in-Some-held_in.ensures.weight,
      c.in_ok-old.ensures.held,
      c.in_ok-old.ensures.state,
      ← c.self.view_is,
      at,
    ) (probation-weight g.K.PartialEq.eq
    (g.met.K.Eq g.world.𝓛 g.world.𝓜 g.world.𝓡 ((λ s x. x), (λ x. x), (λ x. x), λ x. x)).laws
    (g.met.K.CacheKey g.world.𝓛 g.world.𝓜 g.world.𝓡 ((λ s x. x), (λ x. x), (λ x. x), λ x. x)).same g.V.Weighs.measure
    (λ k. estimate_of c.args.sketch.now (g.K.CacheKey.word k)) c.args.held.written c.args.key c.args.held i.caps
    i.window.entries i.probation.entries i.protected.entries placed nw c.in-Some-held_in.own.now at)

pub returns-in-Some-peek-clause-state : goal.returns-in-Some-peek-clause-state
returns-in-Some-peek-clause-state g c =
    let i = c.self.inside in
    let placed = rw (← c.self.view_is) at c.requires.placed in
    let at : lookup (g.K.PartialEq.eq c.args.key) i.window.entries ≡ Some c.in-Some-peek.own.now = search rules in
    rw (c.replace_in-old-in-Some-peek.ensures.state, ← c.self.view_is)
    (window-lists g.K.PartialEq.eq (g.met.K.Eq g.world.𝓛 g.world.𝓜 g.world.𝓡
    ((λ s x. x), (λ x. x), (λ x. x), λ x. x)).laws
    (g.met.K.CacheKey g.world.𝓛 g.world.𝓜 g.world.𝓡 ((λ s x. x), (λ x. x), (λ x. x), λ x. x)).same g.V.Weighs.measure
    (λ k. estimate_of c.args.sketch.now (g.K.CacheKey.word k)) c.args.held.written c.args.key c.args.held i.caps
    i.window.entries i.probation.entries i.protected.entries placed c.in-Some-peek.own.now at)

pub returns-in-Some-peek-clause-notices : goal.returns-in-Some-peek-clause-notices
returns-in-Some-peek-clause-notices g c =
    let i = c.self.inside in
    let placed = rw (← c.self.view_is) at c.requires.placed in
    let at : lookup (g.K.PartialEq.eq c.args.key) i.window.entries ≡ Some c.in-Some-peek.own.now = search rules in
    rw (
      c.tell_held-in-Some-peek.ensures.notices,
      c.replace_in-old-in-Some-peek.ensures.old,
      at,
      c.cause_of-cause.ensures,
      ← c.self.view_is,
    )
    (ap (λ (ns : List (Notice g.row.K.Denot g.row.V.Denot)). appended ns c.args.notices.now)
    (window-told g.K.PartialEq.eq (g.met.K.Eq g.world.𝓛 g.world.𝓜 g.world.𝓡
    ((λ s x. x), (λ x. x), (λ x. x), λ x. x)).laws
    (g.met.K.CacheKey g.world.𝓛 g.world.𝓜 g.world.𝓡 ((λ s x. x), (λ x. x), (λ x. x), λ x. x)).same g.V.Weighs.measure
    (λ k. estimate_of c.args.sketch.now (g.K.CacheKey.word k)) c.args.held.written c.args.key c.args.held i.caps
    i.window.entries i.probation.entries i.protected.entries placed c.in-Some-peek.own.now at))

pub returns-in-Some-peek-clause-weight : goal.returns-in-Some-peek-clause-weight
returns-in-Some-peek-clause-weight g c =
    let i = c.self.inside in
    let placed = rw (← c.self.view_is) at c.requires.placed in
    let at : lookup (g.K.PartialEq.eq c.args.key) i.window.entries ≡ Some c.in-Some-peek.own.now = search rules in
    rw (
      c.tell_held-in-Some-peek.ensures.weight,
      c.replace_in-old-in-Some-peek.ensures.old,
      c.replace_in-old-in-Some-peek.ensures.state,
      at,
      ← c.self.view_is,
    )
    (window-weight g.K.PartialEq.eq
    (g.met.K.Eq g.world.𝓛 g.world.𝓜 g.world.𝓡 ((λ s x. x), (λ x. x), (λ x. x), λ x. x)).laws
    (g.met.K.CacheKey g.world.𝓛 g.world.𝓜 g.world.𝓡 ((λ s x. x), (λ x. x), (λ x. x), λ x. x)).same g.V.Weighs.measure
    (λ k. estimate_of c.args.sketch.now (g.K.CacheKey.word k)) c.args.held.written c.args.key c.args.held i.caps
    i.window.entries i.probation.entries i.protected.entries placed c.in-Some-peek.own.now at)

pub settle-requires-clause-elsewhere : goal.settle-requires-clause-elsewhere
settle-requires-clause-elsewhere g c κs within =
    let i = c.self.inside in
    let nw : lookup (g.K.PartialEq.eq c.args.key) i.window.entries ≡ None = search rules in
    let np : lookup (g.K.PartialEq.eq c.args.key) i.probation.entries ≡ None = search rules in
    let nq : lookup (g.K.PartialEq.eq c.args.key) i.protected.entries ≡ None = search rules in
    rw (
      ← c.self.view_is,
      lookup-append (g.K.PartialEq.eq c.args.key) i.window.entries
          (i.probation.entries ++ i.protected.entries),
      nw,
      lookup-append (g.K.PartialEq.eq c.args.key) i.probation.entries i.protected.entries,
      np,
      nq,
    ) refl

pub returns-clause-state : goal.returns-clause-state
returns-clause-state g c =
    let i = c.self.inside in
    let placed = rw (← c.self.view_is) at c.requires.placed in
    let nw : lookup (g.K.PartialEq.eq c.args.key) i.window.entries ≡ None = search rules in
    let np : lookup (g.K.PartialEq.eq c.args.key) i.probation.entries ≡ None = search rules in
    let nq : lookup (g.K.PartialEq.eq c.args.key) i.protected.entries ≡ None = search rules in
    rw (← c.self.view_is) (on_ok c.settle.result
    (λ is. is ∙ new-lists g.K.PartialEq.eq
    (g.met.K.Eq g.world.𝓛 g.world.𝓜 g.world.𝓡 ((λ s x. x), (λ x. x), (λ x. x), λ x. x)).laws
    (g.met.K.CacheKey g.world.𝓛 g.world.𝓜 g.world.𝓡 ((λ s x. x), (λ x. x), (λ x. x), λ x. x)).same g.V.Weighs.measure
    (λ k. estimate_of c.args.sketch.now (g.K.CacheKey.word k)) c.args.held.written c.args.key c.args.held i.caps
    i.window.entries i.probation.entries i.protected.entries placed nw np nq)
    (rw (← c.self.view_is) at c.settle.ensures.state))

pub returns-clause-notices : goal.returns-clause-notices
returns-clause-notices g c =
    let i = c.self.inside in
    let placed = rw (← c.self.view_is) at c.requires.placed in
    let nw : lookup (g.K.PartialEq.eq c.args.key) i.window.entries ≡ None = search rules in
    let np : lookup (g.K.PartialEq.eq c.args.key) i.probation.entries ≡ None = search rules in
    let nq : lookup (g.K.PartialEq.eq c.args.key) i.protected.entries ≡ None = search rules in
    rw (← c.self.view_is) (on_ok c.settle.result
    (λ is. is ∙ (ap (λ (ns : List (Notice g.row.K.Denot g.row.V.Denot)). appended ns c.args.notices.now)
    (new-told g.K.PartialEq.eq (g.met.K.Eq g.world.𝓛 g.world.𝓜 g.world.𝓡
    ((λ s x. x), (λ x. x), (λ x. x), λ x. x)).laws
    (g.met.K.CacheKey g.world.𝓛 g.world.𝓜 g.world.𝓡 ((λ s x. x), (λ x. x), (λ x. x), λ x. x)).same g.V.Weighs.measure
    (λ k. estimate_of c.args.sketch.now (g.K.CacheKey.word k)) c.args.held.written c.args.key c.args.held i.caps
    i.window.entries i.probation.entries i.protected.entries placed nw np nq)))
    (rw (← c.self.view_is) at c.settle.ensures.notices))

pub settle_past-requires-clause-elsewhere : goal.settle_past-requires-clause-elsewhere
settle_past-requires-clause-elsewhere g c κs within =
    let i = c.self.inside in
    let placed = rw (← c.self.view_is) at c.requires.placed in
    let at : lookup (g.K.PartialEq.eq c.args.key) i.protected.entries ≡ Some c.in-Some.own.now = search rules in
    let off = above-protected g.K.PartialEq.eq
    (g.met.K.Eq g.world.𝓛 g.world.𝓜 g.world.𝓡 ((λ s x. x), (λ x. x), (λ x. x), λ x. x)).laws c.args.key
    i.window.entries i.probation.entries i.protected.entries c.in-Some.own.now placed.distinct at in
    rw (← c.self.view_is) off.0

pub settle_past-requires-then-is_expired-2-clause-elsewhere : goal.settle_past-requires-then-is_expired-2-clause-elsewhere
settle_past-requires-then-is_expired-2-clause-elsewhere g c κs within =
    let i = c.self.inside in
    let placed = rw (← c.self.view_is) at c.requires.placed in
    let at : lookup (g.K.PartialEq.eq c.args.key) i.probation.entries ≡ Some c.in-Some-held_in.own.now = search rules in
    let off = above-probation g.K.PartialEq.eq
    (g.met.K.Eq g.world.𝓛 g.world.𝓜 g.world.𝓡 ((λ s x. x), (λ x. x), (λ x. x), λ x. x)).laws c.args.key
    i.window.entries i.probation.entries i.protected.entries c.in-Some-held_in.own.now placed.distinct at in
    rw (← c.self.view_is) off

pub promote-requires-clause-elsewhere : goal.promote-requires-clause-elsewhere
promote-requires-clause-elsewhere g c κs within =
    let i = c.self.inside in
    let placed = rw (← c.self.view_is) at c.requires.placed in
    let at : lookup (g.K.PartialEq.eq c.args.key) i.probation.entries ≡ Some c.in-Some-held_in.own.now = search rules in
    let off = above-probation g.K.PartialEq.eq
    (g.met.K.Eq g.world.𝓛 g.world.𝓜 g.world.𝓡 ((λ s x. x), (λ x. x), (λ x. x), λ x. x)).laws c.args.key
    i.window.entries i.probation.entries i.protected.entries c.in-Some-held_in.own.now placed.distinct at in
    rw (← c.self.view_is) off
