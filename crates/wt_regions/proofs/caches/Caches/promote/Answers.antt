use Rattle.std.proofs.Common.{rules, arith, ◌≡◌, ◌<◌, ◌≤◌, length, None, Some, refl}
use Rattle.lru.specs.LruCache.{last_entry}
use Rattle.wt_regions.proofs.Moves.{lookup_entry-none}
use Rattle.wt_regions.proofs.Apart.{there, there_same, apart_there, distinct_after, last_apart, none_at_last, no_last, promote-full, below, not_below}
use Rattle.wt_regions.specs.Lists.{protected_cap}
use Rattle.wt_regions.proofs.caches.Caches.promote.Goals as goal

pub push_new-requires-clause-fresh : goal.push_new-requires-clause-fresh
push_new-requires-clause-fresh g c κs within =
    let i = c.self.inside in
    let placed = rw (← c.self.view_is) at c.requires.placed in
    let on = rw (← c.self.view_is) at c.requires.there in
    apart_there g.K.PartialEq.eq (g.met.K.Eq g.world.𝓛 g.world.𝓜 g.world.𝓡
    ((λ s x. x), (λ x. x), (λ x. x), λ x. x)).laws c.args.key i.probation.entries i.protected.entries
    (distinct_after g.K.PartialEq.eq i.window.entries _ placed.distinct) on

pub push_new-requires-2-clause-fresh : goal.push_new-requires-2-clause-fresh
push_new-requires-2-clause-fresh g c κs within =
    let i = c.self.inside in
    let placed = rw (← c.self.view_is) at c.requires.placed in
    let last : last_entry i.protected.entries ≡ Some (c.in-Some.last_key.now, c.in-Some.last.now) = search rules in
    last_apart g.K.PartialEq.eq (g.met.K.Eq g.world.𝓛 g.world.𝓜 g.world.𝓡 ((λ s x. x), (λ x. x), (λ x. x), λ x. x)).laws
    i.probation.entries i.protected.entries (c.in-Some.last_key.now, c.in-Some.last.now)
    (distinct_after g.K.PartialEq.eq i.window.entries _ placed.distinct) last

pub push_past-requires-clause-fresh : goal.push_past-requires-clause-fresh
push_past-requires-clause-fresh g c κs within =
    let i = c.self.inside in
    let placed = rw (← c.self.view_is) at c.requires.placed in
    let on = rw (← c.self.view_is) at c.requires.there in
    apart_there g.K.PartialEq.eq (g.met.K.Eq g.world.𝓛 g.world.𝓜 g.world.𝓡
    ((λ s x. x), (λ x. x), (λ x. x), λ x. x)).laws c.args.key i.probation.entries i.protected.entries
    (distinct_after g.K.PartialEq.eq i.window.entries _ placed.distinct) on

pub returns-then-len-protected_cap-clause-state : goal.returns-then-len-protected_cap-clause-state
returns-then-len-protected_cap-clause-state g c =
    let i = c.self.inside in
    let off = rw (← c.self.view_is) at c.requires.elsewhere in
    let on = rw (← c.self.view_is) at c.requires.there in
    let e = there (g.K.PartialEq.eq c.args.key) i.probation.entries on in
    let room : length i.protected.entries < protected_cap i.caps =
    omega (arith, c.if-len-protected_cap.true, c.len.ensures.len, c.protected_cap.ensures) in
    let same = (g.met.K.CacheKey g.world.𝓛 g.world.𝓜 g.world.𝓡 ((λ s x. x), (λ x. x), (λ x. x), λ x. x)).same c.args.key
    e.0.0 (there_same (g.K.PartialEq.eq c.args.key) i.probation.entries e.0 e.1) in
    rw (
      ← c.self.view_is,
      lookup_entry-none (g.K.PartialEq.eq c.args.key) i.window.entries off,
      e.1,
      below (length i.protected.entries) (protected_cap i.caps) room,
      ← same,
      c.in_ok-push_new.ensures.state,
      c.pop.ensures.entries,
    ) refl

pub returns-in_default-clause-state : goal.returns-in_default-clause-state
returns-in_default-clause-state g c =
    let i = c.self.inside in
    let off = rw (← c.self.view_is) at c.requires.elsewhere in
    let on = rw (← c.self.view_is) at c.requires.there in
    let e = there (g.K.PartialEq.eq c.args.key) i.probation.entries on in
    let none : last_entry i.protected.entries ≡ None = search rules in
    let full : protected_cap i.caps ≤ length i.protected.entries =
    omega (arith, c.if-len-protected_cap.false, c.len.ensures.len, c.protected_cap.ensures) in
    rw (
      ← c.self.view_is,
      lookup_entry-none (g.K.PartialEq.eq c.args.key) i.window.entries off,
      c.replace_in.ensures.state,
      e.1,
      not_below (length i.protected.entries) (protected_cap i.caps) full,
      no_last i.protected.entries none,
    )

pub returns-clause-held : goal.returns-clause-held
returns-clause-held g c =
    let i = c.self.inside in
    let placed = rw (← c.self.view_is) at c.requires.placed in
    let on = rw (← c.self.view_is) at c.requires.there in
    let last : last_entry i.protected.entries ≡ Some (c.in-Some.last_key.now, c.in-Some.last.now) = search rules in
    let off = apart_there g.K.PartialEq.eq
    (g.met.K.Eq g.world.𝓛 g.world.𝓜 g.world.𝓡 ((λ s x. x), (λ x. x), (λ x. x), λ x. x)).laws c.args.key
    i.probation.entries i.protected.entries
    (distinct_after g.K.PartialEq.eq i.window.entries _ placed.distinct) on in
    let apart_key = none_at_last (g.K.PartialEq.eq c.args.key) i.protected.entries (c.in-Some.last_key.now, c.in-Some.last.now) off last in
    rw (← c.self.view_is, c.pop-2.ensures.value, c.in_ok-push_new-2.ensures.state, apart_key) refl

pub returns-clause-state : goal.returns-clause-state
returns-clause-state g c =
    let i = c.self.inside in
    let placed = rw (← c.self.view_is) at c.requires.placed in
    let off = rw (← c.self.view_is) at c.requires.elsewhere in
    let on = rw (← c.self.view_is) at c.requires.there in
    let e = there (g.K.PartialEq.eq c.args.key) i.probation.entries on in
    let full : protected_cap i.caps ≤ length i.protected.entries =
    omega (arith, c.if-len-protected_cap.false, c.len.ensures.len, c.protected_cap.ensures) in
    let last : last_entry i.protected.entries ≡ Some (c.in-Some.last_key.now, c.in-Some.last.now) = search rules in
    let below_off = apart_there g.K.PartialEq.eq
    (g.met.K.Eq g.world.𝓛 g.world.𝓜 g.world.𝓡 ((λ s x. x), (λ x. x), (λ x. x), λ x. x)).laws c.args.key
    i.probation.entries i.protected.entries
    (distinct_after g.K.PartialEq.eq i.window.entries _ placed.distinct) on in
    let apart_key = none_at_last (g.K.PartialEq.eq c.args.key) i.protected.entries
    (c.in-Some.last_key.now, c.in-Some.last.now) below_off last in
    let same = (g.met.K.CacheKey g.world.𝓛 g.world.𝓜 g.world.𝓡 ((λ s x. x), (λ x. x), (λ x. x), λ x. x)).same c.args.key
    e.0.0 (there_same (g.K.PartialEq.eq c.args.key) i.probation.entries e.0 e.1) in
    rw (
      ← c.self.view_is,
      lookup_entry-none (g.K.PartialEq.eq c.args.key) i.window.entries off,
      e.1,
      promote-full i.caps (e.0.0, c.args.moved) _ i.protected.entries
          (c.in-Some.last_key.now, c.in-Some.last.now) full last,
      ← same,
      c.pop-2.ensures.entries,
      c.in_ok-push_new-2.ensures.state,
      c.in_ok-back.ensures,
      apart_key,
    ) (search rules)
