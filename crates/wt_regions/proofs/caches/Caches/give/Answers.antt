use Rattle.std.proofs.Common.{arith, rules, ◌≡◌, ◌≤◌, length, suc, Some}
use Rattle.lru.specs.LruCache.{last_entry, lru_cache}
use Rattle.wt_regions.proofs.Apart.{distinct_after, last_apart}
use Rattle.wt_regions.proofs.Settled.{distinct-comm, distinct_turned}
use Rattle.wt_regions.proofs.Slides.{last-fresh, past-length}
use Rattle.wt_regions.specs.Lists.{protected_cap}
use Rattle.wt_regions.specs.Slide.{wider_caps, last_past, less_last}
use Rattle.wt_regions.proofs.caches.Caches.give.Goals as goal

pub push_new-requires-clause-fresh : goal.push_new-requires-clause-fresh
push_new-requires-clause-fresh g c κs within =
    let i = c.self.inside in
    let laws = (g.met.K.Eq g.world.𝓛 g.world.𝓜 g.world.𝓡 ((λ s x. x), (λ x. x), (λ x. x), λ x. x)).laws in
    let placed = rw (← c.self.view_is) at c.requires.placed in
    let last : last_entry i.probation.entries ≡ Some (c.in-Some.key.now, c.in-Some.last.now) = search rules in
    let turned = distinct_turned g.K.PartialEq.eq laws i.window.entries i.probation.entries i.protected.entries placed.distinct in
    rw c.resize.ensures
    (last_apart g.K.PartialEq.eq laws i.window.entries i.probation.entries (c.in-Some.key.now, c.in-Some.last.now)
    (distinct-comm g.K.PartialEq.eq laws g.V.Weighs.measure i.probation.entries i.window.entries turned) last)

pub move_past-requires-clause-fresh : goal.move_past-requires-clause-fresh
move_past-requires-clause-fresh g c κs within =
    let i = c.self.inside in
    let laws = (g.met.K.Eq g.world.𝓛 g.world.𝓜 g.world.𝓡 ((λ s x. x), (λ x. x), (λ x. x), λ x. x)).laws in
    let placed = rw (← c.self.view_is) at c.requires.placed in
    last-fresh g.K.PartialEq.eq laws i.probation.entries i.protected.entries
    (distinct_after g.K.PartialEq.eq i.window.entries _ placed.distinct)

pub resize-requires-3-clause-fits : goal.resize-requires-3-clause-fits
resize-requires-3-clause-fits g c κs within =
    let i = c.self.inside in
    let placed = rw (← c.self.view_is) at c.requires.placed in
    let wider : c.args.caps ≡ wider_caps i.caps = rw (← c.self.view_is) at c.requires.alike in
    let most : c.protected_cap-most.result ≡ protected_cap (wider_caps i.caps) = rw wider at c.protected_cap-most.ensures in
    let left : c.move_past.new.from ≡ lru_cache (less_last
    (last_past c.protected_cap-most.result (length i.protected.entries) i.protected.entries) i.protected.entries) i.protected.cap =
    search rules in
    let low : length i.protected.entries ≤ suc c.protected_cap-most.result = omega (arith, most, placed.protected) in
    rw left (past-length c.protected_cap-most.result i.protected.entries low)
