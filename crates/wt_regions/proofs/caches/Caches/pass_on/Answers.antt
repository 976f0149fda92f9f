use Rattle.std.proofs.Common.{rules, ◌≡◌, Some}
use Rattle.lru.specs.LruCache.{last_entry}
use Rattle.wt_regions.proofs.Apart.{last_apart}
use Rattle.wt_regions.proofs.Settled.{distinct_turned}
use Rattle.wt_regions.proofs.caches.Caches.pass_on.Goals as goal

pub push_new-requires-clause-fresh : goal.push_new-requires-clause-fresh
push_new-requires-clause-fresh g c κs within =
    let i = c.self.inside in
    let laws = (g.met.K.Eq g.world.𝓛 g.world.𝓜 g.world.𝓡 ((λ s x. x), (λ x. x), (λ x. x), λ x. x)).laws in
    let placed = rw (← c.self.view_is) at c.requires.full.placed in
    let last : last_entry i.window.entries ≡ Some (c.in-Some.last_key.now, c.in-Some.last.now) = search rules in
    last_apart g.K.PartialEq.eq laws i.probation.entries i.window.entries (c.in-Some.last_key.now, c.in-Some.last.now)
    (distinct_turned g.K.PartialEq.eq laws i.window.entries i.probation.entries i.protected.entries placed.distinct)
    last
