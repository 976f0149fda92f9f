use Rattle.std.proofs.Common.{◌≡◌, Some, None, refl, sym, rules}
use Rattle.std.specs.Map.{lookup}
use Rattle.wt_regions.proofs.Looks.{copied-protected}
use Rattle.wt_regions.proofs.caches.Caches.use_protected.Goals as goal

pub returns-clause-found : goal.returns-clause-found
returns-clause-found g c =
    let i = c.self.inside in
    let once = (rw (← c.self.view_is) at c.requires.placed).distinct in
    let unaging = rw (← c.self.view_is) at c.requires.unaging in
    let lasting = rw (← c.self.view_is) at c.requires.lasting in
    let look = copied-protected g.K.PartialEq.eq
    (g.met.K.Eq g.world.𝓛 g.world.𝓜 g.world.𝓡 ((λ s x. x), (λ x. x), (λ x. x), λ x. x)).laws
    (g.met.K.CacheKey g.world.𝓛 g.world.𝓜 g.world.𝓡 ((λ s x. x), (λ x. x), (λ x. x), λ x. x)).same c.args.key
    c.args.now i.caps i.window.entries i.probation.entries i.protected.entries once unaging lasting c.in-Some.value
    (sym c.in-Some.ensures.answer) in
    rw (← c.self.view_is) look.0

pub returns-clause-state : goal.returns-clause-state
returns-clause-state g c =
    let i = c.self.inside in
    let once = (rw (← c.self.view_is) at c.requires.placed).distinct in
    let unaging = rw (← c.self.view_is) at c.requires.unaging in
    let lasting = rw (← c.self.view_is) at c.requires.lasting in
    let look = copied-protected g.K.PartialEq.eq
    (g.met.K.Eq g.world.𝓛 g.world.𝓜 g.world.𝓡 ((λ s x. x), (λ x. x), (λ x. x), λ x. x)).laws
    (g.met.K.CacheKey g.world.𝓛 g.world.𝓜 g.world.𝓡 ((λ s x. x), (λ x. x), (λ x. x), λ x. x)).same c.args.key
    c.args.now i.caps i.window.entries i.probation.entries i.protected.entries once unaging lasting c.in-Some.value
    (sym c.in-Some.ensures.answer) in
    λ there. rw (c.in-Some.ensures.state, ← c.self.view_is) (sym look.1)
