use Rattle.std.proofs.Common.{◌≡◌, Some, None, sym, ◌∙◌, rules}
use Rattle.std.specs.Map.{lookup}
use Rattle.wt_regions.proofs.Apart.{above-probation, above-protected}
use Rattle.wt_regions.proofs.Looks.{held-outside}
use Rattle.wt_regions.proofs.Moves.{lookup-append}
use Rattle.wt_regions.proofs.caches.Caches.find.Goals as goal

pub returns-in-Some : goal.returns-in-Some
returns-in-Some g c =
    let i = c.self.inside in
    let once = rw (← c.self.view_is) at c.requires in
    let at : lookup (g.K.PartialEq.eq c.args.key) i.protected.entries ≡ Some c.in-Some.held.now = search rules in
    let off = above-protected g.K.PartialEq.eq
    (g.met.K.Eq g.world.𝓛 g.world.𝓜 g.world.𝓡 ((λ s x. x), (λ x. x), (λ x. x), λ x. x)).laws c.args.key
    i.window.entries i.probation.entries i.protected.entries c.in-Some.held.now once at in
    simp (lookup-append, ← c.self.view_is) (rw (off.0, off.1, at))

pub returns-in-Some-held_in : goal.returns-in-Some-held_in
returns-in-Some-held_in g c =
    let i = c.self.inside in
    let once = rw (← c.self.view_is) at c.requires in
    let at : lookup (g.K.PartialEq.eq c.args.key) i.probation.entries ≡ Some c.in-Some-held_in.held.now = search rules in
    let off = above-probation g.K.PartialEq.eq
    (g.met.K.Eq g.world.𝓛 g.world.𝓜 g.world.𝓡 ((λ s x. x), (λ x. x), (λ x. x), λ x. x)).laws c.args.key
    i.window.entries i.probation.entries i.protected.entries c.in-Some-held_in.held.now once at in
    simp (lookup-append, ← c.self.view_is) (rw (off, at))

pub returns : goal.returns
returns g c =
    let i = c.self.inside in
    let np : lookup (g.K.PartialEq.eq c.args.key) i.probation.entries ≡ None = search rules in
    let nq : lookup (g.K.PartialEq.eq c.args.key) i.protected.entries ≡ None = search rules in
    rw (← c.self.view_is) (c.peek.ensures
    ∙ sym (held-outside g.K.PartialEq.eq c.args.key 0 i.caps i.window.entries i.probation.entries
    i.protected.entries np nq))
