use Rattle.std.proofs.Common.{◌≡◌, Some, false, sym, ◌∙◌, rules}
use Rattle.std.specs.Map.{lookup}
use Rattle.wt_regions.specs.Lists.{is_expired}
use Rattle.wt_regions.specs.Moves.{in_caches}
use Rattle.wt_regions.proofs.Apart.{above-probation, above-protected}
use Rattle.wt_regions.proofs.Looks.{hit-of, held-window, held-probation, held-protected}
use Rattle.wt_regions.proofs.caches.Caches.look.Goals as goal

pub returns-in_err-share-clause-miss_succeeds : goal.returns-in_err-share-clause-miss_succeeds
returns-in_err-share-clause-miss_succeeds g c = λ miss.
    let i = c.self.inside in
    let missed = rw (← c.self.view_is) at miss in
    let once = rw (← c.self.view_is) at c.requires in
    let at : lookup (g.K.PartialEq.eq c.args.key) i.protected.entries ≡ Some c.in-Some.held.now = search rules in
    let fresh : is_expired i.caps c.args.now c.in-Some.held.now ≡ false = sym c.is_expired.ensures ∙ c.if-is_expired.false in
    let off = above-protected g.K.PartialEq.eq
    (g.met.K.Eq g.world.𝓛 g.world.𝓜 g.world.𝓡 ((λ s x. x), (λ x. x), (λ x. x), λ x. x)).laws c.args.key
    i.window.entries i.probation.entries i.protected.entries c.in-Some.held.now once at in
    let hit = hit-of g.K.PartialEq.eq c.args.key c.args.now (in_caches i.caps i.window i.probation i.protected) c.in-Some.held.now
    (held-protected g.K.PartialEq.eq c.args.key c.args.now i.caps i.window.entries i.probation.entries
    i.protected.entries c.in-Some.held.now off.0 off.1 at) fresh in
    let never = sym hit ∙ missed in cc

pub returns-in_err-value-clause-miss_succeeds : goal.returns-in_err-value-clause-miss_succeeds
returns-in_err-value-clause-miss_succeeds g c = λ miss.
    let i = c.self.inside in
    let missed = rw (← c.self.view_is) at miss in
    let once = rw (← c.self.view_is) at c.requires in
    let at : lookup (g.K.PartialEq.eq c.args.key) i.probation.entries ≡ Some c.in-Some-held_in.held.now = search rules in
    let fresh : is_expired i.caps c.args.now c.in-Some-held_in.held.now ≡ false =
    sym c.is_expired-in-Some-held_in.ensures ∙ c.if-is_expired-2.false in
    let off = above-probation g.K.PartialEq.eq
    (g.met.K.Eq g.world.𝓛 g.world.𝓜 g.world.𝓡 ((λ s x. x), (λ x. x), (λ x. x), λ x. x)).laws c.args.key
    i.window.entries i.probation.entries i.protected.entries c.in-Some-held_in.held.now once at in
    let hit = hit-of g.K.PartialEq.eq c.args.key c.args.now (in_caches i.caps i.window i.probation i.protected) c.in-Some-held_in.held.now
    (held-probation g.K.PartialEq.eq c.args.key c.args.now i.caps i.window.entries i.probation.entries
    i.protected.entries c.in-Some-held_in.held.now off at) fresh in
    let never = sym hit ∙ missed in cc

pub returns-in_err-share_used-clause-miss_succeeds : goal.returns-in_err-share_used-clause-miss_succeeds
returns-in_err-share_used-clause-miss_succeeds g c = λ miss.
    let i = c.self.inside in
    let missed = rw (← c.self.view_is) at miss in
    let once = rw (← c.self.view_is) at c.requires in
    let at : lookup (g.K.PartialEq.eq c.args.key) i.probation.entries ≡ Some c.in-Some-held_in.held.now = search rules in
    let fresh : is_expired i.caps c.args.now c.in-Some-held_in.held.now ≡ false =
    sym c.is_expired-in-Some-held_in.ensures ∙ c.if-is_expired-2.false in
    let off = above-probation g.K.PartialEq.eq
    (g.met.K.Eq g.world.𝓛 g.world.𝓜 g.world.𝓡 ((λ s x. x), (λ x. x), (λ x. x), λ x. x)).laws c.args.key
    i.window.entries i.probation.entries i.protected.entries c.in-Some-held_in.held.now once at in
    let hit = hit-of g.K.PartialEq.eq c.args.key c.args.now (in_caches i.caps i.window i.probation i.protected) c.in-Some-held_in.held.now
    (held-probation g.K.PartialEq.eq c.args.key c.args.now i.caps i.window.entries i.probation.entries
    i.protected.entries c.in-Some-held_in.held.now off at) fresh in
    let never = sym hit ∙ missed in cc

pub returns-in_err-share-2-clause-miss_succeeds : goal.returns-in_err-share-2-clause-miss_succeeds
returns-in_err-share-2-clause-miss_succeeds g c = λ miss.
    let i = c.self.inside in
    let missed = rw (← c.self.view_is) at miss in
    let at : lookup (g.K.PartialEq.eq c.args.key) i.window.entries ≡ Some c.in-Some-peek.held.now = search rules in
    let fresh : is_expired i.caps c.args.now c.in-Some-peek.held.now ≡ false = sym c.is_expired-in-Some-peek.ensures
    ∙ c.if-is_expired-3.false in
    let hit = hit-of g.K.PartialEq.eq c.args.key c.args.now (in_caches i.caps i.window i.probation i.protected) c.in-Some-peek.held.now
    (held-window g.K.PartialEq.eq c.args.key c.args.now i.caps i.window.entries i.probation.entries i.protected.entries
    c.in-Some-peek.held.now at) fresh in
    let never = sym hit ∙ missed in cc
