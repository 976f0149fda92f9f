use Rattle.std.proofs.Common.{◌≡◌, Some, None, refl, sym, ap, rules}
use Rattle.std.specs.Map.{lookup}
use Rattle.std.specs.Option.{option_map}
use Rattle.wt_regions.specs.declared.held.Held.{Held}
use Rattle.wt_regions.proofs.Looks.{copied-protected, copied-probation, copied-window, copied-nowhere}
use Rattle.wt_regions.proofs.caches.Caches.get_unprotected.Goals as goal

pub promote-requires-clause-placed : goal.promote-requires-clause-placed
promote-requires-clause-placed g c κs within = c.requires.placed

pub promote-requires-clause-elsewhere : goal.promote-requires-clause-elsewhere
promote-requires-clause-elsewhere g c κs within =
    let r = c.args.self.now in
    let once = c.requires.placed.distinct in
    let unaging = c.requires.unaging in
    let lasting = c.requires.lasting in
    let at : lookup (g.K.PartialEq.eq c.args.key) r.probation ≡ Some c.in-Some.held.now = search rules in
    let look = copied-probation g.K.PartialEq.eq
    (g.met.K.Eq g.world.𝓛 g.world.𝓜 g.world.𝓡 ((λ s x. x), (λ x. x), (λ x. x), λ x. x)).laws
    (g.met.K.CacheKey g.world.𝓛 g.world.𝓜 g.world.𝓡 ((λ s x. x), (λ x. x), (λ x. x), λ x. x)).same c.args.key
    c.args.now r.caps r.window r.probation r.protected once unaging lasting
    c.in-Some.held.now at in
    look.2

pub returns-in_err-promote-clause-miss_succeeds : goal.returns-in_err-promote-clause-miss_succeeds
returns-in_err-promote-clause-miss_succeeds g c =
    let r = c.args.self.now in
    let once = c.requires.placed.distinct in
    let unaging = c.requires.unaging in
    let lasting = c.requires.lasting in
    let at : lookup (g.K.PartialEq.eq c.args.key) r.probation ≡ Some c.in-Some.held.now = search rules in
    let look = copied-probation g.K.PartialEq.eq
    (g.met.K.Eq g.world.𝓛 g.world.𝓜 g.world.𝓡 ((λ s x. x), (λ x. x), (λ x. x), λ x. x)).laws
    (g.met.K.CacheKey g.world.𝓛 g.world.𝓜 g.world.𝓡 ((λ s x. x), (λ x. x), (λ x. x), λ x. x)).same c.args.key
    c.args.now r.caps r.window r.probation r.protected once unaging lasting
    c.in-Some.held.now at in
    λ miss. let never = rw look.0 at miss in cc

pub returns-in_err-promote-clause-hit_succeeds : goal.returns-in_err-promote-clause-hit_succeeds
returns-in_err-promote-clause-hit_succeeds g c =
    let r = c.args.self.now in
    let at : lookup (g.K.PartialEq.eq c.args.key) r.probation ≡ Some c.in-Some.held.now = search rules in
    λ outside. let never = outside in cc

pub returns-in_err-promote-clause-err : goal.returns-in_err-promote-clause-err
returns-in_err-promote-clause-err g c =
    let r = c.args.self.now in
    let still : c.promote.new.self ≡ c.args.self.now = rw (c.in_err-promote.ensures.err) refl in
    search rules

pub returns-in-Some-clause-found : goal.returns-in-Some-clause-found
returns-in-Some-clause-found g c =
    let r = c.args.self.now in
    let once = c.requires.placed.distinct in
    let unaging = c.requires.unaging in
    let lasting = c.requires.lasting in
    let at : lookup (g.K.PartialEq.eq c.args.key) r.probation ≡ Some c.in-Some.held.now = search rules in
    let look = copied-probation g.K.PartialEq.eq
    (g.met.K.Eq g.world.𝓛 g.world.𝓜 g.world.𝓡 ((λ s x. x), (λ x. x), (λ x. x), λ x. x)).laws
    (g.met.K.CacheKey g.world.𝓛 g.world.𝓜 g.world.𝓡 ((λ s x. x), (λ x. x), (λ x. x), λ x. x)).same c.args.key
    c.args.now r.caps r.window r.probation r.protected once unaging lasting
    c.in-Some.held.now at in
    rw (c.in_ok-value.ensures.answer) (sym look.0)

pub returns-in-Some-clause-state : goal.returns-in-Some-clause-state
returns-in-Some-clause-state g c =
    let r = c.args.self.now in
    let once = c.requires.placed.distinct in
    let unaging = c.requires.unaging in
    let lasting = c.requires.lasting in
    let at : lookup (g.K.PartialEq.eq c.args.key) r.probation ≡ Some c.in-Some.held.now = search rules in
    let look = copied-probation g.K.PartialEq.eq
    (g.met.K.Eq g.world.𝓛 g.world.𝓜 g.world.𝓡 ((λ s x. x), (λ x. x), (λ x. x), λ x. x)).laws
    (g.met.K.CacheKey g.world.𝓛 g.world.𝓜 g.world.𝓡 ((λ s x. x), (λ x. x), (λ x. x), λ x. x)).same c.args.key
    c.args.now r.caps r.window r.probation r.protected once unaging lasting
    c.in-Some.held.now at in
    rw (c.in_ok-promote.ensures.state, c.in_ok-moved.ensures.answer) (sym look.1)

pub returns-in-Some-use_in-clause-found : goal.returns-in-Some-use_in-clause-found
returns-in-Some-use_in-clause-found g c =
    let i = c.self.inside in
    let once = (rw (← c.self.view_is) at c.requires.placed).distinct in
    let unaging = rw (← c.self.view_is) at c.requires.unaging in
    let lasting = rw (← c.self.view_is) at c.requires.lasting in
    let look = copied-window g.K.PartialEq.eq
    (g.met.K.Eq g.world.𝓛 g.world.𝓜 g.world.𝓡 ((λ s x. x), (λ x. x), (λ x. x), λ x. x)).laws
    (g.met.K.CacheKey g.world.𝓛 g.world.𝓜 g.world.𝓡 ((λ s x. x), (λ x. x), (λ x. x), λ x. x)).same c.args.key
    c.args.now i.caps i.window.entries i.probation.entries i.protected.entries once unaging lasting c.in-Some-use_in.value
    (sym c.in-Some-use_in.ensures.answer) in
    rw (← c.self.view_is) (sym look.0)

pub returns-in-Some-use_in-clause-state : goal.returns-in-Some-use_in-clause-state
returns-in-Some-use_in-clause-state g c =
    let i = c.self.inside in
    let once = (rw (← c.self.view_is) at c.requires.placed).distinct in
    let unaging = rw (← c.self.view_is) at c.requires.unaging in
    let lasting = rw (← c.self.view_is) at c.requires.lasting in
    let look = copied-window g.K.PartialEq.eq
    (g.met.K.Eq g.world.𝓛 g.world.𝓜 g.world.𝓡 ((λ s x. x), (λ x. x), (λ x. x), λ x. x)).laws
    (g.met.K.CacheKey g.world.𝓛 g.world.𝓜 g.world.𝓡 ((λ s x. x), (λ x. x), (λ x. x), λ x. x)).same c.args.key
    c.args.now i.caps i.window.entries i.probation.entries i.protected.entries once unaging lasting c.in-Some-use_in.value
    (sym c.in-Some-use_in.ensures.answer) in
    rw (c.in-Some-use_in.ensures.state, ← c.self.view_is) (sym look.1)

pub returns-clause-found : goal.returns-clause-found
returns-clause-found g c =
    let i = c.self.inside in
    let once = (rw (← c.self.view_is) at c.requires.placed).distinct in
    let none : lookup (g.K.PartialEq.eq c.args.key) i.probation.entries ≡ None = search rules in
    let unprotected : lookup (g.K.PartialEq.eq c.args.key) i.protected.entries ≡ None = rw (← c.self.view_is) at c.requires.unprotected in
    let absent = sym (ap (option_map (λ (h : Held g.row.V.Denot). h.value)) unprotected) in
    let look = copied-nowhere g.K.PartialEq.eq
    (g.met.K.Eq g.world.𝓛 g.world.𝓜 g.world.𝓡 ((λ s x. x), (λ x. x), (λ x. x), λ x. x)).laws
    (g.met.K.CacheKey g.world.𝓛 g.world.𝓜 g.world.𝓡 ((λ s x. x), (λ x. x), (λ x. x), λ x. x)).same c.args.key
    c.args.now i.caps i.window.entries i.probation.entries i.protected.entries once
    c.in_default-use_in.ensures.answer none absent in
    rw (← c.self.view_is) (sym look.0)

pub returns-clause-state : goal.returns-clause-state
returns-clause-state g c =
    let i = c.self.inside in
    let once = (rw (← c.self.view_is) at c.requires.placed).distinct in
    let none : lookup (g.K.PartialEq.eq c.args.key) i.probation.entries ≡ None = search rules in
    let unprotected : lookup (g.K.PartialEq.eq c.args.key) i.protected.entries ≡ None = rw (← c.self.view_is) at c.requires.unprotected in
    let absent = sym (ap (option_map (λ (h : Held g.row.V.Denot). h.value)) unprotected) in
    let still : c.use_in.new.cache ≡ i.window = c.in_default-use_in.ensures.missed refl in
    let look = copied-nowhere g.K.PartialEq.eq
    (g.met.K.Eq g.world.𝓛 g.world.𝓜 g.world.𝓡 ((λ s x. x), (λ x. x), (λ x. x), λ x. x)).laws
    (g.met.K.CacheKey g.world.𝓛 g.world.𝓜 g.world.𝓡 ((λ s x. x), (λ x. x), (λ x. x), λ x. x)).same c.args.key
    c.args.now i.caps i.window.entries i.probation.entries i.protected.entries once
    c.in_default-use_in.ensures.answer none absent in
    rw (still, ← c.self.view_is) (sym look.1)
