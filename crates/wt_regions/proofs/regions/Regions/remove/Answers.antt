use Rattle.std.proofs.Common.{arith, ◌≡◌, false, Some, None, sym, ◌∙◌}
use Rattle.wt_regions.specs.Lawful.{IsLawful}
use Rattle.wt_regions.proofs.Gone.{taken-some, taken-none}
use Rattle.wt_regions.specs.Lists.{held_for, lifeless, without}
use Rattle.wt_regions.proofs.regions.Regions.remove.Goals as goal

pub overflow_sub-self : goal.overflow_sub-self
overflow_sub-self g c =
    let r = c.self.inside.caches in
    let is : held_for g.K.PartialEq.eq c.args.key r ≡ Some c.in-Some.held = sym c.take_out.ensures.held ∙ c.in-Some.is in
    let t = taken-some g.K.PartialEq.eq
    (g.met.K.Eq g.world.𝓛 g.world.𝓜 g.world.𝓡 ((λ s x. x), (λ x. x), (λ x. x), λ x. x)).laws g.V.Weighs.measure
    c.args.key r.caps r.window r.probation r.protected c.self.invariant.0 c.in-Some.held is in
    omega (arith, t.1, c.self.invariant.1)

pub invariant_of-self : goal.invariant_of-self
invariant_of-self g c =
    let r = c.self.inside.caches in
    let is : held_for g.K.PartialEq.eq c.args.key r ≡ Some c.in-Some.held = sym c.take_out.ensures.held ∙ c.in-Some.is in
    let t = taken-some g.K.PartialEq.eq
    (g.met.K.Eq g.world.𝓛 g.world.𝓜 g.world.𝓡 ((λ s x. x), (λ x. x), (λ x. x), λ x. x)).laws g.V.Weighs.measure
    c.args.key r.caps r.window r.probation r.protected c.self.invariant.0 c.in-Some.held is in
    let lasting : c.self.inside.lives ≡ false → IsLawful g.K.PartialEq.eq (lifeless g.V.Weighs.measure) (without g.K.PartialEq.eq c.args.key r) =
    λ none. (taken-some g.K.PartialEq.eq
    (g.met.K.Eq g.world.𝓛 g.world.𝓜 g.world.𝓡 ((λ s x. x), (λ x. x), (λ x. x), λ x. x)).laws (lifeless g.V.Weighs.measure)
    c.args.key r.caps r.window r.probation r.protected (c.self.invariant.2 none) c.in-Some.held is).0 in
    rw c.take_out.ensures.state (t.0, omega (arith, t.1, c.self.invariant.1), lasting)

pub invariant_of-self-in-None : goal.invariant_of-self-in-None
invariant_of-self-in-None g c =
    let r = c.self.inside.caches in
    let is : held_for g.K.PartialEq.eq c.args.key r ≡ None = sym c.take_out.ensures.held ∙ c.in-None.is in
    let t = taken-none g.K.PartialEq.eq
    (g.met.K.Eq g.world.𝓛 g.world.𝓜 g.world.𝓡 ((λ s x. x), (λ x. x), (λ x. x), λ x. x)).laws g.V.Weighs.measure
    c.args.key r.caps r.window r.probation r.protected c.self.invariant.0 is in
    let lasting : c.self.inside.lives ≡ false → IsLawful g.K.PartialEq.eq (lifeless g.V.Weighs.measure) (without g.K.PartialEq.eq c.args.key r) =
    λ none. (taken-none g.K.PartialEq.eq
    (g.met.K.Eq g.world.𝓛 g.world.𝓜 g.world.𝓡 ((λ s x. x), (λ x. x), (λ x. x), λ x. x)).laws (lifeless g.V.Weighs.measure)
    c.args.key r.caps r.window r.probation r.protected (c.self.invariant.2 none) is).0 in
    rw c.take_out.ensures.state (t.0, c.self.invariant.1 ∙ sym t.1, lasting)
