use Rattle.std.proofs.Common.{arith, ◌≡◌, false, ◌≤◌}
use Rattle.wt_regions.specs.Lawful.{IsLawful}
use Rattle.wt_regions.proofs.Gone.{cleaned-lawful}
use Rattle.wt_regions.specs.Lists.{lifeless, weight_of}
use Rattle.wt_regions.specs.Steps.{cleaned}
use Rattle.wt_regions.proofs.regions.Regions.clean.Goals as goal

pub invariant_of-self : goal.invariant_of-self
invariant_of-self g c =
    let r = c.self.inside.caches in
    let weight = rw c.clean-self-inside.ensures.state at c.clean-self-inside.ensures.weight in
    let less : weight_of (cleaned c.args.now r).0 ≤ weight_of r =
    omega (arith, weight, c.clean-self-inside.ensures.lighter, c.self.invariant.1) in
    let law = cleaned-lawful g.K.PartialEq.eq
    (g.met.K.Eq g.world.𝓛 g.world.𝓜 g.world.𝓡 ((λ s x. x), (λ x. x), (λ x. x), λ x. x)).laws g.V.Weighs.measure
    c.args.now r.caps r.window r.probation r.protected c.self.invariant.0 less in
    let lasting : c.self.inside.lives ≡ false → IsLawful g.K.PartialEq.eq (lifeless g.V.Weighs.measure) (cleaned c.args.now r).0 =
    λ none. cleaned-lawful g.K.PartialEq.eq
    (g.met.K.Eq g.world.𝓛 g.world.𝓜 g.world.𝓡 ((λ s x. x), (λ x. x), (λ x. x), λ x. x)).laws (lifeless g.V.Weighs.measure)
    c.args.now r.caps r.window r.probation r.protected (c.self.invariant.2 none) less in
    rw c.clean-self-inside.ensures.state (law, weight, lasting)
