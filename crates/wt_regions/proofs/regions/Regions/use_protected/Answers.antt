use Rattle.std.proofs.Common.{sym, ◌∙◌, refl}
use Rattle.wt_regions.specs.Lists.{lifeless}
use Rattle.wt_regions.proofs.Looks.{looked-kept}
use Rattle.wt_regions.proofs.regions.Regions.use_protected.Goals as goal

pub invariant_of-self-2 : goal.invariant_of-self-2
invariant_of-self-2 g c =
    let laws = (g.met.K.Eq g.world.𝓛 g.world.𝓜 g.world.𝓡 ((λ s x. x), (λ x. x), (λ x. x), λ x. x)).laws in
    let r = c.self.inside.caches in
    let law = looked-kept g.K.PartialEq.eq laws g.V.Weighs.measure c.args.key c.args.now r c.self.invariant.0 in
    rw (c.in-Some.ensures.state refl) (
      law.0,
      c.self.invariant.1 ∙ sym law.1,
      λ none. (looked-kept g.K.PartialEq.eq laws (lifeless g.V.Weighs.measure) c.args.key c.args.now r (c.self.invariant.2 none)).0,
    )
