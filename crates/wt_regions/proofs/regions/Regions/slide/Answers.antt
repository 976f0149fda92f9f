use Rattle.std.proofs.Common.{sym, ◌∙◌}
use Rattle.wt_regions.specs.Lists.{lifeless}
use Rattle.wt_regions.proofs.Slides.{slid-lawful, slid-moves}
use Rattle.wt_regions.proofs.regions.Regions.slide.Goals as goal

pub invariant_of-self-2 : goal.invariant_of-self-2
invariant_of-self-2 g c =
    let laws = (g.met.K.Eq g.world.𝓛 g.world.𝓜 g.world.𝓡 ((λ s x. x), (λ x. x), (λ x. x), λ x. x)).laws in
    let law = slid-lawful c.self.inside.caches g.K.PartialEq.eq laws g.V.Weighs.measure c.self.invariant.0 c.args.wider in
    rw c.in_ok-slide.ensures.state (
      law.0,
      c.self.invariant.1 ∙ sym law.1,
      λ none. (slid-lawful c.self.inside.caches g.K.PartialEq.eq laws (lifeless g.V.Weighs.measure) (c.self.invariant.2 none) c.args.wider).0,
    )

pub returns-clause-entries : goal.returns-clause-entries
returns-clause-entries g c =
    rw (← c.self.view_is, c.in_ok-slide.ensures.state) (slid-moves c.self.inside.caches c.args.wider)
