use Rattle.std.proofs.Common.{arith, sym, ◌∙◌}
use Rattle.wt_regions.specs.Lawful.{IsFit}
use Rattle.wt_regions.specs.Lists.{lifeless}
use Rattle.wt_regions.proofs.Fits.{fit_of}
use Rattle.wt_regions.proofs.Sound.{empty-lawful}
use Rattle.wt_regions.proofs.regions.Regions.new.Goals as goal

pub invariant_of-result : goal.invariant_of-result
invariant_of-result g c =
    let fit : IsFit c.args.caps.now = fit_of c.args.caps.now (sym c.fault.ensures ∙ c.in_default.is) in
    rw c.in_ok-caches.ensures (
      empty-lawful g.K.PartialEq.eq g.V.Weighs.measure c.args.caps.now fit,
      omega arith,
      λ _. empty-lawful g.K.PartialEq.eq (lifeless g.V.Weighs.measure) c.args.caps.now fit,
    )
