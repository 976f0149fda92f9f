use Rattle.std.proofs.Common.{subst}
use Rattle.wt_sketch.proofs.Packed.{is_row}
use Rattle.wt_sketch.specs.Lawful.{IsLawful}
use Rattle.wt_sketch.proofs.sketch.Sketch.additions.Goals as goal

pub returns-clause-lawful : goal.returns-clause-lawful
returns-clause-lawful c =
    let kept = c.self.invariant in
    subst IsLawful c.self.view_is (record {
      range = kept.range;
      young = kept.young;
      in_0 = is_row _ _ _ kept.wide kept.in_0;
      in_1 = is_row _ _ _ kept.wide kept.in_1;
      in_2 = is_row _ _ _ kept.wide kept.in_2;
      in_3 = is_row _ _ _ kept.wide kept.in_3;
    })
