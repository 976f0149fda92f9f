use Rattle.wt_cache.proofs.Numbering.{pushes}
use Rattle.wt_cache.proofs.line_pass.LinePass.push.Goals as goal

pub push_as-requires-clause-rule : goal.push_as-requires-clause-rule
push_as-requires-clause-rule g c = (pushes _ _ _ _, λ items views h at. tt)
