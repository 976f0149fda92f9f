use Rattle.wt_cache.proofs.Numbering.{pops}
use Rattle.wt_cache.proofs.line_pass.LinePass.pop.Goals as goal

pub pop_as-requires-clause-rule : goal.pop_as-requires-clause-rule
pop_as-requires-clause-rule g c = (pops _ _, λ items views h at. tt)
