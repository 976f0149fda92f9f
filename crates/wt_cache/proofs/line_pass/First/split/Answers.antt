use Rattle.wt_cache.proofs.Numbering.{forks}
use Rattle.wt_cache.proofs.line_pass.First.split.Goals as goal

pub another-pass-requires-clause-rule : goal.another-pass-requires-clause-rule
another-pass-requires-clause-rule g c = forks _ _
