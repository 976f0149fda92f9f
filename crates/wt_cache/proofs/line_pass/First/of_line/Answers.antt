use Rattle.wt_cache.proofs.Numbering.{begins}
use Rattle.wt_cache.proofs.line_pass.First.of_line.Goals as goal

pub ruled-requires-clause-rule : goal.ruled-requires-clause-rule
ruled-requires-clause-rule g c = begins
