use Rattle.std.proofs.Common.{sym, ◌∙◌}
use Rattle.wt_core.proofs.Ranges.{ranges}
use Rattle.wt_core.proofs.config.Config.check.Goals as goal

pub returns-in-None-clause-within : goal.returns-in-None-clause-within
returns-in-None-clause-within c = ranges c.args.self.now (sym c.fault.ensures ∙ c.in-None.is)
