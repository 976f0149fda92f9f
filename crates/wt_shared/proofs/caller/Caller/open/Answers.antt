use Rattle.wt_core.specs.State.{config_fault}
use Rattle.wt_core.specs.declared.sequential.Core.{Core}
use Rattle.wt_shared.specs.declared.caller.Caller.{Caller}
use Rattle.wt_shared.proofs.Refusals.{fails_none, fails_on}
use Rattle.wt_shared.proofs.caller.Caller.open.Goals as goal

pub returns-in-Err-of-clause-refusal : goal.returns-in-Err-of-clause-refusal
returns-in-Err-of-clause-refusal g c =
    fails_none (Core g.row.K.Denot g.row.V.Denot) (Caller g.row.K.Denot g.row.V.Denot)
    (config_fault c.args.config.now) c.in-Ok.core c.in-Ok.ensures.refusal

pub returns-in-Err-clause-refusal : goal.returns-in-Err-clause-refusal
returns-in-Err-clause-refusal g c =
    fails_on (Core g.row.K.Denot g.row.V.Denot) (Caller g.row.K.Denot g.row.V.Denot)
    (config_fault c.args.config.now) c.in-Err.fault c.in-Err.ensures.refusal
