use Rattle.wt_core.specs.State.{config_fault}
use Rattle.wt_core.specs.declared.sequential.Core.{Core}
use Rattle.wt_ffi.specs.declared.token.Timed.{Timed}
use Rattle.wt_ffi.specs.declared.cached.Cached.{Cached}
use Rattle.wt_ffi.proofs.Refusals.{passed-on, made-none, made-on}
use Rattle.wt_ffi.proofs.setup.cached.Goals as goal

pub returns-in-Err-clause-refusal : goal.returns-in-Err-clause-refusal
returns-in-Err-clause-refusal g c =
    passed-on (Core g.row.K.Denot Timed) (Cached g.row.K.Denot)
    (config_fault c.args.config.now) c.in-Err.fault c.in-Err.ensures.refusal

pub returns-in-Ok-new-clause-lawful : goal.returns-in-Ok-new-clause-lawful
returns-in-Ok-new-clause-lawful g c =
    λ _. made-none (Core g.row.K.Denot Timed)
    (config_fault c.args.config.now) c.in-Ok.core c.in-Ok.ensures.refusal

pub returns-in-Ok-new-clause-refusal : goal.returns-in-Ok-new-clause-refusal
returns-in-Ok-new-clause-refusal g c =
    made-on (Core g.row.K.Denot Timed) (Cached g.row.K.Denot) (config_fault c.args.config.now) c.in-Ok.core _ c.in-Ok.ensures.refusal
