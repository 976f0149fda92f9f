use Rattle.std.proofs.Common.{rules, ◌≡◌}
use Rattle.wt_core.specs.State.{config_fault}
use Rattle.wt_shards.specs.Opening.{layout_fault}
use Rattle.rookdresser.proofs.service.check.Goals as goal

pub returns-clause-refusal : goal.returns-clause-refusal
returns-clause-refusal c =
    let allowed : layout_fault c.args.shards c.args.config.now ≡ config_fault c.args.config.now = search rules in
    rw allowed c.check.ensures.refusal
