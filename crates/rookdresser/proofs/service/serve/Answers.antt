use Rattle.std.proofs.Common.{Err}
use Rattle.wt_shards.specs.Opening.{layout_fault}
use Rattle.wt_shards.proofs.Configs.{refused-by_check}
use Rattle.rookdresser.proofs.service.serve.Goals as goal

pub returns-in-Err : goal.returns-in-Err
returns-in-Err g c = record {
  made = record {
    len = search;
    each = search;
    refusal = refused-by_check (λ x. Err x) (layout_fault c.args.shards c.args.config.now) c.check.result c.in-Err.fault
        c.check.ensures.refusal c.in-Err.is;
  };
}
