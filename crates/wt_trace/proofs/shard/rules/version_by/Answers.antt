use Rattle.wt_trace.proofs.Ranges.{modulus_fits}
use Rattle.wt_trace.proofs.shard.rules.version_by.Goals as goal

pub weight_by-requires : goal.weight_by-requires
weight_by-requires g c = modulus_fits c.args.options.now c.requires
