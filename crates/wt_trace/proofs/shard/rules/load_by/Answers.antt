use Rattle.wt_trace.proofs.Ranges.{divisor_fits}
use Rattle.wt_trace.proofs.shard.rules.load_by.Goals as goal

pub fails_by-requires : goal.fails_by-requires
fails_by-requires g c = divisor_fits c.args.options.now c.requires
