use Rattle.wt_trace.proofs.Ranges.{divisor_fits, modulus_fits}
use Rattle.wt_turns.proofs.by_turn.loader.TraceLoader.of.Goals as goal

pub invariant_of-result-clause-some : goal.invariant_of-result-clause-some
invariant_of-result-clause-some c = (modulus_fits c.args.options.now c.requires).0

pub invariant_of-result-clause-small : goal.invariant_of-result-clause-small
invariant_of-result-clause-small c = (modulus_fits c.args.options.now c.requires).1

pub invariant_of-result-clause-divides : goal.invariant_of-result-clause-divides
invariant_of-result-clause-divides c = divisor_fits c.args.options.now c.requires
