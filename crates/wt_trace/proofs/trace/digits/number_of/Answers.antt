use Rattle.std.proofs.Common.{arith}
use Rattle.wt_trace.proofs.Numbers.{number_is}
use Rattle.wt_trace.proofs.trace.digits.number_of.Goals as goal

pub returns : goal.returns
returns c = number_is c.args.digits.now _ (omega arith) (omega arith) c.value_of.ensures.some c.value_of.ensures.none
