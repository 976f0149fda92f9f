use Rattle.std.proofs.Common.{arith}
use Rattle.wt_trace.proofs.Ranges.{entries_few, flights_few, ring_few}
use Rattle.wt_trace.proofs.options.Options.config.Goals as goal

pub overflow_cast-result-3 : goal.overflow_cast-result-3
overflow_cast-result-3 c = let few = flights_few c.args.self.now c.requires in omega (arith, few)

pub overflow_cast-result-4 : goal.overflow_cast-result-4
overflow_cast-result-4 c = let few = ring_few c.args.self.now c.requires in omega (arith, few, c.ring.ensures)

pub ring-requires : goal.ring-requires
ring-requires c = let few = flights_few c.args.self.now c.requires in omega (arith, few)

pub window-requires : goal.window-requires
window-requires c = let few = entries_few c.args.self.now c.requires in omega (arith, few)
