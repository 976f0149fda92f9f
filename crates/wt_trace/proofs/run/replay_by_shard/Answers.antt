use Rattle.std.proofs.Common.{true}
use Rattle.wt_trace.proofs.Passages.{let_through}
use Rattle.wt_trace.proofs.run.replay_by_shard.Goals as goal

pub returns-clause-asked : goal.returns-clause-asked
returns-clause-asked g c =
    let bytes = c.in_ok-bytes in
    let_through c.args.options.now (λ n. g.G.Gate.answers c.args.gate.now n true) _ _ bytes.bytes.items
    bytes.ensures.given c.in_ok-text.ensures.asked c.in_ok-text.verdict

pub returns-in_err-write_pieces-clause-asked : goal.returns-in_err-write_pieces-clause-asked
returns-in_err-write_pieces-clause-asked g c =
    let bytes = c.in_ok-bytes in
    let_through c.args.options.now (λ n. g.G.Gate.answers c.args.gate.now n true) _ _ bytes.bytes.items
    bytes.ensures.given c.in_ok-text.ensures.asked c.from_residual-in_err-write_pieces.result
