use Rattle.std.proofs.Common.{ap, sym, arith, length}
use Rattle.wt_trace.specs.Answers.{ShardAnswers}
use Rattle.wt_trace.proofs.Ends.{length-pieces}
use Rattle.wt_trace.proofs.shard.answers.ShardAnswers.text.Goals as goal

pub text_at-requires-clause-within : goal.text_at-requires-clause-within
text_at-requires-clause-within c =
    let texts = ap (λ (a : ShardAnswers). length a.texts) (sym c.self.view_is) in
    let ends = length-pieces (c.self.inside.text.items) 0 c.self.inside.ends.items in
    omega (arith, c.requires, texts, ends, c.deref-2.ensures.len, ap length c.deref-2.ensures.value)
