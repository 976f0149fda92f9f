use Rattle.std.proofs.Common.{rules, ◌≡◌, ◌++◌, ◌∙◌, ap, sym, false, append-nil, refl}
use Rattle.wt_trace.specs.Answers.{Stepped, belongs}
use Rattle.wt_trace.specs.Keys.{keys_by}
use Rattle.wt_trace.proofs.Others.{other_line}
use Rattle.wt_trace.proofs.shard.Shard.do_line.Goals as goal

pub returns-then-not-belongs-clause-made : goal.returns-then-not-belongs-clause-made
returns-then-not-belongs-clause-made g c =
    let keys = keys_by g.K.PartialEq.eq g.K.CacheKey.word g.K.TraceKey.read g.K.TraceKey.shown in
    let w = c.args.self.now in
    let before = c.args.out.now.items in
    let other : belongs keys w.options w.shard c.args.line.now.act ≡ false = search rules in
    let line = other_line keys w.options w.shard c.args.n c.args.line.now w.cache other in
    record {
      cache = sym (ap (λ (x : Stepped g.row.K.Denot). x.cache) line);
      text = sym (ap (λ (x : Stepped g.row.K.Denot). before ++ x.text) line ∙ append-nil before);
      same = (refl, refl);
    }
