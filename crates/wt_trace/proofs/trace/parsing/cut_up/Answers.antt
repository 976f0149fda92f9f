use Rattle.std.proofs.Common.{◌∙◌, ◌++◌, List, ℕ, ap}
use Rattle.wt_trace.specs.Trace.{lines_of, lines_of_all}
use Rattle.wt_trace.proofs.Joins.{lines_of-more, lines_of-last}
use Rattle.wt_trace.proofs.trace.parsing.cut_up.Goals as goal

pub loop-t-preserved : goal.loop-t-preserved
loop-t-preserved c =
    let piece = c.cut_behind.result.0.now in
    let after = c.cut_behind.result.1.now in
    ap (λ (ps : List (List ℕ)). lines_of_all ps ++ lines_of after) c.in_ok-push.ensures.items
    ∙ lines_of-more c.loop-t.out.items c.loop-t.rest.now (lines_of c.args.bytes.now) c.loop-t.invariant piece after c.cut_behind.ensures

pub returns : goal.returns
returns c =
    ap lines_of_all c.in_ok-push-2.ensures.items
    ∙ lines_of-last c.loop-t.out.items c.loop-t.rest.now (lines_of c.args.bytes.now) c.loop-t.invariant
