use Rattle.std.proofs.Common.{◌≡◌, ◌==◌, ◌++◌, ◌∙◌, Some, drop, sym}
use Rattle.std.specs.List.{position}
use Rattle.wt_trace.specs.Trace.{lines_of}
use Rattle.wt_trace.proofs.Joins.{lines_of-found}
use Rattle.wt_trace.proofs.trace.parsing.cut_behind.Goals as goal

pub returns-in-Some : goal.returns-in-Some
returns-in-Some c =
    let found : position (λ b. b == 10) (drop c.args.most c.args.bytes.now) ≡ Some c.in-Some.at = sym c.in-Some.ensures in
    (λ i. lines_of (c.split_at.ensures.front i) ++ lines_of (c.split_at.ensures.back i))
    ∙ lines_of-found c.args.bytes.now c.args.most c.in-Some.at found
