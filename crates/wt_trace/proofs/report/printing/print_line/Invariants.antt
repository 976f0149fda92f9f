use Rattle.std.proofs.Common.{◌≡◌, ◌++◌, [], take, get_or}
use Rattle.std.specs.List.{flat_map}
use Rattle.wt_trace.specs.Answers.{ShardAnswers}
use Rattle.wt_trace.proofs.report.printing.print_line.Given as goal

abbrev pub invariant-loop-answers : goal.invariant-loop-answers
invariant-loop-answers l =
    l.out.items ≡ l.initial.out.items
    ++ flat_map (λ (a : ShardAnswers). get_or a.texts l.i []) (take l.answers-index l.all)
