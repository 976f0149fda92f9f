use Rattle.std.proofs.Common.{List, length, ◌≤◌, ap, subst, ◌∙◌, arith}
use Rattle.std.proofs.lemmas.Bool.Decides.{nat_tests}
use mathlib.Core.List.{IsPrefix}
use Rattle.wt_history.proofs.Fronts.{prefix_shorter}
use Rattle.wt_history.proofs.trail.Trail.covers.Goals as goal

pub returns-clause-before : goal.returns-clause-before
returns-clause-before g c within =
    let E = g.row.E.Denot in
    let both : List E = c.learn.new.self.log in
    let this : IsPrefix c.self.inside.seen.log both = subst (λ (w : List E). IsPrefix w both) (ap (λ (s : _). s.log) c.again-both.ensures) c.learn.ensures.2 in
    let that : IsPrefix c.other.inside.seen.log both = c.learn.ensures.3 in
    let less : length c.other.inside.seen.log ≤ length c.self.inside.seen.log = (let m = c.self.invariant.2 in let o = c.other.invariant.2 in grind (arith, nat_tests, m, o, within)) in
    let short : IsPrefix c.other.inside.seen.log c.self.inside.seen.log = prefix_shorter c.other.inside.seen.log c.self.inside.seen.log both that this less in
    let old : IsPrefix c.args.other.now c.self.inside.seen.log = subst (λ (w : List E). IsPrefix w c.self.inside.seen.log) c.other.view_is short in
    subst (λ (w : List E). IsPrefix c.args.other.now w) c.self.view_is old
