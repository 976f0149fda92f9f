use Rattle.std.proofs.Common.{List, length, ◌≤◌, ap, sym, subst, ◌∙◌, arith}
use mathlib.Core.List.{IsPrefix}
use Rattle.wt_history.proofs.Fronts.{prefix_shorter}
use Rattle.wt_history.proofs.trail.Trail.learn.Goals as goal

pub returns-then-self-other-clause-this : goal.returns-then-self-other-clause-this
returns-then-self-other-clause-this g c =
    let E = g.row.E.Denot in
    let both : List E = c.learn.new.self.log in
    let this : IsPrefix c.self.inside.seen.log both = subst (λ (w : List E). IsPrefix w both) (ap (λ (s : _). s.log) c.again-both.ensures) c.learn.ensures.2 in
    let that : IsPrefix c.other.inside.seen.log both = c.learn.ensures.3 in
    let less : length c.self.inside.seen.log ≤ length c.other.inside.seen.log = (let m = c.self.invariant.2 in let o = c.other.invariant.2 in let t = c.if-self-other.true in omega (arith, m, o, t)) in
    let short : IsPrefix c.self.inside.seen.log c.other.inside.seen.log = prefix_shorter c.self.inside.seen.log c.other.inside.seen.log both this that less in
    let old : IsPrefix c.args.self.now c.other.inside.seen.log = subst (λ (w : List E). IsPrefix w c.other.inside.seen.log) c.self.view_is short in
    subst (λ (w : List E). IsPrefix c.args.self.now w) (c.other.view_is ∙ sym (c.drop.view_is ∙ c.again.ensures)) old

pub returns-clause-that : goal.returns-clause-that
returns-clause-that g c =
    let E = g.row.E.Denot in
    let both : List E = c.learn.new.self.log in
    let this : IsPrefix c.self.inside.seen.log both = subst (λ (w : List E). IsPrefix w both) (ap (λ (s : _). s.log) c.again-both.ensures) c.learn.ensures.2 in
    let that : IsPrefix c.other.inside.seen.log both = c.learn.ensures.3 in
    let less : length c.other.inside.seen.log ≤ length c.self.inside.seen.log = (let m = c.self.invariant.2 in let o = c.other.invariant.2 in let t = c.if-self-other.false in omega (arith, m, o, t)) in
    let short : IsPrefix c.other.inside.seen.log c.self.inside.seen.log = prefix_shorter c.other.inside.seen.log c.self.inside.seen.log both that this less in
    let old : IsPrefix c.args.other.now c.self.inside.seen.log = subst (λ (w : List E). IsPrefix w c.self.inside.seen.log) c.other.view_is short in
    subst (λ (w : List E). IsPrefix c.args.other.now w) c.self.view_is old
