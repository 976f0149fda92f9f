use Rattle.std.proofs.Common.{◌≡◌, ◌≤◌, List, [], ◌∷◌, ◌++◌, length, ap, sym, ◌∙◌, subst, append-nil, arith}
use Rattle.std.specs.Option.{option_to_list}
use mathlib.Core.List.{IsPrefix}
use Rattle.wt_history.specs.declared.tags.Tagged.{Tagged}
use Rattle.wt_history.specs.Tags.{Listed, tags_of}
use Rattle.wt_history.proofs.Fronts.{prefix_whole}
use Rattle.wt_history.proofs.Growing.{entries-length, tags-append}
use Rattle.wt_history.proofs.history.History.write.Goals as goal

pub returns-clause-tags : goal.returns-clause-tags
returns-clause-tags g c =
    let E = g.row.E.Denot in
    let whole : List (Tagged E) = c.self.inside.whole in
    let both : List (Tagged E) = c.learn.new.self in
    let made = c.if-not-add.ensures.made in
    let long : length both ≤ length whole =
    (let at = c.requires.at in let b = made.1 in let seen = ap (λ (l : Listed E). length l.entries) c.self.view_is in let n = entries-length whole in omega (arith, at, b, seen, n)) in
    let before : IsPrefix whole both = subst (λ (w : List (Tagged E)). IsPrefix w both) c.again-both.ensures c.learn.ensures.this in
    let same : whole ≡ both = prefix_whole whole both before long in
    ap tags_of made.0 ∙ tags-append both (c.args.asked ∷ [])
    ∙ ap (λ w. tags_of both ++ w) (append-nil (option_to_list c.args.asked.tag))
    ∙ ap (λ (w : List (Tagged E)). tags_of w ++ option_to_list c.args.asked.tag) (sym same)
    ∙ ap (λ (l : Listed E). l.tags ++ option_to_list c.args.asked.tag) c.self.view_is
