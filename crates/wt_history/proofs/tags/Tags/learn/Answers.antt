use Rattle.std.proofs.Common.{ℕ, List, ap, subst}
use mathlib.Core.List.{IsPrefix}
use Rattle.wt_history.specs.Tags.{Known, tags_of}
use Rattle.wt_history.proofs.Growing.{tags-prefix}
use Rattle.wt_history.proofs.tags.Tags.learn.Goals as goal

pub returns-clause-this : goal.returns-clause-this
returns-clause-this g c =
    subst (λ (w : List ℕ). IsPrefix w (tags_of c.learn.new.self.log)) (ap (λ (k : Known). k.tags) c.self.view_is)
    (tags-prefix c.self.inside.seen.log c.learn.new.self.log c.learn.ensures.2)

pub returns-clause-that : goal.returns-clause-that
returns-clause-that g c =
    subst (λ (w : List ℕ). IsPrefix w (tags_of c.learn.new.self.log)) (ap (λ (k : Known). k.tags) c.other.view_is)
    (tags-prefix c.other.inside.seen.log c.learn.new.self.log c.learn.ensures.3)
