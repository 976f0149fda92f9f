use Rattle.std.proofs.Common.{arith, ◌≡◌, true, false, refl, sym, ◌∙◌}
use Rattle.wt_regions.proofs.Weights.{weight-window, weight-probation, weight-protected}
use Rattle.wt_regions.proofs.First.{others-some, others-parts}
use Rattle.wt_regions.specs.Settle.{holds_other}
use Rattle.wt_regions.proofs.caches.Caches.trim_once.Goals as goal

pub returns-then-holds_other : goal.returns-then-holds_other
returns-then-holds_other g c =
    let i = c.self.inside in
    let yes : holds_other g.K.PartialEq.eq c.args.key i.probation.entries ≡ true = sym c.holds_other.ensures ∙ c.if-holds_other.true in
    rw (← c.self.view_is, yes, c.take_last.ensures.state, c.take_last.ensures.notices) (
      refl,
      refl,
      (
        c.take_last.result,
        refl,
        rw c.take_last.ensures.weight (weight-probation i.caps i.window.entries i.probation.entries
            i.protected.entries),
      ),
    )

pub returns-then-holds_other-2 : goal.returns-then-holds_other-2
returns-then-holds_other-2 g c =
    let i = c.self.inside in
    let no : holds_other g.K.PartialEq.eq c.args.key i.probation.entries ≡ false = sym c.holds_other.ensures ∙ c.if-holds_other.false in
    let yes : holds_other g.K.PartialEq.eq c.args.key i.protected.entries ≡ true = sym c.holds_other-2.ensures ∙ c.if-holds_other-2.true in
    rw (
      ← c.self.view_is,
      no,
      yes,
      c.take_last-then-holds_other-2.ensures.state,
      c.take_last-then-holds_other-2.ensures.notices,
    ) (
      refl,
      refl,
      (
        c.take_last-then-holds_other-2.result,
        refl,
        rw c.take_last-then-holds_other-2.ensures.weight
            (weight-protected i.caps i.window.entries i.probation.entries i.protected.entries),
      ),
    )

pub returns-then-holds_other-3 : goal.returns-then-holds_other-3
returns-then-holds_other-3 g c =
    let i = c.self.inside in
    let no : holds_other g.K.PartialEq.eq c.args.key i.probation.entries ≡ false = sym c.holds_other.ensures ∙ c.if-holds_other.false in
    let no2 : holds_other g.K.PartialEq.eq c.args.key i.protected.entries ≡ false = sym c.holds_other-2.ensures
    ∙ c.if-holds_other-2.false in
    let yes : holds_other g.K.PartialEq.eq c.args.key i.window.entries ≡ true = sym c.holds_other-3.ensures ∙ c.if-holds_other-3.true in
    rw (
      ← c.self.view_is,
      no,
      no2,
      yes,
      c.take_last-then-holds_other-3.ensures.state,
      c.take_last-then-holds_other-3.ensures.notices,
    ) (
      refl,
      refl,
      (
        c.take_last-then-holds_other-3.result,
        refl,
        rw c.take_last-then-holds_other-3.ensures.weight
            (weight-window i.caps i.window.entries i.probation.entries i.protected.entries),
      ),
    )

pub take_last-requires-after_bounds : goal.take_last-requires-after_bounds
take_last-requires-after_bounds g c κs within =
    let i = c.self.inside in
    let room = rw (← c.self.view_is) at c.requires.room in
    let yes : holds_other g.K.PartialEq.eq c.args.key i.probation.entries ≡ true = sym c.holds_other.ensures ∙ c.if-holds_other.true in
    omega (
      arith,
      others-some g.K.PartialEq.eq c.args.key i.probation.entries yes,
      others-parts g.K.PartialEq.eq c.args.key i.caps i.window.entries i.probation.entries i.protected.entries,
      room,
    )

pub take_last-requires-then-holds_other-2-after_bounds : goal.take_last-requires-then-holds_other-2-after_bounds
take_last-requires-then-holds_other-2-after_bounds g c κs within =
    let i = c.self.inside in
    let room = rw (← c.self.view_is) at c.requires.room in
    let yes : holds_other g.K.PartialEq.eq c.args.key i.protected.entries ≡ true = sym c.holds_other-2.ensures ∙ c.if-holds_other-2.true in
    omega (
      arith,
      others-some g.K.PartialEq.eq c.args.key i.protected.entries yes,
      others-parts g.K.PartialEq.eq c.args.key i.caps i.window.entries i.probation.entries i.protected.entries,
      room,
    )

pub take_last-requires-then-holds_other-3-after_bounds : goal.take_last-requires-then-holds_other-3-after_bounds
take_last-requires-then-holds_other-3-after_bounds g c κs within =
    let i = c.self.inside in
    let room = rw (← c.self.view_is) at c.requires.room in
    let yes : holds_other g.K.PartialEq.eq c.args.key i.window.entries ≡ true = sym c.holds_other-3.ensures ∙ c.if-holds_other-3.true in
    omega (
      arith,
      others-some g.K.PartialEq.eq c.args.key i.window.entries yes,
      others-parts g.K.PartialEq.eq c.args.key i.caps i.window.entries i.probation.entries i.protected.entries,
      room,
    )
