use Rattle.std.proofs.Common.{◌≡◌, sym, ◌∙◌, ap, subst, ◌≤◌, length}
use Rattle.logbook.specs.Pages.{Named}
use Rattle.wt_history.specs.Logged.{Logged}
use Rattle.wt_history.proofs.Adding.{adds_moves}
use Rattle.wt_history.proofs.prefix.Prefix.add.Goals as goal

pub compare_exchange-found-requires : goal.compare_exchange-found-requires
compare_exchange-found-requires g c =
    let h = c.requires.place in
    let pen = c.no_pen-pen.ensures in
    let here : c.args.head.now.book ≡ c.self.inside.seen.book =
    ap (λ (w : Named). w.book) h ∙ sym (ap (λ (t : Logged g.row.E.Denot). t.book) c.self.view_is) in
    let within : c.args.at ≤ length c.self.inside.seen.log =
    subst (λ (t : Logged g.row.E.Denot). c.args.at ≤ length t.entries) (sym c.self.view_is) c.requires.within in (
      ap (λ (w : Named). w.tracked) h,
      sym here,
      pen.0 ∙ sym here,
      c.asked.invariant.0 ∙ sym c.self.invariant,
      rw (ap (λ (w : Named). w.key) h, pen.1, c.asked.invariant.1)
          (adds_moves c.self.inside.seen.log c.asked.inside.offer.ask c.args.at within),
    )
