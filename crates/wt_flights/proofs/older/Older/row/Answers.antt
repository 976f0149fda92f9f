use Rattle.std.proofs.Common.{◌∙◌, sym}
use Rattle.std.specs.HashMap.{get}
use Rattle.std.specs.Prelude.{nat_eq}
use Rattle.wt_flights.proofs.Lookups.{row_none, row_some}
use Rattle.wt_flights.proofs.older.Older.row.Goals as goal

pub returns-in_err-open : goal.returns-in_err-open
returns-in_err-open g c = rw (← c.self.view_is)
    (c.from_residual.ensures
    ∙ sym (row_none (get nat_eq c.self.inside.by_id)
    (get g.K.PartialEq.eq c.self.inside.by_key) c.self.inside.next c.args.id c.self.invariant.tied.fresh
    (sym c.in_err-open.ensures.value)))

pub returns : goal.returns
returns g c =
    let at = sym c.in_ok-open.ensures.value in
    rw (← c.self.view_is)
    (sym (row_some (get nat_eq c.self.inside.by_id)
    (get g.K.PartialEq.eq c.self.inside.by_key) c.self.inside.next c.args.id c.in_ok-open.open.now
    c.is_current-current.result c.self.invariant.tied.fresh
    at (c.is_current-current.ensures ∙ c.self.invariant.marked.marks c.args.id c.in_ok-open.open.now at)))
