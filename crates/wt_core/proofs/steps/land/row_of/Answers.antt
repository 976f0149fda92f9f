use Rattle.std.proofs.Common.{sym, ◌∙◌}
use Rattle.wt_core.proofs.Rows.{none-with_id, its-with_id, other-with_id}
use Rattle.wt_core.proofs.steps.land.row_of.Goals as goal

pub returns-in_err-row : goal.returns-in_err-row
returns-in_err-row g c =
    c.from_residual.ensures ∙ sym (none-with_id g.K.PartialEq.eq c.args.key c.args.id c.args.flights.now.rows
    (sym c.row.ensures ∙ c.in_err-row.was))

pub returns-then-eq : goal.returns-then-eq
returns-then-eq g c =
    sym (its-with_id g.K.PartialEq.eq c.args.key c.args.id c.args.flights.now.rows c.in_ok-row.row
    (sym c.row.ensures ∙ c.in_ok-row.was) (sym c.eq.ensures ∙ c.if-eq.true))

pub returns-else-eq : goal.returns-else-eq
returns-else-eq g c =
    sym (other-with_id g.K.PartialEq.eq c.args.key c.args.id c.args.flights.now.rows c.in_ok-row.row
    c.len-open.ensures.lawful.rising (sym c.row.ensures ∙ c.in_ok-row.was) (sym c.eq.ensures ∙ c.if-eq.false))
