use Rattle.wt_flights.proofs.Beside.{oldest_load-beside}
use Rattle.wt_flights.proofs.flight_table.FlightTable.oldest_load.Goals as goal

pub returns-in-Some : goal.returns-in-Some
returns-in-Some g c =
    let all = oldest_load-beside g.K.PartialEq.eq c.args.key c.self.inside.newest c.self.inside.next c.self.inside.older in
    rw (← c.self.view_is, all, ← c.in-Some.ensures)

pub returns : goal.returns
returns g c =
    let all = oldest_load-beside g.K.PartialEq.eq c.args.key c.self.inside.newest c.self.inside.next c.self.inside.older in
    rw (← c.self.view_is, all, ← c.in_default.ensures) (rw c.get.ensures at c.id_in.ensures)
