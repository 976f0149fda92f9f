use Rattle.std.proofs.Common.{◌≤◌}
use Rattle.wt_regions.proofs.Gone.{clean-room-1, clean-room-2}
use Rattle.wt_regions.proofs.caches.Caches.clean.Goals as goal

pub clean_in-weight-requires-2-clause-room : goal.clean_in-weight-requires-2-clause-room
clean_in-weight-requires-2-clause-room g c κs within =
    let i = c.self.inside in
    let placed = rw (← c.self.view_is) at c.requires.placed in
    let room : i.caps.entries ≤ c.args.notices.now.room = rw (← c.self.view_is) at c.requires.room in
    clean-room-1 g.K.PartialEq.eq g.V.Weighs.measure c.args.now i.caps i.window.entries i.probation.entries
    i.protected.entries placed c.args.notices.now c.clean_in-weight.new.notices c.clean_in-weight.new.notices room
    c.clean_in-weight.ensures.notices

pub clean_in-requires-clause-room : goal.clean_in-requires-clause-room
clean_in-requires-clause-room g c κs within =
    let i = c.self.inside in
    let placed = rw (← c.self.view_is) at c.requires.placed in
    let room : i.caps.entries ≤ c.args.notices.now.room = rw (← c.self.view_is) at c.requires.room in
    clean-room-2 g.K.PartialEq.eq g.V.Weighs.measure c.args.now i.caps i.window.entries i.probation.entries
    i.protected.entries placed c.args.notices.now c.clean_in-weight.new.notices c.clean_in-weight-2.new.notices room
    c.clean_in-weight.ensures.notices c.clean_in-weight-2.ensures.notices
