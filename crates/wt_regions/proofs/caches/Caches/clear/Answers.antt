use Rattle.std.proofs.Common.{◌≤◌}
use Rattle.wt_regions.proofs.Gone.{clear-room-1, clear-room-2}
use Rattle.wt_regions.proofs.caches.Caches.clear.Goals as goal

pub clear_in-requires-2-clause-room : goal.clear_in-requires-2-clause-room
clear_in-requires-2-clause-room g c κs within =
    let i = c.self.inside in
    let placed = rw (← c.self.view_is) at c.requires.placed in
    let room : i.caps.entries ≤ c.args.notices.now.room = rw (← c.self.view_is) at c.requires.room in
    clear-room-1 g.K.PartialEq.eq g.V.Weighs.measure c.args.now i.caps i.window.entries i.probation.entries
    i.protected.entries placed c.args.notices.now c.clear_in.new.notices c.clear_in.new.notices room
    c.clear_in.ensures.notices

pub clear_in-requires-3-clause-room : goal.clear_in-requires-3-clause-room
clear_in-requires-3-clause-room g c κs within =
    let i = c.self.inside in
    let placed = rw (← c.self.view_is) at c.requires.placed in
    let room : i.caps.entries ≤ c.args.notices.now.room = rw (← c.self.view_is) at c.requires.room in
    clear-room-2 g.K.PartialEq.eq g.V.Weighs.measure c.args.now i.caps i.window.entries i.probation.entries
    i.protected.entries placed c.args.notices.now c.clear_in.new.notices c.clear_in-2.new.notices room
    c.clear_in.ensures.notices c.clear_in-2.ensures.notices
