use Rattle.std.proofs.Common.{◌≤◌, ◌+◌, length, arith}
use Rattle.wt_regions.proofs.Room.{whole-appended}
use Rattle.wt_regions_tests.proofs.tests.Run.put.Goals as goal

pub invariant_of-self-2 : goal.invariant_of-self-2
invariant_of-self-2 g c =
    let room : c.self.inside.regions.caps.entries ≤ c.empty.new.self.room + length c.empty.new.self.list =
    rw c.empty.ensures (omega (arith, c.self.invariant)) in
    rw c.store.ensures.same (whole-appended c.self.inside.regions.caps.entries _ c.empty.new.self
    c.store.new.notices c.in_ok-store.ensures.notices room)
