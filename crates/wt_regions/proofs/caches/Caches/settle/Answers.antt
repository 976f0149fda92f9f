use Rattle.std.proofs.Common.{arith, ◌≤◌, ◌++◌, length}
use Rattle.wt_regions.proofs.Settled.{fresh_parts}
use Rattle.wt_regions.proofs.caches.Caches.settle.Goals as goal

pub push_new-requires-clause-fresh : goal.push_new-requires-clause-fresh
push_new-requires-clause-fresh g c κs within =
    let i = c.self.inside in
    let off = rw (← c.self.view_is) at c.requires.elsewhere in
    (fresh_parts (g.K.PartialEq.eq c.args.key) i.window.entries (i.probation.entries ++ i.protected.entries) off).0

pub settle_full-requires-clause-full : goal.settle_full-requires-clause-full
settle_full-requires-clause-full g c κs within =
    let i = c.self.inside in
    let off = rw (← c.self.view_is) at c.requires.elsewhere in
    let whole : i.caps.window ≤ length i.window.entries = omega (arith, c.len.ensures.len, c.if-len-self.false) in
    record {
      placed = c.requires.placed;
      elsewhere = rw (← c.self.view_is)
          (fresh_parts (g.K.PartialEq.eq c.args.key) i.window.entries
          (i.probation.entries ++ i.protected.entries) off).0;
      full = rw (← c.self.view_is) whole;
    }
