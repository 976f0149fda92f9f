use Rattle.std.proofs.Common.{◌++◌}
use Rattle.wt_regions.proofs.Moves.{lookup-append}
use Rattle.wt_regions.proofs.caches.Caches.take_out.Goals as goal

pub returns-in-Some-clause-held : goal.returns-in-Some-clause-held
returns-in-Some-clause-held g c =
    let i = c.self.inside in
    rw (
      ← c.self.view_is,
      lookup-append (g.K.PartialEq.eq c.args.key) i.window.entries
          (i.probation.entries ++ i.protected.entries),
      ← c.pop-first.ensures.value,
      c.in-Some.is,
    )

pub returns-in-None-clause-held : goal.returns-in-None-clause-held
returns-in-None-clause-held g c =
    let i = c.self.inside in
    rw (
      ← c.self.view_is,
      lookup-append (g.K.PartialEq.eq c.args.key) i.window.entries
          (i.probation.entries ++ i.protected.entries),
      ← c.pop-first.ensures.value,
      c.in-None.is,
    )
    c.take_below-second.ensures.held
