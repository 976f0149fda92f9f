use Rattle.wt_regions.proofs.Moves.{put-full, displaced-full}
use Rattle.wt_regions.proofs.lru_cache.push_past.Goals as goal

pub returns-in-Ok-clause-left : goal.returns-in-Ok-clause-left
returns-in-Ok-clause-left g c =
    rw (
      c.in-Ok.ensures.old,
      displaced-full g.K.PartialEq.eq c.args.cache.now c.args.key c.args.held c.requires.fresh
          c.requires.full,
    )

pub returns-in-Ok-clause-state : goal.returns-in-Ok-clause-state
returns-in-Ok-clause-state g c =
    rw (
      c.in-Ok.ensures.entries,
      put-full g.K.PartialEq.eq c.args.cache.now c.args.key c.args.held c.requires.fresh
          c.requires.some c.requires.full,
    )
