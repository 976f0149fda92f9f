use Rattle.wt_regions.proofs.Moves.{put-fresh}
use Rattle.wt_regions.proofs.lru_cache.push_new.Goals as goal

pub returns-in-Ok-clause-state : goal.returns-in-Ok-clause-state
returns-in-Ok-clause-state g c = let e =
    put-fresh g.K.PartialEq.eq c.args.cache.now c.args.key c.args.held c.requires.fresh c.requires.place in
    rw (c.in-Ok.ensures.entries, e)
