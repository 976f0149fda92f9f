use Rattle.wt_regions.proofs.Touches.{put-there}
use Rattle.wt_regions.proofs.lru_cache.replace_in.Goals as goal

pub returns-clause-state : goal.returns-clause-state
returns-clause-state g c = rw (c.in-Ok.ensures.entries, put-there g.K.PartialEq.eq c.args.cache.now c.args.key c.args.held c.requires)
