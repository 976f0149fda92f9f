use Rattle.std.proofs.Common.{rules}
use Rattle.wt_regions.proofs.Moves.{freshened, not_freshened}
use Rattle.wt_regions.specs.Lists.{used}
use Rattle.wt_regions.proofs.lru_cache.freshen.Goals as goal

pub returns-in-Some-clause-state : goal.returns-in-Some-clause-state
returns-in-Some-clause-state g c =
    rw (freshened (g.K.PartialEq.eq c.args.key) (used c.args.now) c.args.cache.now.entries c.in-Some.held.now
    (search rules))

pub returns-in-None-clause-state : goal.returns-in-None-clause-state
returns-in-None-clause-state g c =
    rw (← not_freshened (g.K.PartialEq.eq c.args.key) (used c.args.now) c.args.cache.now.entries (search rules))
