use Rattle.std.proofs.Common.{rules}
use Rattle.wt_regions.proofs.Moves.{freshened, not_freshened}
use Rattle.wt_regions.specs.Lists.{used}
use Rattle.wt_regions.proofs.lru_cache.use_in.Goals as goal

pub returns-in_default-clause-state : goal.returns-in_default-clause-state
returns-in_default-clause-state g c =
    rw (← not_freshened (g.K.PartialEq.eq c.args.key) (used c.args.now) c.args.cache.now.entries (search rules))

pub returns-clause-state : goal.returns-clause-state
returns-clause-state g c = rw (freshened (g.K.PartialEq.eq c.args.key)
    (used c.args.now) c.args.cache.now.entries c.in-Some.held.now (search rules))
