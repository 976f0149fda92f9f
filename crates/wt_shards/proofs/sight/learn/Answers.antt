use Rattle.wt_shards.specs.Passes.{shown_of}
use Rattle.wt_shards.proofs.Sights.{none-shown}
use Rattle.wt_shards.proofs.sight.learn.Goals as goal

pub returns-in-None-clause-that : goal.returns-in-None-clause-that
returns-in-None-clause-that g c = none-shown c.args.other.now (shown_of c.args.front.now) c.in-None.is
