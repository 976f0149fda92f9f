use Rattle.wt_shards.specs.Passes.{front_of}
use Rattle.wt_shards.proofs.Sights.{none-shown}
use Rattle.wt_shards.proofs.pass.learn.Goals as goal

pub returns-in-None-clause-that : goal.returns-in-None-clause-that
returns-in-None-clause-that g c = none-shown c.args.shown.now (front_of c.args.pass.now) c.in-None.is
