use Rattle.std.proofs.Common.{subst}
use Rattle.wt_cache.specs.Calling.{Calling}
use Rattle.wt_shards.specs.Passes.{SeenMore}
use Rattle.wt_cache.proofs.caller.Caller.learn.Goals as goal

pub returns-clause-this : goal.returns-clause-this
returns-clause-this g c =
    subst (λ (x : Calling g.row.K.Denot g.row.V.Denot). SeenMore x.pass c.learn.new.self) c.self.view_is c.learn.ensures.this
