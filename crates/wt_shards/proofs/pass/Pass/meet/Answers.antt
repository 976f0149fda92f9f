use Rattle.std.proofs.Common.{List, subst}
use Rattle.wt_core.specs.declared.calls.Call.{Call}
use Rattle.wt_shards.specs.Passes.{AreSeenIn}
use Rattle.wt_shards.proofs.pass.Pass.meet.Goals as goal

pub returns-clause-that : goal.returns-clause-that
returns-clause-that g c =
    let K = g.row.K.Denot in
    let V = g.row.V.Denot in
    subst (λ (s : List (List (Call K V))). AreSeenIn s c.learn.new.self.fronts) c.sight.ensures c.learn.ensures.that
