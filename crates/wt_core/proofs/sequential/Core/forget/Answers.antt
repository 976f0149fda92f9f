use Rattle.wt_core.specs.State.{State}
use Rattle.wt_core.proofs.Counted.{forgot-counted}
use Rattle.wt_core.proofs.Hits.{state_of}
use Rattle.wt_core.proofs.sequential.Core.forget.Goals as goal

pub invariant_of-self : goal.invariant_of-self
invariant_of-self g c =
    let i = c.self.inside in
    let s : State g.row.K.Denot g.row.V.Denot = state_of i.regions i.sketch i.flights i.counts i.latest i.step in
    rw c.forget-was.ensures.state (forgot-counted g.K.PartialEq.eq c.args.key s c.self.invariant.0, c.self.invariant.1, c.self.invariant.2)
