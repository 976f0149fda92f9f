use Rattle.std.proofs.Common.{◌≡◌}
use Rattle.wt_core.specs.declared.calls.Call.{Call}
use Rattle.wt_core.specs.declared.calls.Call.TheVariants.{DropKey}
use Rattle.wt_core.specs.State.{State, evictions}
use Rattle.wt_core.proofs.Counted.{counted-step}
use Rattle.wt_core.proofs.Hits.{state_of}
use Rattle.wt_core.proofs.Whole.{unspent-is, told-since}
use Rattle.wt_regions.specs.Steps.{removed}
use Rattle.wt_core.proofs.sequential.Core.drop_key.Goals as goal

pub invariant_of-self : goal.invariant_of-self
invariant_of-self g c =
    let i = c.self.inside in
    let s : State g.row.K.Denot g.row.V.Denot = state_of i.regions i.sketch i.flights i.counts i.latest i.step in
    let call : Call g.row.K.Denot g.row.V.Denot = (DropKey c.args.key c.args.now) in
    let told : c.evicted_since.result ≡ evictions (removed g.K.PartialEq.eq c.args.key c.max-now.result i.regions).1 =
    told-since (removed g.K.PartialEq.eq c.args.key c.max-now.result i.regions).1 c.list-from.result.now
    c.args.notices.now c.remove-left.new.notices c.evicted_since.result c.remove-left.ensures.notices
    c.list-from.ensures c.evicted_since.ensures in
    let law = counted-step g.K.PartialEq.eq g.K.CacheKey.word g.V.Weighs.measure s call c.self.invariant.0
    (unspent-is s c.in_ok-unspent.ensures.ok) in
    rw (c.remove-left.ensures.state, c.forget.ensures.state, told, c.max-now.ensures) (law, c.self.invariant.1, c.self.invariant.2)
