use Rattle.std.specs.Prelude.{max}
use Rattle.std.proofs.Common.{◌≡◌, ◌≤◌, ℕ, ap, arith}
use Rattle.wt_core.specs.declared.calls.Call.{Call}
use Rattle.wt_core.specs.declared.calls.Call.TheVariants.{Clean}
use Rattle.wt_core.specs.State.{State, evictions}
use Rattle.wt_core.proofs.Counted.{counted-step}
use Rattle.wt_core.proofs.Hits.{state_of}
use Rattle.wt_core.proofs.Whole.{unspent-is, told-since, whole-told, balanced-told}
use Rattle.wt_regions.specs.Steps.{cleaned}
use Rattle.wt_core.proofs.Balance.{cleaned-balanced}
use Rattle.wt_core.proofs.sequential.Core.clean.Goals as goal

pub overflow_add-self : goal.overflow_add-self
overflow_add-self g c =
    let i = c.self.inside in
    let s : State g.row.K.Denot g.row.V.Denot = state_of i.regions i.sketch i.flights i.counts i.latest i.step in
    let call : Call g.row.K.Denot g.row.V.Denot = (Clean c.args.now) in
    let told : c.evicted_since.result ≡ evictions (cleaned c.max-now.result i.regions).1 =
    told-since (cleaned c.max-now.result i.regions).1 c.list-from.result.now c.args.notices.now c.clean.new.notices
    c.evicted_since.result c.clean.ensures.notices c.list-from.ensures c.evicted_since.ensures in
    let law = counted-step g.K.PartialEq.eq g.K.CacheKey.word g.V.Weighs.measure s call c.self.invariant.0
    (unspent-is s c.in_ok-unspent.ensures.ok) in
    let now : evictions (cleaned c.max-now.result i.regions).1
    ≡ evictions (cleaned (max i.latest c.args.now) i.regions).1 =
    ap (λ (m : ℕ). evictions (cleaned m i.regions).1) c.max-now.ensures in
    omega (arith, told, now, law.evicted, c.in_ok-unspent.ensures.ok)

pub returns-clause-whole : goal.returns-clause-whole
returns-clause-whole g c =
    let i = c.self.inside in
    let room : i.regions.caps.entries ≤ c.args.notices.now.room = rw (← c.self.view_is) at c.requires.room in
    whole-told (cleaned c.max-now.result i.regions).1 c.args.notices.now c.clean.new.notices c.clean.ensures.notices
    (balanced-told g.K.PartialEq.eq g.V.Weighs.measure i.regions
    (cleaned c.max-now.result i.regions) c.args.notices.now.room c.len-len.ensures.lawful
    (cleaned-balanced c.max-now.result i.regions) room)

pub invariant_of-self : goal.invariant_of-self
invariant_of-self g c =
    let i = c.self.inside in
    let s : State g.row.K.Denot g.row.V.Denot = state_of i.regions i.sketch i.flights i.counts i.latest i.step in
    let call : Call g.row.K.Denot g.row.V.Denot = (Clean c.args.now) in
    let told : c.evicted_since.result ≡ evictions (cleaned c.max-now.result i.regions).1 =
    told-since (cleaned c.max-now.result i.regions).1 c.list-from.result.now c.args.notices.now c.clean.new.notices
    c.evicted_since.result c.clean.ensures.notices c.list-from.ensures c.evicted_since.ensures in
    let law = counted-step g.K.PartialEq.eq g.K.CacheKey.word g.V.Weighs.measure s call c.self.invariant.0
    (unspent-is s c.in_ok-unspent.ensures.ok) in
    rw (c.clean.ensures.state, told, c.max-now.ensures) (law, c.self.invariant.1, c.self.invariant.2)
