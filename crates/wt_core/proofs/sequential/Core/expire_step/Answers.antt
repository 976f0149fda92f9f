use Rattle.std.proofs.Common.{◌+◌, ◌^◌, ◌<◌, length, sym, ap, ◌∙◌, subst}
use Rattle.wt_regions.specs.declared.caps.Caps.{Caps}
use Rattle.wt_regions.specs.Lists.{Lists}
use Rattle.wt_regions.specs.Steps.{without_expired}
use Rattle.wt_core.specs.State.{State}
use Rattle.wt_core.specs.Lawful.{IsCounted}
use Rattle.wt_core.proofs.Balance.{without_expired-balanced}
use Rattle.wt_core.proofs.Counted.{own_expired-counted}
use Rattle.wt_core.proofs.Hits.{state_of}
use Rattle.wt_core.proofs.Stored.{own_expired-state}
use Rattle.wt_core.proofs.Whole.{told-since}
use Rattle.wt_core.proofs.sequential.Core.expire_step.Goals as goal

pub returns-clause-state : goal.returns-clause-state
returns-clause-state g c =
    let i = c.self.inside in
    let s : State g.row.K.Denot g.row.V.Denot = state_of i.regions i.sketch i.flights i.counts i.latest i.step in
    let evicted = told-since (without_expired g.K.PartialEq.eq c.args.key c.max-now.result i.regions).1
    c.list-from.result.now c.args.notices.now c.expire.new.notices c.evicted_since.result c.expire.ensures.notices
    c.list-from.ensures c.evicted_since.ensures in
    rw (← c.self.view_is) (own_expired-state g.K.PartialEq.eq g.K.CacheKey.word g.V.Weighs.measure s c.args.key
    c.args.now c.max-now.result c.max-now.ensures c.expire.new.regions c.evicted_since.result c.expire.ensures.state
    evicted)

pub invariant_of-self : goal.invariant_of-self
invariant_of-self g c =
    let i = c.self.inside in
    let s : State g.row.K.Denot g.row.V.Denot = state_of i.regions i.sketch i.flights i.counts i.latest i.step in
    let evicted = told-since (without_expired g.K.PartialEq.eq c.args.key c.max-now.result i.regions).1
    c.list-from.result.now c.args.notices.now c.expire.new.notices c.evicted_since.result c.expire.ensures.notices
    c.list-from.ensures c.evicted_since.ensures in
    let is = own_expired-state g.K.PartialEq.eq g.K.CacheKey.word g.V.Weighs.measure s c.args.key c.args.now
    c.max-now.result c.max-now.ensures c.expire.new.regions c.evicted_since.result c.expire.ensures.state evicted in
    let left : i.step + length i.flights.rows < 2 ^ 60 + 4096 = rw (← c.self.view_is) at c.requires.left in (
      subst IsCounted (sym is) (own_expired-counted g.K.PartialEq.eq g.K.CacheKey.word g.V.Weighs.measure s
          c.self.invariant.0 c.args.now c.args.key left),
      c.self.invariant.1 ∙ ap (λ (x : Caps). x.bound)
          (sym (without_expired-balanced g.K.PartialEq.eq c.args.key c.max-now.result i.regions).caps)
          ∙ ap (λ (x : Lists g.row.K.Denot g.row.V.Denot). x.caps.bound) (sym c.expire.ensures.state),
      c.self.invariant.2,
    )
