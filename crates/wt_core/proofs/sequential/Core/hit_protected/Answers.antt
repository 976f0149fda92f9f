use Rattle.std.proofs.Common.{◌≡◌, false, refl, sym, ap, ◌∙◌}
use Rattle.wt_regions.specs.declared.caps.Caps.{Caps}
use Rattle.wt_core.specs.declared.calls.Call.{Call}
use Rattle.wt_core.specs.declared.calls.Call.TheVariants.{Seek}
use Rattle.wt_core.specs.State.{State}
use Rattle.wt_core.proofs.After.{counted-after}
use Rattle.wt_core.proofs.Hits.{state_of}
use Rattle.wt_core.proofs.Sought.{hit-is, hit-state, hit-taken}
use Rattle.wt_core.proofs.sequential.Core.hit_protected.Goals as goal

pub invariant_of-self-2 : goal.invariant_of-self-2
invariant_of-self-2 g c =
    let i = c.self.inside in
    let s : State g.row.K.Denot g.row.V.Denot = state_of i.regions i.sketch i.flights i.counts i.latest i.step in
    let call : Call g.row.K.Denot g.row.V.Denot = Seek c.args.key c.args.now in
    let closed = sym c.refreshes.ensures ∙ c.if-refreshes.false in
    let is = hit-state g.K.PartialEq.eq c.args.key g.K.CacheKey.word g.V.Weighs.measure s c.args.now c.max-now.result
    c.max-now.ensures c.in-Some.value c.in-Some.ensures.found closed c.use_protected.new.self c.count_key.new.sketch
    (c.in-Some.ensures.state refl) c.count_key.ensures in (
      counted-after g.K.PartialEq.eq g.K.CacheKey.word g.V.Weighs.measure s call c.self.invariant.0
          (hit-taken g.K.PartialEq.eq c.args.key g.K.CacheKey.word g.V.Weighs.measure s c.args.now c.max-now.result
          c.max-now.ensures c.in-Some.value c.in-Some.ensures.found closed c.in-Ok.ensures.ok) _ is,
      c.self.invariant.1 ∙ ap (λ (x : Caps). x.bound) (sym c.in-Some.ensures.same),
      c.self.invariant.2,
    )
