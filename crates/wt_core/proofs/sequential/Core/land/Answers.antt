use Rattle.std.proofs.Common.{◌≡◌, ◌+◌, ◌≤◌, Some, sym, ap, ◌∙◌, arith}
use Rattle.wt_sketch.specs.Sketch.{estimate_of}
use Rattle.wt_regions.specs.declared.caps.Caps.{Caps}
use Rattle.wt_regions.specs.Lists.{Told}
use Rattle.wt_flights.specs.Rows.{row_of}
use Rattle.wt_core.specs.declared.calls.Call.{Call}
use Rattle.wt_core.specs.declared.calls.Call.TheVariants.{Land}
use Rattle.wt_core.specs.declared.calls.Land.TheVariants as land
use Rattle.wt_core.specs.State.{State, evictions}
use Rattle.wt_core.proofs.After.{counted-after}
use Rattle.wt_core.proofs.Counted.{closed-counted, closed-room}
use Rattle.wt_core.proofs.Hits.{state_of}
use Rattle.wt_core.proofs.Whole.{told-since, whole-told, stored-told}
use Rattle.wt_core.proofs.Stored.{told_at, land-taken, kept-state, kept-notices}
use Rattle.wt_core.proofs.sequential.Core.land.Goals as goal

pub overflow_add-self-in-Keep : goal.overflow_add-self-in-Keep
overflow_add-self-in-Keep g c =
    let i = c.self.inside in
    let s : State g.row.K.Denot g.row.V.Denot = state_of i.regions i.sketch i.flights i.counts i.latest i.step in
    let at : row_of g.K.PartialEq.eq c.args.key c.args.id i.flights ≡ Some c.in-Some.row = sym c.row_of.ensures ∙ c.in-Some.is in
    let told : Told g.row.K.Denot g.row.V.Denot =
    told_at g.K.PartialEq.eq g.K.CacheKey.word g.V.Weighs.measure s c.args.key c.args.now c.max-now.result
    c.max-now.ensures c.in-Keep.value c.max-now.result in
    let low : (g.V.Weighs.measure c.in-Keep.value).weight ≤ i.regions.caps.bound =
    rw (c.measure.ensures, c.self.invariant.1) at c.if-measure-self.true in
    let call' : Call g.row.K.Denot g.row.V.Denot = Land c.args.id c.args.key (land.Keep c.in-Keep.value) c.args.now in
    let taken = land-taken g.K.PartialEq.eq g.K.CacheKey.word g.V.Weighs.measure s c.args.key c.args.now c.max-now.result
    c.max-now.ensures c.args.id c.in-Some.row at (land.Keep c.in-Keep.value) in
    let evicted : c.evicted_since.result ≡ evictions told.1 =
    told-since told.1 c.list-from.result.now c.args.notices.now c.store.new.notices c.evicted_since.result
    c.in_ok-store-in-Keep.ensures.notices c.list-from.ensures c.evicted_since.ensures in
    let is = kept-state g.K.PartialEq.eq g.K.CacheKey.word g.V.Weighs.measure s c.args.key c.args.now c.max-now.result
    c.max-now.ensures c.args.id c.in-Some.row at c.in-Keep.value c.if-row.true low c.store.new.self c.land.new.self
    c.evicted_since.result c.in_ok-store-in-Keep.ensures.state c.land.ensures.state evicted in
    let law = (counted-after g.K.PartialEq.eq g.K.CacheKey.word g.V.Weighs.measure s call' c.self.invariant.0 taken _ is).evicted in
    let steps = c.self.invariant.0.steps in
    omega (arith, law, steps)

pub invariant_of-self-then-measure-self : goal.invariant_of-self-then-measure-self
invariant_of-self-then-measure-self g c =
    let i = c.self.inside in
    let s : State g.row.K.Denot g.row.V.Denot = state_of i.regions i.sketch i.flights i.counts i.latest i.step in
    let at : row_of g.K.PartialEq.eq c.args.key c.args.id i.flights ≡ Some c.in-Some.row = sym c.row_of.ensures ∙ c.in-Some.is in
    let told : Told g.row.K.Denot g.row.V.Denot =
    told_at g.K.PartialEq.eq g.K.CacheKey.word g.V.Weighs.measure s c.args.key c.args.now c.max-now.result
    c.max-now.ensures c.in-Keep.value c.max-now.result in
    let low : (g.V.Weighs.measure c.in-Keep.value).weight ≤ i.regions.caps.bound =
    rw (c.measure.ensures, c.self.invariant.1) at c.if-measure-self.true in
    let call' : Call g.row.K.Denot g.row.V.Denot = Land c.args.id c.args.key (land.Keep c.in-Keep.value) c.args.now in
    let taken = land-taken g.K.PartialEq.eq g.K.CacheKey.word g.V.Weighs.measure s c.args.key c.args.now c.max-now.result
    c.max-now.ensures c.args.id c.in-Some.row at (land.Keep c.in-Keep.value) in
    let evicted : c.evicted_since.result ≡ evictions told.1 =
    told-since told.1 c.list-from.result.now c.args.notices.now c.store.new.notices c.evicted_since.result
    c.in_ok-store-in-Keep.ensures.notices c.list-from.ensures c.evicted_since.ensures in
    let is = kept-state g.K.PartialEq.eq g.K.CacheKey.word g.V.Weighs.measure s c.args.key c.args.now c.max-now.result
    c.max-now.ensures c.args.id c.in-Some.row at c.in-Keep.value c.if-row.true low c.store.new.self c.land.new.self
    c.evicted_since.result c.in_ok-store-in-Keep.ensures.state c.land.ensures.state evicted in (
      counted-after g.K.PartialEq.eq g.K.CacheKey.word g.V.Weighs.measure s call' c.self.invariant.0 taken _ is,
      c.self.invariant.1 ∙ ap (λ (x : Caps). x.bound) (sym c.in_ok-store-in-Keep.ensures.same),
      rw c.land.ensures.state c.self.invariant.2,
    )

pub invariant_of-self-in-Failed : goal.invariant_of-self-in-Failed
invariant_of-self-in-Failed g c =
    let i = c.self.inside in
    let s : State g.row.K.Denot g.row.V.Denot = state_of i.regions i.sketch i.flights i.counts i.latest i.step in
    let at : row_of g.K.PartialEq.eq c.args.key c.args.id i.flights ≡ Some c.in-Some.row = sym c.row_of.ensures ∙ c.in-Some.is in
    rw c.land-in-Failed.ensures.state (
      closed-counted g.K.PartialEq.eq c.args.key s c.self.invariant.0 c.args.id c.in-Some.row at,
      c.self.invariant.1,
      c.self.invariant.2,
    )

pub expire_step-requires-in-Failed-clause-left : goal.expire_step-requires-in-Failed-clause-left
expire_step-requires-in-Failed-clause-left g c κs within =
    let i = c.self.inside in
    let s : State g.row.K.Denot g.row.V.Denot = state_of i.regions i.sketch i.flights i.counts i.latest i.step in
    let at : row_of g.K.PartialEq.eq c.args.key c.args.id i.flights ≡ Some c.in-Some.row = sym c.row_of.ensures ∙ c.in-Some.is in
    rw c.land-in-Failed.ensures.state (closed-room g.K.PartialEq.eq c.args.key s c.self.invariant.0 c.args.id c.in-Some.row at)

pub invariant_of-self-in_default-what : goal.invariant_of-self-in_default-what
invariant_of-self-in_default-what g c =
    let i = c.self.inside in
    let s : State g.row.K.Denot g.row.V.Denot = state_of i.regions i.sketch i.flights i.counts i.latest i.step in
    let at : row_of g.K.PartialEq.eq c.args.key c.args.id i.flights ≡ Some c.in-Some.row = sym c.row_of.ensures ∙ c.in-Some.is in
    rw c.land-in_default-what.ensures.state (
      closed-counted g.K.PartialEq.eq c.args.key s c.self.invariant.0 c.args.id c.in-Some.row at,
      c.self.invariant.1,
      c.self.invariant.2,
    )

pub expire_step-requires-in_default-what-clause-left : goal.expire_step-requires-in_default-what-clause-left
expire_step-requires-in_default-what-clause-left g c κs within =
    let i = c.self.inside in
    let s : State g.row.K.Denot g.row.V.Denot = state_of i.regions i.sketch i.flights i.counts i.latest i.step in
    let at : row_of g.K.PartialEq.eq c.args.key c.args.id i.flights ≡ Some c.in-Some.row = sym c.row_of.ensures ∙ c.in-Some.is in
    rw c.land-in_default-what.ensures.state (closed-room g.K.PartialEq.eq c.args.key s c.self.invariant.0 c.args.id c.in-Some.row at)

pub returns-in_ok-store-in-Keep-clause-state : goal.returns-in_ok-store-in-Keep-clause-state
returns-in_ok-store-in-Keep-clause-state g c =
    let i = c.self.inside in
    let s : State g.row.K.Denot g.row.V.Denot = state_of i.regions i.sketch i.flights i.counts i.latest i.step in
    let at : row_of g.K.PartialEq.eq c.args.key c.args.id i.flights ≡ Some c.in-Some.row = sym c.row_of.ensures ∙ c.in-Some.is in
    let told : Told g.row.K.Denot g.row.V.Denot =
    told_at g.K.PartialEq.eq g.K.CacheKey.word g.V.Weighs.measure s c.args.key c.args.now c.max-now.result
    c.max-now.ensures c.in-Keep.value c.max-now.result in
    let low : (g.V.Weighs.measure c.in-Keep.value).weight ≤ i.regions.caps.bound =
    rw (c.measure.ensures, c.self.invariant.1) at c.if-measure-self.true in
    let call' : Call g.row.K.Denot g.row.V.Denot = Land c.args.id c.args.key (land.Keep c.in-Keep.value) c.args.now in
    let taken = land-taken g.K.PartialEq.eq g.K.CacheKey.word g.V.Weighs.measure s c.args.key c.args.now c.max-now.result
    c.max-now.ensures c.args.id c.in-Some.row at (land.Keep c.in-Keep.value) in
    let evicted : c.evicted_since.result ≡ evictions told.1 =
    told-since told.1 c.list-from.result.now c.args.notices.now c.store.new.notices c.evicted_since.result
    c.in_ok-store-in-Keep.ensures.notices c.list-from.ensures c.evicted_since.ensures in
    let is = kept-state g.K.PartialEq.eq g.K.CacheKey.word g.V.Weighs.measure s c.args.key c.args.now c.max-now.result
    c.max-now.ensures c.args.id c.in-Some.row at c.in-Keep.value c.if-row.true low c.store.new.self c.land.new.self
    c.evicted_since.result c.in_ok-store-in-Keep.ensures.state c.land.ensures.state evicted in
    rw (← c.self.view_is, c.in-Keep.is) is

pub returns-in_ok-store-in-Keep-clause-notices : goal.returns-in_ok-store-in-Keep-clause-notices
returns-in_ok-store-in-Keep-clause-notices g c =
    let i = c.self.inside in
    let s : State g.row.K.Denot g.row.V.Denot = state_of i.regions i.sketch i.flights i.counts i.latest i.step in
    let at : row_of g.K.PartialEq.eq c.args.key c.args.id i.flights ≡ Some c.in-Some.row = sym c.row_of.ensures ∙ c.in-Some.is in
    let told : Told g.row.K.Denot g.row.V.Denot =
    told_at g.K.PartialEq.eq g.K.CacheKey.word g.V.Weighs.measure s c.args.key c.args.now c.max-now.result
    c.max-now.ensures c.in-Keep.value c.max-now.result in
    let low : (g.V.Weighs.measure c.in-Keep.value).weight ≤ i.regions.caps.bound =
    rw (c.measure.ensures, c.self.invariant.1) at c.if-measure-self.true in
    let call' : Call g.row.K.Denot g.row.V.Denot = Land c.args.id c.args.key (land.Keep c.in-Keep.value) c.args.now in
    let taken = land-taken g.K.PartialEq.eq g.K.CacheKey.word g.V.Weighs.measure s c.args.key c.args.now c.max-now.result
    c.max-now.ensures c.args.id c.in-Some.row at (land.Keep c.in-Keep.value) in
    rw (← c.self.view_is, c.in-Keep.is)
    (kept-notices g.K.PartialEq.eq g.K.CacheKey.word g.V.Weighs.measure s c.args.key c.args.now c.max-now.result
    c.max-now.ensures c.args.id c.in-Some.row at c.in-Keep.value c.if-row.true low c.args.notices.now
    c.store.new.notices c.in_ok-store-in-Keep.ensures.notices)

pub returns-in_ok-store-in-Keep-clause-whole : goal.returns-in_ok-store-in-Keep-clause-whole
returns-in_ok-store-in-Keep-clause-whole g c =
    let i = c.self.inside in
    let s : State g.row.K.Denot g.row.V.Denot = state_of i.regions i.sketch i.flights i.counts i.latest i.step in
    let at : row_of g.K.PartialEq.eq c.args.key c.args.id i.flights ≡ Some c.in-Some.row = sym c.row_of.ensures ∙ c.in-Some.is in
    let told : Told g.row.K.Denot g.row.V.Denot =
    told_at g.K.PartialEq.eq g.K.CacheKey.word g.V.Weighs.measure s c.args.key c.args.now c.max-now.result
    c.max-now.ensures c.in-Keep.value c.max-now.result in
    let low : (g.V.Weighs.measure c.in-Keep.value).weight ≤ i.regions.caps.bound =
    rw (c.measure.ensures, c.self.invariant.1) at c.if-measure-self.true in
    let call' : Call g.row.K.Denot g.row.V.Denot = Land c.args.id c.args.key (land.Keep c.in-Keep.value) c.args.now in
    let taken = land-taken g.K.PartialEq.eq g.K.CacheKey.word g.V.Weighs.measure s c.args.key c.args.now c.max-now.result
    c.max-now.ensures c.args.id c.in-Some.row at (land.Keep c.in-Keep.value) in
    let laws = (g.met.K.Eq g.world.𝓛 g.world.𝓜 g.world.𝓡 ((λ s x. x), (λ x. x), (λ x. x), λ x. x)).laws in
    let room : i.regions.caps.entries ≤ c.args.notices.now.room = rw (← c.self.view_is) at c.requires.room in
    whole-told told.1 c.args.notices.now c.store.new.notices c.in_ok-store-in-Keep.ensures.notices
    (stored-told g.K.PartialEq.eq laws
    (λ k. estimate_of i.sketch (g.K.CacheKey.word k)) g.V.Weighs.measure c.max-now.result
    (i.step + 1) c.args.key c.in-Keep.value i.regions c.args.notices.now.room c.len-len.ensures.lawful low room)
