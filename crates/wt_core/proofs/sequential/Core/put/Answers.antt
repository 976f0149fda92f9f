use Rattle.std.proofs.Common.{◌≡◌, ◌+◌, ◌≤◌, ℕ, sym, ap, ◌∙◌, arith}
use Rattle.std.specs.Prelude.{max}
use Rattle.wt_sketch.specs.Sketch.{estimate_of}
use Rattle.wt_regions.specs.declared.caps.Caps.{Caps}
use Rattle.wt_regions.specs.Lists.{Told}
use Rattle.wt_core.specs.declared.calls.Call.{Call}
use Rattle.wt_core.specs.declared.calls.Call.TheVariants.{Put}
use Rattle.wt_core.specs.State.{State, evictions}
use Rattle.wt_core.proofs.After.{counted-after}
use Rattle.wt_core.proofs.Counted.{counted-step}
use Rattle.wt_core.proofs.Hits.{state_of}
use Rattle.wt_core.proofs.Whole.{told-since, whole-told, stored-told}
use Rattle.wt_core.proofs.Stored.{told_at, put-state, put-notices, put-taken}
use Rattle.wt_core.proofs.sequential.Core.put.Goals as goal

pub overflow_add-self : goal.overflow_add-self
overflow_add-self g c =
    let i = c.self.inside in
    let s : State g.row.K.Denot g.row.V.Denot = state_of i.regions i.sketch i.flights i.counts i.latest i.step in
    let told : Told g.row.K.Denot g.row.V.Denot =
    told_at g.K.PartialEq.eq g.K.CacheKey.word g.V.Weighs.measure s c.args.key c.args.now c.max-now.result
    c.max-now.ensures c.args.value c.max-now.result in
    let low : (g.V.Weighs.measure c.args.value).weight ≤ i.regions.caps.bound =
    rw (c.measure.ensures, c.self.invariant.1) at c.in_ok-check_weight.ensures.ok in
    let evicted : c.evicted_since.result ≡ evictions told.1 =
    told-since told.1 c.list-from.result.now c.args.notices.now c.store.new.notices c.evicted_since.result
    c.in_ok-store.ensures.notices c.list-from.ensures c.evicted_since.ensures in
    let call : Call g.row.K.Denot g.row.V.Denot = Put c.args.key c.args.value c.args.now in
    let taken = put-taken g.K.PartialEq.eq g.K.CacheKey.word g.V.Weighs.measure s c.args.key c.args.now c.max-now.result
    c.max-now.ensures c.args.value low c.in_ok-unspent.ensures.ok in
    let law = (counted-step g.K.PartialEq.eq g.K.CacheKey.word g.V.Weighs.measure s call c.self.invariant.0 taken).evicted in
    let told' : evictions told.1 ≡ evictions
    (told_at g.K.PartialEq.eq g.K.CacheKey.word g.V.Weighs.measure s c.args.key c.args.now c.max-now.result
    c.max-now.ensures c.args.value (max i.latest c.args.now)).1 =
    ap (λ (m : ℕ). evictions (told_at g.K.PartialEq.eq g.K.CacheKey.word g.V.Weighs.measure s c.args.key c.args.now
    c.max-now.result c.max-now.ensures c.args.value m).1) c.max-now.ensures in
    omega (arith, law, told', evicted, c.in_ok-unspent.ensures.ok)

pub invariant_of-self-2 : goal.invariant_of-self-2
invariant_of-self-2 g c =
    let i = c.self.inside in
    let s : State g.row.K.Denot g.row.V.Denot = state_of i.regions i.sketch i.flights i.counts i.latest i.step in
    let told : Told g.row.K.Denot g.row.V.Denot =
    told_at g.K.PartialEq.eq g.K.CacheKey.word g.V.Weighs.measure s c.args.key c.args.now c.max-now.result
    c.max-now.ensures c.args.value c.max-now.result in
    let low : (g.V.Weighs.measure c.args.value).weight ≤ i.regions.caps.bound =
    rw (c.measure.ensures, c.self.invariant.1) at c.in_ok-check_weight.ensures.ok in
    let evicted : c.evicted_since.result ≡ evictions told.1 =
    told-since told.1 c.list-from.result.now c.args.notices.now c.store.new.notices c.evicted_since.result
    c.in_ok-store.ensures.notices c.list-from.ensures c.evicted_since.ensures in
    let call : Call g.row.K.Denot g.row.V.Denot = Put c.args.key c.args.value c.args.now in
    let taken = put-taken g.K.PartialEq.eq g.K.CacheKey.word g.V.Weighs.measure s c.args.key c.args.now c.max-now.result
    c.max-now.ensures c.args.value low c.in_ok-unspent.ensures.ok in
    let is = put-state g.K.PartialEq.eq g.K.CacheKey.word g.V.Weighs.measure s c.args.key c.args.now c.max-now.result
    c.max-now.ensures c.args.value c.store.new.self c.count_key.new.sketch c.forget.new.self c.evicted_since.result
    c.in_ok-store.ensures.state c.count_key.ensures c.forget.ensures.state evicted in (
      counted-after g.K.PartialEq.eq g.K.CacheKey.word g.V.Weighs.measure s call c.self.invariant.0 taken _ is,
      c.self.invariant.1 ∙ ap (λ (x : Caps). x.bound) (sym c.in_ok-store.ensures.same),
      rw c.forget.ensures.state c.self.invariant.2,
    )

pub returns-clause-state : goal.returns-clause-state
returns-clause-state g c =
    let i = c.self.inside in
    let s : State g.row.K.Denot g.row.V.Denot = state_of i.regions i.sketch i.flights i.counts i.latest i.step in
    let told : Told g.row.K.Denot g.row.V.Denot =
    told_at g.K.PartialEq.eq g.K.CacheKey.word g.V.Weighs.measure s c.args.key c.args.now c.max-now.result
    c.max-now.ensures c.args.value c.max-now.result in
    let low : (g.V.Weighs.measure c.args.value).weight ≤ i.regions.caps.bound =
    rw (c.measure.ensures, c.self.invariant.1) at c.in_ok-check_weight.ensures.ok in
    let evicted : c.evicted_since.result ≡ evictions told.1 =
    told-since told.1 c.list-from.result.now c.args.notices.now c.store.new.notices c.evicted_since.result
    c.in_ok-store.ensures.notices c.list-from.ensures c.evicted_since.ensures in
    let call : Call g.row.K.Denot g.row.V.Denot = Put c.args.key c.args.value c.args.now in
    let taken = put-taken g.K.PartialEq.eq g.K.CacheKey.word g.V.Weighs.measure s c.args.key c.args.now c.max-now.result
    c.max-now.ensures c.args.value low c.in_ok-unspent.ensures.ok in
    let is = put-state g.K.PartialEq.eq g.K.CacheKey.word g.V.Weighs.measure s c.args.key c.args.now c.max-now.result
    c.max-now.ensures c.args.value c.store.new.self c.count_key.new.sketch c.forget.new.self c.evicted_since.result
    c.in_ok-store.ensures.state c.count_key.ensures c.forget.ensures.state evicted in
    rw (← c.self.view_is) is

pub returns-clause-notices : goal.returns-clause-notices
returns-clause-notices g c =
    let i = c.self.inside in
    let s : State g.row.K.Denot g.row.V.Denot = state_of i.regions i.sketch i.flights i.counts i.latest i.step in
    rw (← c.self.view_is) (put-notices g.K.PartialEq.eq g.K.CacheKey.word g.V.Weighs.measure s c.args.key c.args.now
    c.max-now.result c.max-now.ensures c.args.value c.args.notices.now c.store.new.notices
    c.in_ok-store.ensures.notices)

pub returns-clause-whole : goal.returns-clause-whole
returns-clause-whole g c =
    let i = c.self.inside in
    let s : State g.row.K.Denot g.row.V.Denot = state_of i.regions i.sketch i.flights i.counts i.latest i.step in
    let told : Told g.row.K.Denot g.row.V.Denot =
    told_at g.K.PartialEq.eq g.K.CacheKey.word g.V.Weighs.measure s c.args.key c.args.now c.max-now.result
    c.max-now.ensures c.args.value c.max-now.result in
    let low : (g.V.Weighs.measure c.args.value).weight ≤ i.regions.caps.bound =
    rw (c.measure.ensures, c.self.invariant.1) at c.in_ok-check_weight.ensures.ok in
    let laws = (g.met.K.Eq g.world.𝓛 g.world.𝓜 g.world.𝓡 ((λ s x. x), (λ x. x), (λ x. x), λ x. x)).laws in
    let room : i.regions.caps.entries ≤ c.args.notices.now.room = rw (← c.self.view_is) at c.requires.room in
    whole-told told.1 c.args.notices.now c.store.new.notices c.in_ok-store.ensures.notices
    (stored-told g.K.PartialEq.eq laws
    (λ k. estimate_of i.sketch (g.K.CacheKey.word k)) g.V.Weighs.measure c.max-now.result
    (i.step + 1) c.args.key c.args.value i.regions c.args.notices.now.room c.len-len.ensures.lawful low room)
