use Rattle.std.proofs.Common.{◌≡◌, ◌≤◌, true, false, List, refl, sym, ap, ◌∙◌}
use Rattle.wt_regions.specs.declared.caps.Caps.{Caps}
use Rattle.wt_regions.specs.declared.touch.Found.{Found}
use Rattle.wt_regions.specs.Lists.{Lists, is_hit}
use Rattle.wt_regions.specs.declared.notices.Notice.{Notice}
use Rattle.wt_regions.specs.Notices.{appended}
use Rattle.wt_regions.specs.Steps.{without_expired}
use Rattle.wt_regions.specs.Touch.{used_if}
use Rattle.wt_core.specs.declared.calls.Call.{Call}
use Rattle.wt_core.specs.declared.calls.Call.TheVariants.{Look}
use Rattle.wt_core.specs.State.{State, evictions}
use Rattle.wt_core.proofs.After.{counted-after, bound-after}
use Rattle.wt_core.proofs.Balance.{without_expired-balanced}
use Rattle.wt_core.proofs.Frees.{free-look}
use Rattle.wt_core.proofs.Hits.{state_of, is_miss, missed-still, hit-state, miss-state, miss-reply, miss-notices}
use Rattle.wt_core.proofs.Whole.{unspent-is, whole-told, balanced-told}
use Rattle.wt_core.proofs.sequential.Core.look.Goals as goal

pub invariant_of-self-in-Hit : goal.invariant_of-self-in-Hit
invariant_of-self-in-Hit g c =
    let i = c.self.inside in
    let s : State g.row.K.Denot g.row.V.Denot = state_of i.regions i.sketch i.flights i.counts i.latest i.step in
    let call : Call g.row.K.Denot g.row.V.Denot = Look c.args.key c.args.now in
    let is = hit-state g.K.PartialEq.eq g.K.CacheKey.word g.V.Weighs.measure s c.args.key c.args.now c.max-now.result
    c.max-now.ensures c.in-Hit.value c.get.new.self c.count_key.new.sketch
    (sym c.in_ok-missed.ensures.found ∙ c.in-Hit.is) c.in_ok-missed.ensures.state c.count_key.ensures in (
      counted-after g.K.PartialEq.eq g.K.CacheKey.word g.V.Weighs.measure s call c.self.invariant.0
          (unspent-is s c.in_ok-unspent.ensures.ok) _ is,
      c.self.invariant.1 ∙ ap (λ (x : Caps). x.bound) (sym c.in_ok-missed.ensures.same),
      c.self.invariant.2,
    )

pub invariant_of-self-in_default : goal.invariant_of-self-in_default
invariant_of-self-in_default g c =
    let i = c.self.inside in
    let s : State g.row.K.Denot g.row.V.Denot = state_of i.regions i.sketch i.flights i.counts i.latest i.step in
    let miss : is_hit c.in_ok-missed.missed ≡ false = is_miss c.in_ok-missed.missed c.in_default.not-Hit in
    let still : c.get.new.self ≡ i.regions = c.in_ok-missed.ensures.state
    ∙ ap (λ (f : Found g.row.V.Denot). used_if g.K.PartialEq.eq c.args.key c.max-now.result f i.regions) (sym c.in_ok-missed.ensures.found)
    ∙ missed-still g.K.PartialEq.eq c.args.key c.max-now.result i.regions c.in_ok-missed.missed miss in
    let expire : c.expire_missed-evicted.new.regions
    ≡ (without_expired g.K.PartialEq.eq c.args.key c.max-now.result i.regions).0 =
    c.expire_missed-evicted.ensures.state
    ∙ ap (λ (r : Lists g.row.K.Denot g.row.V.Denot). (without_expired g.K.PartialEq.eq c.args.key c.max-now.result r).0) still in
    let told : c.expire_missed-evicted.new.notices
    ≡ appended (without_expired g.K.PartialEq.eq c.args.key c.max-now.result i.regions).1 c.args.notices.now =
    c.expire_missed-evicted.ensures.notices
    ∙ ap (λ (r : Lists g.row.K.Denot g.row.V.Denot). appended
    (without_expired g.K.PartialEq.eq c.args.key c.max-now.result r).1 c.args.notices.now) still in
    let evicted : c.expire_missed-evicted.result
    ≡ evictions (without_expired g.K.PartialEq.eq c.args.key c.max-now.result i.regions).1 =
    c.expire_missed-evicted.ensures.answer
    ∙ ap (λ (r : Lists g.row.K.Denot g.row.V.Denot). evictions (without_expired g.K.PartialEq.eq c.args.key c.max-now.result r).1) still in
    let is = miss-state g.K.PartialEq.eq g.K.CacheKey.word g.V.Weighs.measure s c.args.key c.args.now c.max-now.result
    c.max-now.ensures c.in_ok-missed.missed c.expire_missed-evicted.new.regions c.count_key-in_default.new.sketch
    c.expire_missed-evicted.result
    c.in_ok-missed.ensures.found miss expire c.count_key-in_default.ensures evicted in
    let call : Call g.row.K.Denot g.row.V.Denot = Look c.args.key c.args.now in
    let taken = unspent-is s c.in_ok-unspent.ensures.ok in (
      counted-after g.K.PartialEq.eq g.K.CacheKey.word g.V.Weighs.measure s call c.self.invariant.0 taken _ is,
      bound-after g.K.PartialEq.eq g.K.CacheKey.word g.V.Weighs.measure s call c.self.invariant.0 taken _ is i.bound c.self.invariant.1,
      c.self.invariant.2,
    )

pub returns-in_default : goal.returns-in_default
returns-in_default g c =
    let i = c.self.inside in
    let s : State g.row.K.Denot g.row.V.Denot = state_of i.regions i.sketch i.flights i.counts i.latest i.step in
    let miss : is_hit c.in_ok-missed.missed ≡ false = is_miss c.in_ok-missed.missed c.in_default.not-Hit in
    let still : c.get.new.self ≡ i.regions = c.in_ok-missed.ensures.state
    ∙ ap (λ (f : Found g.row.V.Denot). used_if g.K.PartialEq.eq c.args.key c.max-now.result f i.regions) (sym c.in_ok-missed.ensures.found)
    ∙ missed-still g.K.PartialEq.eq c.args.key c.max-now.result i.regions c.in_ok-missed.missed miss in
    let expire : c.expire_missed-evicted.new.regions
    ≡ (without_expired g.K.PartialEq.eq c.args.key c.max-now.result i.regions).0 =
    c.expire_missed-evicted.ensures.state
    ∙ ap (λ (r : Lists g.row.K.Denot g.row.V.Denot). (without_expired g.K.PartialEq.eq c.args.key c.max-now.result r).0) still in
    let told : c.expire_missed-evicted.new.notices
    ≡ appended (without_expired g.K.PartialEq.eq c.args.key c.max-now.result i.regions).1 c.args.notices.now =
    c.expire_missed-evicted.ensures.notices
    ∙ ap (λ (r : Lists g.row.K.Denot g.row.V.Denot). appended
    (without_expired g.K.PartialEq.eq c.args.key c.max-now.result r).1 c.args.notices.now) still in
    let evicted : c.expire_missed-evicted.result
    ≡ evictions (without_expired g.K.PartialEq.eq c.args.key c.max-now.result i.regions).1 =
    c.expire_missed-evicted.ensures.answer
    ∙ ap (λ (r : Lists g.row.K.Denot g.row.V.Denot). evictions (without_expired g.K.PartialEq.eq c.args.key c.max-now.result r).1) still in
    let is = miss-state g.K.PartialEq.eq g.K.CacheKey.word g.V.Weighs.measure s c.args.key c.args.now c.max-now.result
    c.max-now.ensures c.in_ok-missed.missed c.expire_missed-evicted.new.regions c.count_key-in_default.new.sketch
    c.expire_missed-evicted.result
    c.in_ok-missed.ensures.found miss expire c.count_key-in_default.ensures evicted in
    let room : i.regions.caps.entries ≤ c.args.notices.now.room = rw (← c.self.view_is) at c.requires.room in
    let left = unspent-is s c.in_ok-unspent.ensures.ok in
    record {
      state = rw (← c.self.view_is) is;
      answer = rw (← c.self.view_is) (sym
          (miss-reply g.K.PartialEq.eq g.K.CacheKey.word g.V.Weighs.measure s c.args.key c.args.now c.max-now.result
          c.max-now.ensures c.in_ok-missed.missed c.in_ok-missed.ensures.found miss));
      notices = rw (← c.self.view_is)
          (told ∙ ap (λ (ns : List (Notice g.row.K.Denot g.row.V.Denot)). appended ns c.args.notices.now)
          (sym (miss-notices g.K.PartialEq.eq g.K.CacheKey.word g.V.Weighs.measure s c.args.key c.args.now
          c.max-now.result c.max-now.ensures c.in_ok-missed.missed c.in_ok-missed.ensures.found miss)));
      refusal = rw (← c.self.view_is, left) tt;
      same = rw (← c.self.view_is) (ap (λ (r : Lists g.row.K.Denot g.row.V.Denot). r.caps) expire
          ∙ (without_expired-balanced g.K.PartialEq.eq c.args.key c.max-now.result i.regions).caps);
      whole = whole-told (without_expired g.K.PartialEq.eq c.args.key c.max-now.result i.regions).1 c.args.notices.now
          c.expire_missed-evicted.new.notices told
          (balanced-told g.K.PartialEq.eq g.V.Weighs.measure i.regions
          (without_expired g.K.PartialEq.eq c.args.key c.max-now.result i.regions) c.args.notices.now.room
          c.len-len.ensures.lawful (without_expired-balanced g.K.PartialEq.eq c.args.key c.max-now.result i.regions)
          room);
      miss_succeeds = λ _ _. refl;
      none_succeeds = λ _ _. refl;
      err = tt;
    }

pub returns-in_err-missed-clause-none_succeeds : goal.returns-in_err-missed-clause-none_succeeds
returns-in_err-missed-clause-none_succeeds g c = λ takes allowed.
    let i = c.self.inside in
    let s : State g.row.K.Denot g.row.V.Denot = state_of i.regions i.sketch i.flights i.counts i.latest i.step in
    let free = rw (← c.self.view_is) at takes in
    let never : false ≡ true = free-look g.V.Share.is_copied g.K.PartialEq.eq g.V.Weighs.measure c.args.key s c.args.now
    c.max-now.result c.max-now.ensures free
    (false ≡ true) c.in_err-missed.ensures.miss_succeeds c.in_err-missed.ensures.hit_succeeds in cc
