use Rattle.std.proofs.Common.{◌≡◌, ◌≤◌, ℕ, Bool, true, false, ◌&&◌, None, List, refl, sym, ap, ◌∙◌, arith}
use Rattle.std.specs.Prelude.{not, is_none}
use Rattle.wt_regions.specs.declared.caps.Caps.{Caps}
use Rattle.wt_regions.specs.declared.touch.Found.{Found}
use Rattle.wt_regions.specs.declared.notices.Notice.{Notice}
use Rattle.wt_regions.specs.Lists.{Lists, due_at, has_at, is_hit}
use Rattle.wt_regions.specs.Notices.{appended}
use Rattle.wt_regions.specs.Steps.{without_expired}
use Rattle.wt_regions.specs.Touch.{used_if}
use Rattle.wt_flights.specs.Rows.{Flights, current_of, is_current, is_full}
use Rattle.wt_core.specs.declared.calls.Call.{Call}
use Rattle.wt_core.specs.declared.calls.Call.TheVariants.{Seek}
use Rattle.wt_core.specs.Meets.{fault_met}
use Rattle.wt_core.specs.State.{State, evictions}
use Rattle.wt_core.proofs.After.{counted-after, bound-after}
use Rattle.wt_core.proofs.Balance.{without_expired-balanced}
use Rattle.wt_core.proofs.Frees.{free-seek, free-alone, free-joins}
use Rattle.wt_core.proofs.Hits.{state_of, is_miss, missed-still}
use Rattle.wt_core.proofs.Rows.{sharers-left}
use Rattle.wt_core.proofs.Sought.{lead-state, lead-taken, hit-state, hit-taken, miss-state, miss-refusal, miss-reply, miss-notices, met-none, limit-met}
use Rattle.wt_core.proofs.Whole.{whole-told, balanced-told}
use Rattle.wt_core.proofs.sequential.Core.seek_met.Goals as goal

-- whether a hit opens a load at a moment
abbrev refreshes-at : {K V : Type 0} → (K → K → Bool) → K → ℕ → Lists K V → Flights K → Bool
refreshes-at eq k now r t = due_at eq k now r && (is_none (current_of eq k t) && not (is_full t))

pub invariant_of-self-then-opens : goal.invariant_of-self-then-opens
invariant_of-self-then-opens g c =
    let i = c.self.inside in
    let s : State g.row.K.Denot g.row.V.Denot = state_of i.regions i.sketch i.flights i.counts i.latest i.step in
    let call : Call g.row.K.Denot g.row.V.Denot = Seek c.args.key c.args.now in
    let req = rw (← c.self.view_is) at c.requires.opens in
    let opens : refreshes-at g.K.PartialEq.eq c.args.key c.max-now.result i.regions i.flights ≡ true =
    ap (λ m. refreshes-at g.K.PartialEq.eq c.args.key m i.regions i.flights) c.max-now.ensures ∙ (sym req ∙ c.if-opens.true) in
    let is = lead-state g.K.PartialEq.eq c.args.key g.K.CacheKey.word g.V.Weighs.measure s c.args.now c.max-now.result
    c.max-now.ensures c.in_ok-value.value c.in_ok-value.ensures.found opens c.open_beside.new.regions
    c.count_key.new.sketch c.open_beside.new.flights c.in_ok-value.ensures.regions c.count_key.ensures
    c.in_ok-value.ensures.flights in (
      counted-after g.K.PartialEq.eq g.K.CacheKey.word g.V.Weighs.measure s call c.self.invariant.0
          (lead-taken g.K.PartialEq.eq c.args.key g.K.CacheKey.word g.V.Weighs.measure s c.args.now c.max-now.result
          c.max-now.ensures c.in_ok-value.value c.in_ok-value.ensures.found opens c.in_ok-unspent.ensures.ok) _ is,
      c.self.invariant.1 ∙ ap (λ (x : Caps). x.bound) (sym c.in_ok-value.ensures.same),
      rw c.in_ok-value.ensures.flights c.self.invariant.2,
    )

pub invariant_of-self-in-Hit : goal.invariant_of-self-in-Hit
invariant_of-self-in-Hit g c =
    let i = c.self.inside in
    let s : State g.row.K.Denot g.row.V.Denot = state_of i.regions i.sketch i.flights i.counts i.latest i.step in
    let call : Call g.row.K.Denot g.row.V.Denot = Seek c.args.key c.args.now in
    let req = rw (← c.self.view_is) at c.requires.opens in
    let closed : refreshes-at g.K.PartialEq.eq c.args.key c.max-now.result i.regions i.flights ≡ false =
    ap (λ m. refreshes-at g.K.PartialEq.eq c.args.key m i.regions i.flights) c.max-now.ensures ∙ (sym req ∙ c.if-opens.false) in
    let at = sym c.in_ok-missed.ensures.found ∙ c.in-Hit.is in
    let is = hit-state g.K.PartialEq.eq c.args.key g.K.CacheKey.word g.V.Weighs.measure s c.args.now c.max-now.result
    c.max-now.ensures c.in-Hit.value at closed c.get.new.self c.count_key-in-Hit.new.sketch
    c.in_ok-missed.ensures.state c.count_key-in-Hit.ensures in (
      counted-after g.K.PartialEq.eq g.K.CacheKey.word g.V.Weighs.measure s call c.self.invariant.0
          (hit-taken g.K.PartialEq.eq c.args.key g.K.CacheKey.word g.V.Weighs.measure s c.args.now c.max-now.result
          c.max-now.ensures c.in-Hit.value at closed c.in_ok-unspent.ensures.ok) _ is,
      c.self.invariant.1 ∙ ap (λ (x : Caps). x.bound) (sym c.in_ok-missed.ensures.same),
      c.self.invariant.2,
    )

pub join_or_begin-requires-clause-sharers_left : goal.join_or_begin-requires-clause-sharers_left
join_or_begin-requires-clause-sharers_left g c κs within =
    let law = c.self.invariant.0 in
    sharers-left (is_current g.K.PartialEq.eq c.args.key) c.self.inside.step
    (let steps = law.steps in omega (arith, steps)) c.self.inside.flights.rows law.sharers

pub invariant_of-self-in_default : goal.invariant_of-self-in_default
invariant_of-self-in_default g c =
    let i = c.self.inside in
    let s : State g.row.K.Denot g.row.V.Denot = state_of i.regions i.sketch i.flights i.counts i.latest i.step in
    let call : Call g.row.K.Denot g.row.V.Denot = Seek c.args.key c.args.now in
    let miss : is_hit c.in_ok-missed.missed ≡ false = is_miss c.in_ok-missed.missed c.in_default.not-Hit in
    let still : c.get.new.self ≡ i.regions = c.in_ok-missed.ensures.state
    ∙ ap (λ (f : Found g.row.V.Denot). used_if g.K.PartialEq.eq c.args.key c.max-now.result f i.regions) (sym c.in_ok-missed.ensures.found)
    ∙ missed-still g.K.PartialEq.eq c.args.key c.max-now.result i.regions c.in_ok-missed.missed miss in
    let expire : c.expire_missed-evicted.new.regions
    ≡ (without_expired g.K.PartialEq.eq c.args.key c.max-now.result i.regions).0 =
    c.expire_missed-evicted.ensures.state
    ∙ ap (λ (r : Lists g.row.K.Denot g.row.V.Denot). (without_expired g.K.PartialEq.eq c.args.key c.max-now.result r).0) still in
    let told : c.expire_missed-evicted.new.notices
    ≡ appended (without_expired g.K.PartialEq.eq c.args.key c.max-now.result i.regions).1 c.args.notices.now =
    c.expire_missed-evicted.ensures.notices
    ∙ ap (λ (r : Lists g.row.K.Denot g.row.V.Denot). appended
    (without_expired g.K.PartialEq.eq c.args.key c.max-now.result r).1 c.args.notices.now) still in
    let evicted : c.expire_missed-evicted.result
    ≡ evictions (without_expired g.K.PartialEq.eq c.args.key c.max-now.result i.regions).1 =
    c.expire_missed-evicted.ensures.answer
    ∙ ap (λ (r : Lists g.row.K.Denot g.row.V.Denot). evictions (without_expired g.K.PartialEq.eq c.args.key c.max-now.result r).1) still in
    let is = miss-state g.K.PartialEq.eq c.args.key g.K.CacheKey.word g.V.Weighs.measure s c.args.now c.max-now.result
    c.max-now.ensures c.in_ok-missed.missed c.in_ok-missed.ensures.found miss c.expire_missed-evicted.new.regions
    c.count_key-in_default.new.sketch c.join_or_begin.new.flights c.expire_missed-evicted.result
    expire c.count_key-in_default.ensures c.in_ok-reply-in_default.ensures.state evicted in
    let fine : fault_met g.K.PartialEq.eq c.args.key i.flights ≡ None =
    met-none (fault_met g.K.PartialEq.eq c.args.key i.flights) _ c.in_ok-reply-in_default.reply
    c.in_ok-reply-in_default.ensures.refusal in
    let taken = miss-refusal g.K.PartialEq.eq c.args.key g.K.CacheKey.word g.V.Weighs.measure s c.args.now
    c.max-now.result c.max-now.ensures c.in_ok-missed.missed c.in_ok-missed.ensures.found miss
    c.in_ok-unspent.ensures.ok ∙ fine in (
      counted-after g.K.PartialEq.eq g.K.CacheKey.word g.V.Weighs.measure s call c.self.invariant.0 taken _ is,
      bound-after g.K.PartialEq.eq g.K.CacheKey.word g.V.Weighs.measure s call c.self.invariant.0 taken _ is i.bound c.self.invariant.1,
      c.self.invariant.2 ∙ limit-met g.K.PartialEq.eq c.args.key i.flights c.join_or_begin.new.flights
          c.in_ok-reply-in_default.ensures.state,
    )

pub returns-in_ok-reply-in_default : goal.returns-in_ok-reply-in_default
returns-in_ok-reply-in_default g c =
    let i = c.self.inside in
    let s : State g.row.K.Denot g.row.V.Denot = state_of i.regions i.sketch i.flights i.counts i.latest i.step in
    let call : Call g.row.K.Denot g.row.V.Denot = Seek c.args.key c.args.now in
    let miss : is_hit c.in_ok-missed.missed ≡ false = is_miss c.in_ok-missed.missed c.in_default.not-Hit in
    let still : c.get.new.self ≡ i.regions = c.in_ok-missed.ensures.state
    ∙ ap (λ (f : Found g.row.V.Denot). used_if g.K.PartialEq.eq c.args.key c.max-now.result f i.regions) (sym c.in_ok-missed.ensures.found)
    ∙ missed-still g.K.PartialEq.eq c.args.key c.max-now.result i.regions c.in_ok-missed.missed miss in
    let expire : c.expire_missed-evicted.new.regions
    ≡ (without_expired g.K.PartialEq.eq c.args.key c.max-now.result i.regions).0 =
    c.expire_missed-evicted.ensures.state
    ∙ ap (λ (r : Lists g.row.K.Denot g.row.V.Denot). (without_expired g.K.PartialEq.eq c.args.key c.max-now.result r).0) still in
    let told : c.expire_missed-evicted.new.notices
    ≡ appended (without_expired g.K.PartialEq.eq c.args.key c.max-now.result i.regions).1 c.args.notices.now =
    c.expire_missed-evicted.ensures.notices
    ∙ ap (λ (r : Lists g.row.K.Denot g.row.V.Denot). appended
    (without_expired g.K.PartialEq.eq c.args.key c.max-now.result r).1 c.args.notices.now) still in
    let evicted : c.expire_missed-evicted.result
    ≡ evictions (without_expired g.K.PartialEq.eq c.args.key c.max-now.result i.regions).1 =
    c.expire_missed-evicted.ensures.answer
    ∙ ap (λ (r : Lists g.row.K.Denot g.row.V.Denot). evictions (without_expired g.K.PartialEq.eq c.args.key c.max-now.result r).1) still in
    let is = miss-state g.K.PartialEq.eq c.args.key g.K.CacheKey.word g.V.Weighs.measure s c.args.now c.max-now.result
    c.max-now.ensures c.in_ok-missed.missed c.in_ok-missed.ensures.found miss c.expire_missed-evicted.new.regions
    c.count_key-in_default.new.sketch c.join_or_begin.new.flights c.expire_missed-evicted.result
    expire c.count_key-in_default.ensures c.in_ok-reply-in_default.ensures.state evicted in
    let fine : fault_met g.K.PartialEq.eq c.args.key i.flights ≡ None =
    met-none (fault_met g.K.PartialEq.eq c.args.key i.flights) _ c.in_ok-reply-in_default.reply
    c.in_ok-reply-in_default.ensures.refusal in
    let taken = miss-refusal g.K.PartialEq.eq c.args.key g.K.CacheKey.word g.V.Weighs.measure s c.args.now
    c.max-now.result c.max-now.ensures c.in_ok-missed.missed c.in_ok-missed.ensures.found miss
    c.in_ok-unspent.ensures.ok ∙ fine in
    let room : i.regions.caps.entries ≤ c.args.notices.now.room = rw (← c.self.view_is) at c.requires.room in
    record {
      state = rw (← c.self.view_is) is;
      answer = rw (← c.self.view_is) (c.in_ok-reply-in_default.ensures.answer
          ∙ sym (miss-reply g.K.PartialEq.eq c.args.key g.K.CacheKey.word g.V.Weighs.measure s c.args.now
          c.max-now.result c.max-now.ensures c.in_ok-missed.missed c.in_ok-missed.ensures.found miss));
      notices = rw (← c.self.view_is)
          (told ∙ ap (λ (ns : List (Notice g.row.K.Denot g.row.V.Denot)). appended ns c.args.notices.now)
          (sym (miss-notices g.K.PartialEq.eq c.args.key g.K.CacheKey.word g.V.Weighs.measure s c.args.now
          c.max-now.result c.max-now.ensures c.in_ok-missed.missed c.in_ok-missed.ensures.found miss)));
      refusal = rw (← c.self.view_is, taken) tt;
      same = rw (← c.self.view_is) (ap (λ (r : Lists g.row.K.Denot g.row.V.Denot). r.caps) expire
          ∙ (without_expired-balanced g.K.PartialEq.eq c.args.key c.max-now.result i.regions).caps);
      whole = whole-told (without_expired g.K.PartialEq.eq c.args.key c.max-now.result i.regions).1 c.args.notices.now
          c.expire_missed-evicted.new.notices told
          (balanced-told g.K.PartialEq.eq g.V.Weighs.measure i.regions
          (without_expired g.K.PartialEq.eq c.args.key c.max-now.result i.regions) c.args.notices.now.room
          c.len-len.ensures.lawful (without_expired-balanced g.K.PartialEq.eq c.args.key c.max-now.result i.regions)
          room);
      none_succeeds = λ _ _. refl;
      err = tt;
    }

pub returns-in_err-value-clause-none_succeeds : goal.returns-in_err-value-clause-none_succeeds
returns-in_err-value-clause-none_succeeds g c = λ takes allowed.
    let i = c.self.inside in
    let s : State g.row.K.Denot g.row.V.Denot = state_of i.regions i.sketch i.flights i.counts i.latest i.step in
    let req = rw (← c.self.view_is) at c.requires.opens in
    let opens : refreshes-at g.K.PartialEq.eq c.args.key c.max-now.result i.regions i.flights ≡ true =
    ap (λ m. refreshes-at g.K.PartialEq.eq c.args.key m i.regions i.flights) c.max-now.ensures ∙ (sym req ∙ c.if-opens.true) in
    let free = rw (← c.self.view_is) at takes in
    absurd (free-alone g.V.Share.is_copied g.K.PartialEq.eq g.V.Weighs.measure c.args.key s c.args.now c.max-now.result
    c.max-now.ensures free opens)

pub returns-in_err-missed-clause-none_succeeds : goal.returns-in_err-missed-clause-none_succeeds
returns-in_err-missed-clause-none_succeeds g c = λ takes allowed.
    let i = c.self.inside in
    let s : State g.row.K.Denot g.row.V.Denot = state_of i.regions i.sketch i.flights i.counts i.latest i.step in
    let free = rw (← c.self.view_is) at takes in
    let never : false ≡ true = free-seek g.V.Share.is_copied g.K.PartialEq.eq g.V.Weighs.measure c.args.key s c.args.now
    c.max-now.result c.max-now.ensures free
    (false ≡ true) c.in_err-missed.ensures.miss_succeeds c.in_err-missed.ensures.hit_succeeds in cc

pub returns-in_err-reply-in_default-clause-none_succeeds : goal.returns-in_err-reply-in_default-clause-none_succeeds
returns-in_err-reply-in_default-clause-none_succeeds g c = λ takes allowed.
    let i = c.self.inside in
    let s : State g.row.K.Denot g.row.V.Denot = state_of i.regions i.sketch i.flights i.counts i.latest i.step in
    let free = rw (← c.self.view_is) at takes in
    let miss : has_at g.K.PartialEq.eq c.args.key c.max-now.result i.regions ≡ false =
    ap is_hit (sym c.in_ok-missed.ensures.found) ∙ is_miss c.in_ok-missed.missed c.in_default.not-Hit in
    let never : false ≡ true = c.in_err-reply-in_default.ensures.join_succeeds
    (free-joins g.V.Share.is_copied g.K.PartialEq.eq g.V.Weighs.measure c.args.key s c.args.now c.max-now.result
    c.max-now.ensures free miss) in cc
