use Rattle.std.proofs.Common.{rules, ◌≡◌, Some, true, false, refl, sym, ◌∙◌}
use Rattle.lru.specs.LruCache.{last_entry}
use Rattle.wt_regions.proofs.Sweeps.{out, stays}
use Rattle.wt_regions.specs.Lists.{is_expired}
use Rattle.wt_regions.proofs.sweep.clean_in.Goals as goal

pub overflow_sub-weight : goal.overflow_sub-weight
overflow_sub-weight g c =
    let last : last_entry c.loop-left.cache.entries ≡ Some (c.in-Some.key.now, c.in-Some.held.now) = search rules in
    let old : is_expired c.args.caps.now c.args.now c.in-Some.held.now ≡ true = sym c.is_expired.ensures ∙ c.if-is_expired.true in
    let told = rw (c.pop_lru.ensures.value, last) at c.tell_left-weight.ensures.notices in
    let o = out g.K.PartialEq.eq (g.met.K.Eq g.world.𝓛 g.world.𝓜 g.world.𝓡
    ((λ s x. x), (λ x. x), (λ x. x), λ x. x)).laws c.args.now c.args.caps.now c.args.cache.now.entries
    c.args.notices.now c.args.weight c.loop-left.left c.loop-left.cache.entries c.loop-left.notices
    c.loop-left.weight (c.in-Some.key.now, c.in-Some.held.now) c.tell_left-weight.new.notices c.loop-left-test.true
    c.loop-left.invariant.0 last old told in
    rw (c.tell_left-weight.ensures.weight, c.pop_lru.ensures.value, last) o.1

pub loop-left-preserved-then-is_expired : goal.loop-left-preserved-then-is_expired
loop-left-preserved-then-is_expired g c =
    let last : last_entry c.loop-left.cache.entries ≡ Some (c.in-Some.key.now, c.in-Some.held.now) = search rules in
    let old : is_expired c.args.caps.now c.args.now c.in-Some.held.now ≡ true = sym c.is_expired.ensures ∙ c.if-is_expired.true in
    let told = rw (c.pop_lru.ensures.value, last) at c.tell_left-weight.ensures.notices in
    let o = out g.K.PartialEq.eq (g.met.K.Eq g.world.𝓛 g.world.𝓜 g.world.𝓡
    ((λ s x. x), (λ x. x), (λ x. x), λ x. x)).laws c.args.now c.args.caps.now c.args.cache.now.entries
    c.args.notices.now c.args.weight c.loop-left.left c.loop-left.cache.entries c.loop-left.notices
    c.loop-left.weight (c.in-Some.key.now, c.in-Some.held.now) c.tell_left-weight.new.notices c.loop-left-test.true
    c.loop-left.invariant.0 last old told in
    rw (c.tell_left-weight.ensures.weight, c.pop_lru.ensures.value, last, c.pop_lru.ensures.entries) (o.0, c.loop-left.invariant.1)

pub loop-left-preserved : goal.loop-left-preserved
loop-left-preserved g c =
    let last : last_entry c.loop-left.cache.entries ≡ Some (c.in-Some.key.now, c.in-Some.held.now) = search rules in
    let fresh : is_expired c.args.caps.now c.args.now c.in-Some.held.now ≡ false = sym c.is_expired.ensures ∙ c.if-is_expired.false in
    let o = stays g.K.PartialEq.eq (g.met.K.Eq g.world.𝓛 g.world.𝓜 g.world.𝓡
    ((λ s x. x), (λ x. x), (λ x. x), λ x. x)).laws c.args.now c.args.caps.now c.args.cache.now.entries
    c.args.notices.now c.args.weight c.loop-left.left c.loop-left.cache.entries c.loop-left.notices
    c.loop-left.weight (c.in-Some.key.now, c.in-Some.held.now) _ c.loop-left-test.true c.loop-left.invariant.0 last
    fresh refl in
    rw c.promote.ensures.entries (o, c.loop-left.invariant.1)
