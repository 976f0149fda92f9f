use Rattle.std.proofs.Common.{rules, ◌≡◌, [], Some, None}
use Rattle.lru.specs.LruCache.{last_entry}
use Rattle.wt_regions.proofs.Sweeps.{clearing-turn, clearing-end, cache-is}
use Rattle.wt_regions.proofs.sweep.clear_in.Goals as goal

pub loop-held-preserved : goal.loop-held-preserved
loop-held-preserved g c =
    let last : last_entry c.loop-held.cache.entries ≡ Some (c.in-Some.field-0-0.now, c.in-Some.held.now) = search rules in
    let told = rw (c.pop_lru.ensures.value, last, c.cause_of-cause.ensures) at c.tell_left.ensures.notices in
    let o = clearing-turn c.args.now c.args.caps.now c.args.cache.now.entries c.args.notices.now
    c.loop-held.cache.entries c.loop-held.notices
    (c.in-Some.field-0-0.now, c.in-Some.held.now) c.tell_left.new.notices c.loop-held.invariant.0 last told in
    rw c.pop_lru.ensures.entries (o.0, c.loop-held.invariant.1)

pub returns-clause-state : goal.returns-clause-state
returns-clause-state g c =
    let none : last_entry c.loop-held.cache.entries ≡ None = search rules in
    let e = clearing-end c.args.now c.args.caps.now c.args.cache.now.entries c.args.notices.now
    c.loop-held.cache.entries c.loop-held.notices c.loop-held.invariant.0 none in
    cache-is c.loop-held.cache [] c.args.cache.now.cap e.0 c.loop-held.invariant.1

pub returns-clause-notices : goal.returns-clause-notices
returns-clause-notices g c =
    let none : last_entry c.loop-held.cache.entries ≡ None = search rules in
    (clearing-end c.args.now c.args.caps.now c.args.cache.now.entries c.args.notices.now c.loop-held.cache.entries
    c.loop-held.notices c.loop-held.invariant.0 none).1
