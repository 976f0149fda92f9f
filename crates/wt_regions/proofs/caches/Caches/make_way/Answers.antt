use Rattle.std.proofs.Common.{rules, ◌≡◌, Some, true, false, refl, sym, ◌∙◌}
use Rattle.lru.specs.LruCache.{last_entry}
use Rattle.wt_regions.proofs.Apart.{last_below}
use Rattle.wt_regions.specs.Lists.{Entry, is_expired}
use Rattle.wt_regions.proofs.caches.Caches.make_way.Goals as goal

pub returns-then-is_expired-clause-left : goal.returns-then-is_expired-clause-left
returns-then-is_expired-clause-left g c =
    let i = c.self.inside in
    let x : Entry g.row.K.Denot g.row.V.Denot = (c.args.key, c.args.held) in
    let l : Entry g.row.K.Denot g.row.V.Denot = (c.in-Some.field-0-0.now, c.in-Some.last.now) in
    let last : last_entry i.window.entries ≡ Some (c.in-Some.field-0-0.now, c.in-Some.last.now) = search rules in
    let there = last_below x i.window.entries l last in
    let old : is_expired i.caps c.args.held.written c.in-Some.last.now ≡ true = sym c.is_expired.ensures ∙ c.if-is_expired.true in
    rw (← c.self.view_is, there, old, c.in_ok-left.ensures.left, last) refl

pub returns-then-is_expired-clause-state : goal.returns-then-is_expired-clause-state
returns-then-is_expired-clause-state g c =
    let i = c.self.inside in
    let x : Entry g.row.K.Denot g.row.V.Denot = (c.args.key, c.args.held) in
    let l : Entry g.row.K.Denot g.row.V.Denot = (c.in-Some.field-0-0.now, c.in-Some.last.now) in
    let last : last_entry i.window.entries ≡ Some (c.in-Some.field-0-0.now, c.in-Some.last.now) = search rules in
    let there = last_below x i.window.entries l last in
    let old : is_expired i.caps c.args.held.written c.in-Some.last.now ≡ true = sym c.is_expired.ensures ∙ c.if-is_expired.true in
    rw (c.in_ok-left.ensures.state, ← c.self.view_is, there, old) refl

pub returns-clause-state : goal.returns-clause-state
returns-clause-state g c =
    let i = c.self.inside in
    let x : Entry g.row.K.Denot g.row.V.Denot = (c.args.key, c.args.held) in
    let l : Entry g.row.K.Denot g.row.V.Denot = (c.in-Some.field-0-0.now, c.in-Some.last.now) in
    let last : last_entry i.window.entries ≡ Some (c.in-Some.field-0-0.now, c.in-Some.last.now) = search rules in
    let there = last_below x i.window.entries l last in
    let young : is_expired i.caps c.args.held.written c.in-Some.last.now ≡ false = sym c.is_expired.ensures ∙ c.if-is_expired.false in
    rw (c.in_ok-pass_on.ensures.state, ← c.self.view_is, there, last, young) refl

pub returns-clause-left : goal.returns-clause-left
returns-clause-left g c =
    let i = c.self.inside in
    let x : Entry g.row.K.Denot g.row.V.Denot = (c.args.key, c.args.held) in
    let l : Entry g.row.K.Denot g.row.V.Denot = (c.in-Some.field-0-0.now, c.in-Some.last.now) in
    let last : last_entry i.window.entries ≡ Some (c.in-Some.field-0-0.now, c.in-Some.last.now) = search rules in
    let there = last_below x i.window.entries l last in
    let young : is_expired i.caps c.args.held.written c.in-Some.last.now ≡ false = sym c.is_expired.ensures ∙ c.if-is_expired.false in
    rw (← c.self.view_is, there, young) refl
