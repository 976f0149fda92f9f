use Rattle.std.proofs.Common.{rules, arith, ◌≡◌, ◌∷◌, List, Some, ap, sym, ◌∙◌}
use Rattle.lru.specs.LruCache.{last_entry}
use Rattle.wt_regions.specs.declared.notices.Notice.{Notice}
use Rattle.wt_sketch.specs.Sketch.{estimate_of}
use Rattle.wt_regions.proofs.Apart.{last_below}
use Rattle.wt_regions.proofs.Fates.{overflowed-leaves, overflowed-enters, overflowed-ousts-0, overflowed-ousts-1}
use Rattle.wt_regions.proofs.Loop.{appended-none}
use Rattle.wt_regions.proofs.Weights.{weight-window, weight-probation, weight-enters}
use Rattle.wt_regions.specs.Lists.{Entry, Lists, all_but_last, lists_of, weight_of}
use Rattle.wt_regions.specs.Notices.{appended}
use Rattle.wt_regions.proofs.caches.Caches.settle_full.Goals as goal

pub returns-in_ok-left-in-Leaves-clause-state : goal.returns-in_ok-left-in-Leaves-clause-state
returns-in_ok-left-in-Leaves-clause-state g c =
    let i = c.self.inside in
    let x : Entry g.row.K.Denot g.row.V.Denot = (c.args.key, c.args.held) in
    let l : Entry g.row.K.Denot g.row.V.Denot = (c.in-Some.last_key.now, c.in-Some.last.now) in
    let last : last_entry i.window.entries ≡ Some (c.in-Some.last_key.now, c.in-Some.last.now) = search rules in
    let there = last_below x i.window.entries l last in
    let r : Lists g.row.K.Denot g.row.V.Denot = lists_of i.caps (x ∷ i.window.entries) i.probation.entries i.protected.entries in
    let is = rw (← c.self.view_is) at (sym c.fate_of.ensures ∙ c.in-Leaves.is) in
    let o = overflowed-leaves (λ k. estimate_of c.args.sketch.now (g.K.CacheKey.word k)) c.args.held.written r l
    c.in-Leaves.cause there is in
    rw (c.in_ok-left-in-Leaves.ensures.state, ← c.self.view_is)
    (sym (ap (λ (p : Lists g.row.K.Denot g.row.V.Denot × List (Notice g.row.K.Denot g.row.V.Denot)). p.0) o))

pub returns-in_ok-left-in-Leaves-clause-notices : goal.returns-in_ok-left-in-Leaves-clause-notices
returns-in_ok-left-in-Leaves-clause-notices g c =
    let i = c.self.inside in
    let x : Entry g.row.K.Denot g.row.V.Denot = (c.args.key, c.args.held) in
    let l : Entry g.row.K.Denot g.row.V.Denot = (c.in-Some.last_key.now, c.in-Some.last.now) in
    let last : last_entry i.window.entries ≡ Some (c.in-Some.last_key.now, c.in-Some.last.now) = search rules in
    let there = last_below x i.window.entries l last in
    let r : Lists g.row.K.Denot g.row.V.Denot = lists_of i.caps (x ∷ i.window.entries) i.probation.entries i.protected.entries in
    let is = rw (← c.self.view_is) at (sym c.fate_of.ensures ∙ c.in-Leaves.is) in
    let o = overflowed-leaves (λ k. estimate_of c.args.sketch.now (g.K.CacheKey.word k)) c.args.held.written r l
    c.in-Leaves.cause there is in
    rw (c.tell_left.ensures.notices, c.in_ok-left-in-Leaves.ensures.left, last, ← c.self.view_is)
    (ap (λ (ns : List (Notice g.row.K.Denot g.row.V.Denot)). appended ns c.args.notices.now)
    (sym (ap (λ (p : Lists g.row.K.Denot g.row.V.Denot × List (Notice g.row.K.Denot g.row.V.Denot)). p.1) o)))

pub returns-in_ok-left-in-Leaves-clause-weight : goal.returns-in_ok-left-in-Leaves-clause-weight
returns-in_ok-left-in-Leaves-clause-weight g c =
    let i = c.self.inside in
    let x : Entry g.row.K.Denot g.row.V.Denot = (c.args.key, c.args.held) in
    let l : Entry g.row.K.Denot g.row.V.Denot = (c.in-Some.last_key.now, c.in-Some.last.now) in
    let last : last_entry i.window.entries ≡ Some (c.in-Some.last_key.now, c.in-Some.last.now) = search rules in
    let there = last_below x i.window.entries l last in
    let w = rw there at (weight-window i.caps (x ∷ i.window.entries) i.probation.entries i.protected.entries) in
    rw (c.tell_left.ensures.weight, c.in_ok-left-in-Leaves.ensures.left, last, c.in_ok-left-in-Leaves.ensures.state, ← c.self.view_is) w

pub returns-in_ok-pass_on-in-Enters-clause-state :
    goal.returns-in_ok-pass_on-in-Enters-clause-state
returns-in_ok-pass_on-in-Enters-clause-state g c =
    let i = c.self.inside in
    let x : Entry g.row.K.Denot g.row.V.Denot = (c.args.key, c.args.held) in
    let l : Entry g.row.K.Denot g.row.V.Denot = (c.in-Some.last_key.now, c.in-Some.last.now) in
    let last : last_entry i.window.entries ≡ Some (c.in-Some.last_key.now, c.in-Some.last.now) = search rules in
    let there = last_below x i.window.entries l last in
    let r : Lists g.row.K.Denot g.row.V.Denot = lists_of i.caps (x ∷ i.window.entries) i.probation.entries i.protected.entries in
    let is = rw (← c.self.view_is) at (sym c.fate_of.ensures ∙ c.in-Enters.is) in
    let o = overflowed-enters (λ k. estimate_of c.args.sketch.now (g.K.CacheKey.word k)) c.args.held.written r l there is in
    rw (c.in_ok-pass_on-in-Enters.ensures.state, ← c.self.view_is, last)
    (sym (ap (λ (p : Lists g.row.K.Denot g.row.V.Denot × List (Notice g.row.K.Denot g.row.V.Denot)). p.0) o))

pub returns-in_ok-pass_on-in-Enters-clause-notices :
    goal.returns-in_ok-pass_on-in-Enters-clause-notices
returns-in_ok-pass_on-in-Enters-clause-notices g c =
    let i = c.self.inside in
    let x : Entry g.row.K.Denot g.row.V.Denot = (c.args.key, c.args.held) in
    let l : Entry g.row.K.Denot g.row.V.Denot = (c.in-Some.last_key.now, c.in-Some.last.now) in
    let last : last_entry i.window.entries ≡ Some (c.in-Some.last_key.now, c.in-Some.last.now) = search rules in
    let there = last_below x i.window.entries l last in
    let r : Lists g.row.K.Denot g.row.V.Denot = lists_of i.caps (x ∷ i.window.entries) i.probation.entries i.protected.entries in
    let is = rw (← c.self.view_is) at (sym c.fate_of.ensures ∙ c.in-Enters.is) in
    let o = overflowed-enters (λ k. estimate_of c.args.sketch.now (g.K.CacheKey.word k)) c.args.held.written r l there is in
    rw (← c.self.view_is) (sym (appended-none c.args.notices.now)
    ∙ ap (λ (ns : List (Notice g.row.K.Denot g.row.V.Denot)). appended ns c.args.notices.now)
    (sym (ap (λ (p : Lists g.row.K.Denot g.row.V.Denot × List (Notice g.row.K.Denot g.row.V.Denot)). p.1) o)))

pub returns-in_ok-pass_on-in-Enters-clause-weight :
    goal.returns-in_ok-pass_on-in-Enters-clause-weight
returns-in_ok-pass_on-in-Enters-clause-weight g c =
    let i = c.self.inside in
    let x : Entry g.row.K.Denot g.row.V.Denot = (c.args.key, c.args.held) in
    let l : Entry g.row.K.Denot g.row.V.Denot = (c.in-Some.last_key.now, c.in-Some.last.now) in
    let last : last_entry i.window.entries ≡ Some (c.in-Some.last_key.now, c.in-Some.last.now) = search rules in
    let there = last_below x i.window.entries l last in
    let w = weight-enters i.caps l (x ∷ i.window.entries) i.probation.entries i.protected.entries there in
    rw (c.in_ok-pass_on-in-Enters.ensures.state, ← c.self.view_is, last) w

pub returns-in_ok-pass_on-in-Ousts-clause-state : goal.returns-in_ok-pass_on-in-Ousts-clause-state
returns-in_ok-pass_on-in-Ousts-clause-state g c =
    let i = c.self.inside in
    let s = c.self-in-Ousts.inside in
    let x : Entry g.row.K.Denot g.row.V.Denot = (c.args.key, c.args.held) in
    let l : Entry g.row.K.Denot g.row.V.Denot = (c.in-Some.last_key.now, c.in-Some.last.now) in
    let last : last_entry i.window.entries ≡ Some (c.in-Some.last_key.now, c.in-Some.last.now) = search rules in
    let there = last_below x i.window.entries l last in
    let after = rw (← c.self.view_is, last) at c.in_ok-pass_on-in-Ousts.ensures.state in
    let now : lists_of s.caps s.window.entries s.probation.entries s.protected.entries
    ≡ lists_of i.caps (all_but_last (x ∷ i.window.entries)) (l ∷ i.probation.entries) i.protected.entries =
    c.self-in-Ousts.view_is ∙ after in
    let r : Lists g.row.K.Denot g.row.V.Denot = lists_of i.caps (x ∷ i.window.entries) i.probation.entries i.protected.entries in
    let is = rw (← c.self.view_is) at (sym c.fate_of.ensures ∙ c.in-Ousts.is) in
    let told = overflowed-ousts-0 (λ k. estimate_of c.args.sketch.now (g.K.CacheKey.word k)) c.args.held.written r l
    c.in-Ousts.cause there is in
    let out = ap (λ (r : Lists g.row.K.Denot g.row.V.Denot). lists_of r.caps r.window (all_but_last r.probation) r.protected) now in
    rw (c.pop_lru.ensures.entries, ← c.self.view_is) (out ∙ sym told)

pub returns-in_ok-pass_on-in-Ousts-clause-notices :
    goal.returns-in_ok-pass_on-in-Ousts-clause-notices
returns-in_ok-pass_on-in-Ousts-clause-notices g c =
    let i = c.self.inside in
    let s = c.self-in-Ousts.inside in
    let x : Entry g.row.K.Denot g.row.V.Denot = (c.args.key, c.args.held) in
    let l : Entry g.row.K.Denot g.row.V.Denot = (c.in-Some.last_key.now, c.in-Some.last.now) in
    let last : last_entry i.window.entries ≡ Some (c.in-Some.last_key.now, c.in-Some.last.now) = search rules in
    let there = last_below x i.window.entries l last in
    let after = rw (← c.self.view_is, last) at c.in_ok-pass_on-in-Ousts.ensures.state in
    let now : lists_of s.caps s.window.entries s.probation.entries s.protected.entries
    ≡ lists_of i.caps (all_but_last (x ∷ i.window.entries)) (l ∷ i.probation.entries) i.protected.entries =
    c.self-in-Ousts.view_is ∙ after in
    let r : Lists g.row.K.Denot g.row.V.Denot = lists_of i.caps (x ∷ i.window.entries) i.probation.entries i.protected.entries in
    let is = rw (← c.self.view_is) at (sym c.fate_of.ensures ∙ c.in-Ousts.is) in
    let told = overflowed-ousts-1 (λ k. estimate_of c.args.sketch.now (g.K.CacheKey.word k)) c.args.held.written r l
    c.in-Ousts.cause there is in
    let pushed = ap (λ (r : Lists g.row.K.Denot g.row.V.Denot). r.probation) now in
    rw (c.tell_left-in-Ousts.ensures.notices, c.pop_lru.ensures.value, pushed, ← c.self.view_is)
    (ap (λ (ns : List (Notice g.row.K.Denot g.row.V.Denot)). appended ns c.args.notices.now) (sym told))

pub returns-in_ok-pass_on-in-Ousts-clause-weight :
    goal.returns-in_ok-pass_on-in-Ousts-clause-weight
returns-in_ok-pass_on-in-Ousts-clause-weight g c =
    let i = c.self.inside in
    let s = c.self-in-Ousts.inside in
    let x : Entry g.row.K.Denot g.row.V.Denot = (c.args.key, c.args.held) in
    let l : Entry g.row.K.Denot g.row.V.Denot = (c.in-Some.last_key.now, c.in-Some.last.now) in
    let last : last_entry i.window.entries ≡ Some (c.in-Some.last_key.now, c.in-Some.last.now) = search rules in
    let there = last_below x i.window.entries l last in
    let after = rw (← c.self.view_is, last) at c.in_ok-pass_on-in-Ousts.ensures.state in
    let now : lists_of s.caps s.window.entries s.probation.entries s.protected.entries
    ≡ lists_of i.caps (all_but_last (x ∷ i.window.entries)) (l ∷ i.probation.entries) i.protected.entries =
    c.self-in-Ousts.view_is ∙ after in
    let gone = weight-probation s.caps s.window.entries s.probation.entries s.protected.entries in
    let same = ap (λ (r : Lists g.row.K.Denot g.row.V.Denot). weight_of r) now in
    let w = weight-enters i.caps l (x ∷ i.window.entries) i.probation.entries i.protected.entries there in
    let moved : weight_of (lists_of i.caps (all_but_last (x ∷ i.window.entries))
    (l ∷ i.probation.entries) i.protected.entries)
    ≡ weight_of (lists_of i.caps (x ∷ i.window.entries) i.probation.entries i.protected.entries) =
    omega (arith, w) in
    rw (c.tell_left-in-Ousts.ensures.weight, c.pop_lru.ensures.value, c.pop_lru.ensures.entries, ← c.self.view_is) (gone ∙ same ∙ moved)
