use Rattle.std.proofs.Common.{◌<◌, ◌≤◌}
use Rattle.wt_regions.proofs.Loop.{trimming-turn, trimming-done, trimming-stuck}
use Rattle.wt_regions.proofs.caches.Caches.trim.Goals as goal

pub loop-self-preserved : goal.loop-self-preserved
loop-self-preserved g c =
    let over : c.loop-self.self.caps.bound < c.loop-self.weight = rw (← c.self.view_is) c.loop-self-test.true in
    (trimming-turn g.K.PartialEq.eq c.args.key c.args.self.now c.args.notices.now c.loop-self.self c.loop-self.notices
    c.loop-self.weight c.in-Some.left c.trim_once.new.self c.trim_once.new.notices c.loop-self.invariant over
    c.in-Some.ensures).0

pub returns-in-None-clause-state : goal.returns-in-None-clause-state
returns-in-None-clause-state g c =
    (trimming-stuck g.K.PartialEq.eq c.args.key c.args.self.now c.args.notices.now c.loop-self.self c.loop-self.notices
    c.loop-self.weight c.trim_once.new.self c.trim_once.new.notices c.loop-self.invariant c.in-None.ensures).0

pub returns-in-None-clause-notices : goal.returns-in-None-clause-notices
returns-in-None-clause-notices g c =
    (trimming-stuck g.K.PartialEq.eq c.args.key c.args.self.now c.args.notices.now c.loop-self.self c.loop-self.notices
    c.loop-self.weight c.trim_once.new.self c.trim_once.new.notices c.loop-self.invariant c.in-None.ensures).1

pub returns-clause-state : goal.returns-clause-state
returns-clause-state g c =
    let low : c.loop-self.weight ≤ c.loop-self.self.caps.bound = rw (← c.self.view_is) c.loop-self-test.false in
    (trimming-done g.K.PartialEq.eq c.args.key c.args.self.now c.args.notices.now c.loop-self.self c.loop-self.notices
    c.loop-self.weight c.loop-self.invariant low).0

pub returns-clause-notices : goal.returns-clause-notices
returns-clause-notices g c =
    let low : c.loop-self.weight ≤ c.loop-self.self.caps.bound = rw (← c.self.view_is) c.loop-self-test.false in
    (trimming-done g.K.PartialEq.eq c.args.key c.args.self.now c.args.notices.now c.loop-self.self c.loop-self.notices
    c.loop-self.weight c.loop-self.invariant low).1
