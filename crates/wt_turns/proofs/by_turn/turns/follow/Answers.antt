use Rattle.std.proofs.Common.{rules, ◌≡◌, ◌∙◌, ap, sym, Some, true}
use Rattle.std.specs.Prelude.{is_some, nat_lt}
use Rattle.wt_trace.specs.Keys.{keys_by}
use Rattle.wt_trace.specs.Line.{looked_up}
use Rattle.wt_turns.proofs.Acted.{followed}
use Rattle.wt_turns.proofs.by_turn.turns.follow.Goals as goal

pub returns-in-Ok-clause-step : goal.returns-in-Ok-clause-step
returns-in-Ok-clause-step g c =
    let keys = keys_by g.K.PartialEq.eq g.K.CacheKey.word g.K.TraceKey.read g.K.TraceKey.shown in
    let aids = c.args.aids.now in
    let line = c.args.line.now in
    let key = c.in-Some-looked_up.key in
    let some : aids.followers ≡ Some c.in-Some.followers = let i = c.in-Some.is in search (rules, i) in
    let follows : nat_lt 0 aids.loader.options.adaptive ≡ true = sym aids.follows ∙ ap is_some some in
    let looks : looked_up line.act ≡ Some key =
    let i = c.looked_up.ensures in let j = c.in-Some-looked_up.is in search (rules, i, j) in
    followed keys aids.loader.options c.args.cache.now c.args.pass.now c.follow.new.pass line key follows looks
    (record {
      slides = c.in-Ok.field-0;
      before = c.args.notices.now;
      after = c.follow.new.notices;
      followed = c.in-Ok.ensures.made;
    })
