use Rattle.std.proofs.Common.{rules, inl, inr, subst}
use Rattle.wt_core.specs.declared.calls.Call.TheVariants as call
use Rattle.wt_core.specs.declared.calls.Reply.TheVariants as reply
use Rattle.wt_turns.proofs.Acted.{acted, made_of, swept}
use Rattle.wt_turns.proofs.Passed.{on_ok}
use Rattle.wt_turns.specs.Turns.{HasMade}
use Rattle.wt_trace.specs.Keys.{keys_by}
use Rattle.wt_trace.specs.declared.trace.line.Act.TheVariants as act
use Rattle.wt_trace.specs.declared.shard.version.Version.{Version}
use Rattle.wt_turns.proofs.by_turn.turns.act.Goals as goal

pub returns-in-Ok-clause-step : goal.returns-in-Ok-clause-step
returns-in-Ok-clause-step g c =
    let keys = keys_by g.K.PartialEq.eq g.K.CacheKey.word g.K.TraceKey.read g.K.TraceKey.shown in
    let options = c.args.loader.now.options in
    let cache = c.args.cache.now in
    let line = c.args.line.now in
    acted keys options cache c.args.pass.now c.get.new.pass c.args.n line (act.Get c.in-Get.key) (let i = c.in-Get.is in search (rules, i))
    (inl (record {
      got = c.in-Ok.field-0;
      before = c.args.notices.now;
      after = c.get.new.notices;
      sought =
          c.in-Ok.ensures.sought;
      moved = c.in-Ok.ensures.moved;
    }))

pub returns-in-Err-clause-step : goal.returns-in-Err-clause-step
returns-in-Err-clause-step g c =
    let keys = keys_by g.K.PartialEq.eq g.K.CacheKey.word g.K.TraceKey.read g.K.TraceKey.shown in
    let options = c.args.loader.now.options in
    let cache = c.args.cache.now in
    let line = c.args.line.now in
    on_ok c.passed_over.result (λ over. acted keys options cache c.args.pass.now c.get.new.pass c.args.n line
    (act.Get c.in-Get.key) (let i = c.in-Get.is in search (rules, i))
    (inr (record {
      fault = c.in-Err.fault;
      passed_over = over;
      before = c.args.notices.now;
      after =
          c.get.new.notices;
      tried = c.in-Err.ensures.err;
    }))) c.passed_over.ensures.ok

pub returns-in-Ok-get_if_present-clause-step : goal.returns-in-Ok-get_if_present-clause-step
returns-in-Ok-get_if_present-clause-step g c =
    let keys = keys_by g.K.PartialEq.eq g.K.CacheKey.word g.K.TraceKey.read g.K.TraceKey.shown in
    let options = c.args.loader.now.options in
    let cache = c.args.cache.now in
    let line = c.args.line.now in
    acted keys options cache c.args.pass.now c.get_if_present.new.pass c.args.n line (act.Look c.in-Look.key)
    (let i = c.in-Look.is in search (rules, i))
    (made_of keys options cache c.args.pass.now c.get_if_present.new.pass c.in-Look.key
    (call.Look c.in-Look.key line.moment)
    (λ r. r) c.args.notices.now c.get_if_present.new.notices c.in-Ok-get_if_present.field-0
    c.in-Ok-get_if_present.ensures.made)

pub returns-in-Ok-put-clause-step : goal.returns-in-Ok-put-clause-step
returns-in-Ok-put-clause-step g c =
    let keys = keys_by g.K.PartialEq.eq g.K.CacheKey.word g.K.TraceKey.read g.K.TraceKey.shown in
    let options = c.args.loader.now.options in
    let cache = c.args.cache.now in
    let line = c.args.line.now in
    acted keys options cache c.args.pass.now c.put.new.pass c.args.n line (act.Put c.in-Put.key)
    (let i = c.in-Put.is in search (rules, i))
    (inl (subst (λ (v : Version g.row.K.Denot). HasMade keys options cache c.args.pass.now c.put.new.pass
    c.in-Put.key (call.Put c.in-Put.key v line.moment)) c.version.ensures
    (made_of keys options cache c.args.pass.now c.put.new.pass c.in-Put.key
    (call.Put c.in-Put.key c.version.result line.moment)
    (λ r. reply.Stored) c.args.notices.now c.put.new.notices c.in-Ok-put.field-0
    c.in-Ok-put.ensures.made.made)))

pub returns-in-Ok-invalidate-clause-step : goal.returns-in-Ok-invalidate-clause-step
returns-in-Ok-invalidate-clause-step g c =
    let keys = keys_by g.K.PartialEq.eq g.K.CacheKey.word g.K.TraceKey.read g.K.TraceKey.shown in
    let options = c.args.loader.now.options in
    let cache = c.args.cache.now in
    let line = c.args.line.now in
    acted keys options cache c.args.pass.now c.invalidate.new.pass c.args.n line (act.Drop c.in-Drop.key)
    (let i = c.in-Drop.is in search (rules, i))
    (made_of keys options cache c.args.pass.now c.invalidate.new.pass c.in-Drop.key
    (call.DropKey c.in-Drop.key line.moment) reply.Dropped c.args.notices.now c.invalidate.new.notices
    c.in-Ok-invalidate.field-0 c.in-Ok-invalidate.ensures.made)

pub returns-in-Ok-forget-clause-step : goal.returns-in-Ok-forget-clause-step
returns-in-Ok-forget-clause-step g c =
    let keys = keys_by g.K.PartialEq.eq g.K.CacheKey.word g.K.TraceKey.read g.K.TraceKey.shown in
    let options = c.args.loader.now.options in
    let cache = c.args.cache.now in
    let line = c.args.line.now in
    acted keys options cache c.args.pass.now c.forget.new.pass c.args.n line (act.Forget c.in-Forget.key)
    (let i = c.in-Forget.is in search (rules, i))
    (made_of keys options cache c.args.pass.now c.forget.new.pass c.in-Forget.key
    (call.Forget c.in-Forget.key line.moment) reply.Forgot c.args.notices.now c.forget.new.notices
    c.in-Ok-forget.field-0 c.in-Ok-forget.ensures.made)

pub returns-in-Clean-clause-step : goal.returns-in-Clean-clause-step
returns-in-Clean-clause-step g c =
    let keys = keys_by g.K.PartialEq.eq g.K.CacheKey.word g.K.TraceKey.read g.K.TraceKey.shown in
    let options = c.args.loader.now.options in
    let cache = c.args.cache.now in
    let line = c.args.line.now in
    on_ok c.clean_up.result (λ done. acted keys options cache c.args.pass.now c.clean_up.new.pass c.args.n line
    act.Clean (let i = c.in-Clean.is in search (rules, i)) done)
    (swept keys options cache c.args.pass.now c.clean_up.new.pass
    (call.Clean line.moment) c.args.notices.now c.clean_up.new.notices c.clean_up.result
    c.clean_up.ensures.made)

pub returns-in-Clear-clause-step : goal.returns-in-Clear-clause-step
returns-in-Clear-clause-step g c =
    let keys = keys_by g.K.PartialEq.eq g.K.CacheKey.word g.K.TraceKey.read g.K.TraceKey.shown in
    let options = c.args.loader.now.options in
    let cache = c.args.cache.now in
    let line = c.args.line.now in
    on_ok c.invalidate_all.result (λ done. acted keys options cache c.args.pass.now c.invalidate_all.new.pass
    c.args.n line act.Clear (let i = c.in-Clear.is in search (rules, i)) done)
    (swept keys options cache c.args.pass.now c.invalidate_all.new.pass
    (call.Clear line.moment) c.args.notices.now c.invalidate_all.new.notices c.invalidate_all.result
    c.invalidate_all.ensures.made)
