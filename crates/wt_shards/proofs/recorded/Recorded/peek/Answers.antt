use Rattle.std.proofs.Common.{List, ap, subst}
use mathlib.Core.List.{IsPrefix}
use Rattle.wt_core.specs.declared.calls.Call.{Call}
use Rattle.wt_shards.specs.Passes.{ShardPass}
use Rattle.wt_shards.proofs.Shown.{peek-behind}
use Rattle.wt_shards.proofs.recorded.Recorded.peek.Goals as goal

pub returns-in-Ok-clause-made : goal.returns-in-Ok-clause-made
returns-in-Ok-clause-made g c =
    let K = g.row.K.Denot in
    let V = g.row.V.Denot in
    let calls : List (Call K V) = c.self.inside.history.entries in
    let before = subst (λ (w : List (Call K V)). IsPrefix w calls) (ap (λ (m : ShardPass K V). m.front) c.pass.view_is) c.show.ensures.before in
    record {
      made = peek-behind g.K.PartialEq.eq g.K.CacheKey.word g.V.Weighs.measure g.V.Answers.answers g.S.ShardLedger.place
          c.args.key c.args.now c.self.inside.shard.core calls _ _ _ c.self.invariant.0 c.self.invariant.1
          c.steps-step.ensures.lawful before c.show.ensures.seen c.in-Ok.ensures.answer;
      memory = tt;
      same = ap (λ (m : ShardPass K V). m.counts) c.pass.view_is;
      err = tt;
    }
