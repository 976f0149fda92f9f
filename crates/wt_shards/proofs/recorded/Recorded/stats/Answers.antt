use Rattle.std.proofs.Common.{List, sym, subst}
use Rattle.wt_core.specs.declared.calls.Call.{Call}
use Rattle.wt_shards.specs.Members.{members_by}
use Rattle.wt_shards.specs.Numbers.{AreNumbersOf}
use Rattle.wt_shards.proofs.AllNumbers.{numbers-of}
use Rattle.wt_shards.proofs.recorded.Recorded.stats.Goals as goal

pub returns-clause-made : goal.returns-clause-made
returns-clause-made g c =
    let K = g.row.K.Denot in
    let V = g.row.V.Denot in
    let members = members_by g.K.PartialEq.eq g.K.CacheKey.word g.V.Weighs.measure g.V.Answers.answers in
    let place = g.S.ShardLedger.place in
    subst (λ (calls : List (Call K V)). AreNumbersOf members place calls c.stats-stats.result) (sym c.show.ensures.seen)
    (numbers-of members place c.self.inside.history.entries c.self.inside.shard.core c.stats-stats.result c.self.invariant.0
    c.self.invariant.1 c.steps-step.ensures.lawful c.stats-stats.ensures.numbers c.stats-stats.ensures.small)
