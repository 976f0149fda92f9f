use Rattle.std.proofs.Common.{subst, true}
use Rattle.wt_turns.specs.Turns.{AreTurns, HasHandled, is_turn}
use Rattle.wt_shards.specs.Passes.{Seen}
use Rattle.wt_trace.specs.declared.shard.version.Version.{Version}
use Rattle.wt_trace.specs.Keys.{keys_by}
use Rattle.wt_turns.proofs.by_turn.turns.run_thread.Goals as goal

pub returns-in-Ok-do_all : goal.returns-in-Ok-do_all
returns-in-Ok-do_all g c =
    let deal = c.args.deal.now in
    let acted = HasHandled (keys_by g.K.PartialEq.eq g.K.CacheKey.word g.K.TraceKey.read g.K.TraceKey.shown)
    deal.aids.now.loader.options c.args.cache.now in
    let turns = subst (λ (p : Seen g.row.K.Denot (Version g.row.K.Denot)). AreTurns
    (is_turn deal.threads c.args.t)
    (λ n. g.G.Gate.answers c.args.gate.now n true) acted deal.first deal.lines.now p c.do_all.new.pass)
    c.in-Ok.ensures.ok c.in-Ok-do_all.ensures.turns in
    record { made = record { turns = turns; err = tt } }
