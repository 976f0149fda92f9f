use Rattle.std.proofs.Common.{◌≡◌, ◌*◌, ◌+◌, ◌≤◌, ℕ, length, true}
use Rattle.wt_turns.specs.Turns.{AreTurns, HasHandled, is_turn}
use Rattle.wt_shards.specs.Passes.{Seen}
use Rattle.wt_trace.specs.declared.shard.version.Version.{Version}
use Rattle.wt_trace.specs.Keys.{keys_by}
use Rattle.wt_turns.proofs.by_turn.turns.Turns.do_lines.Given as goal

abbrev pub invariant-loop-line : goal.invariant-loop-line
invariant-loop-line g l =
    let own = is_turn l.self.deal.now.threads l.self.t in
    let passed : ℕ → Type 0 = λ m. g.G.Gate.answers l.gate m true in
    let acted = HasHandled (keys_by g.K.PartialEq.eq g.K.CacheKey.word g.K.TraceKey.read g.K.TraceKey.shown)
    l.self.deal.now.aids.now.loader.options l.self.cache.now in
    record {
      turns : (end : Seen g.row.K.Denot (Version g.row.K.Denot))
          → AreTurns own passed acted l.n l.rest l.pass end
          → AreTurns own passed acted l.self.deal.now.first l.self.deal.now.lines.now l.initial.pass end;
      room : 4 * l.self.cache.now.layout.config.entries ≤ l.notices.room;
      from : 1 ≤ l.n;
      numbers : l.n + length l.rest ≡ l.self.deal.now.first + length l.self.deal.now.lines.now;
    }

abbrev pub decreases-loop-line : goal.decreases-loop-line
decreases-loop-line g l = length l.rest
