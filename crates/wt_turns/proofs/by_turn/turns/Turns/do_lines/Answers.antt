use Rattle.std.proofs.Common.{ℕ, true, arith}
use Rattle.wt_turns.specs.Turns.{HasHandled, is_turn}
use Rattle.wt_trace.specs.Keys.{keys_by}
use Rattle.wt_turns.proofs.Dealt.{no_turn, turn_before}
use Rattle.wt_turns.proofs.by_turn.turns.Turns.do_lines.Goals as goal

pub loop-line-preserved : goal.loop-line-preserved
loop-line-preserved g c =
    let self = c.args.self.now in
    let passed : ℕ → Type 0 = λ m. g.G.Gate.answers c.args.gate.now m true in
    let acted = HasHandled (keys_by g.K.PartialEq.eq g.K.CacheKey.word g.K.TraceKey.read g.K.TraceKey.shown)
    self.deal.now.aids.now.loader.options self.cache.now in
    record {
      turns = λ end later. c.loop-line.invariant.turns end
          (turn_before (is_turn self.deal.now.threads self.t) passed acted c.loop-line.n c.in-Some.line.now c.loop-line.rest.now
          c.in-Some.after.now _ _ c.in-Some.ensures.cases.0 c.in_ok-take_turn.ensures.turn end later);
      room = c.in_ok-take_turn.ensures.room;
      from = omega (arith, c.loop-line.invariant.from);
      numbers = omega (arith, c.loop-line.invariant.numbers, c.in-Some.ensures.cases.1);
    }

pub returns-clause-turns : goal.returns-clause-turns
returns-clause-turns g c =
    let self = c.args.self.now in
    let passed : ℕ → Type 0 = λ m. g.G.Gate.answers c.args.gate.now m true in
    let acted = HasHandled (keys_by g.K.PartialEq.eq g.K.CacheKey.word g.K.TraceKey.read g.K.TraceKey.shown)
    self.deal.now.aids.now.loader.options self.cache.now in
    c.loop-line.invariant.turns _ (no_turn
    (is_turn self.deal.now.threads self.t) passed acted c.loop-line.n c.loop-line.rest.now _
    c.in_default.ensures.cases)
