use Rattle.std.proofs.Common.{true, ◌≡◌, ◌+◌, ◌++◌, ◌∙◌, ℕ, List, length, ap, sym, subst, arith}
use Rattle.wt_core.specs.State.{stats_of}
use Rattle.wt_trace.specs.Answers.{line_step, answers_from, belongs, new_cache}
use Rattle.wt_trace.specs.declared.trace.line.Line.{Line}
use Rattle.wt_trace.specs.Keys.{keys_by}
use Rattle.wt_trace.specs.Pieces.{pieces}
use Rattle.wt_trace.proofs.InOrder.{IsSoFar, more_line, no_line, answers-all}
use Rattle.wt_trace.specs.Stops.{AreAsked}
use Rattle.wt_trace.proofs.Stopped.{stopped, none_left}
use Rattle.wt_trace.proofs.shard.answers_of.Goals as goal

pub loop-line-preserved : goal.loop-line-preserved
loop-line-preserved g c =
    let keys = keys_by g.K.PartialEq.eq g.K.CacheKey.word g.K.TraceKey.read g.K.TraceKey.shown in
    let inv = c.loop-line.invariant in
    let o = c.args.job.now.options.now in
    let number = c.args.number in
    let all = answers_from keys o number c.args.first c.args.lines (new_cache o) in
    let done = c.in_ok-add_line.ensures in
    let n = c.loop-line.n in
    let line = c.in-Some.line.now in
    let w = c.loop-line.shard in
    let t = c.add_line.new.self in
    let before = c.loop-line.text.items in
    let after = c.add_line.new.text.items in
    let rest = c.next.new.self in
    let cache : t.cache ≡ (line_step keys o number n line w.cache).cache = rw (inv.options, inv.number) at done.made.cache in
    let text : after ≡ before ++ (line_step keys o number n line w.cache).text = rw (inv.options, inv.number) at done.made.text in
    let far = more_line keys o number all before c.loop-line.ends.items n line c.loop-line.rest rest
    w.cache t.cache after c.in-Some.ensures cache text inv.far in
    let passed : ℕ → Type 0 = λ m. g.G.Gate.answers c.args.job.now.gate.now m true in
    let asked : belongs keys o number line.act ≡ true → passed n = rw (inv.options, inv.number) at done.asked in
    let left : length c.loop-line.rest ≡ length rest + 1 = ap length c.in-Some.ensures ∙ omega arith in
    let so_far : List ℕ → Type 0 = λ es. IsSoFar keys o number all after es (n + 1) rest t.cache in
    let through : List (Line g.row.K.Denot) → Type 0 = λ ls. AreAsked (belongs keys o number) passed n ls in
    record {
      far = subst so_far (sym done.ends) far;
      options = done.made.same.0 ∙ inv.options;
      number = done.made.same.1 ∙ inv.number;
      asked = λ more. inv.asked (subst through (sym c.in-Some.ensures) (asked, more));
      numbers = omega (arith, inv.numbers, left);
    }

pub returns : goal.returns
returns g c =
    let keys = keys_by g.K.PartialEq.eq g.K.CacheKey.word g.K.TraceKey.read g.K.TraceKey.shown in
    let inv = c.loop-line.invariant in
    let o = c.args.job.now.options.now in
    let number = c.args.number in
    let w = c.loop-line.shard in
    let all = answers_from keys o number c.args.first c.args.lines (new_cache o) in
    let text = c.loop-line.text.items in
    let ends = c.loop-line.ends.items in
    let none = ap length c.in_default.ensures in
    let whole = no_line keys o number all text ends c.loop-line.n c.loop-line.rest w.cache none inv.far in
    let is : c.stats.result ≡ stats_of w.cache.state = c.stats.ensures.numbers in
    let passed : ℕ → Type 0 = λ m. g.G.Gate.answers c.args.job.now.gate.now m true in
    record {
      made = record {
        answers = (λ j. record { texts = pieces text 0 ends; stats = is j })
            ∙ whole ∙ answers-all keys o c.args.first c.args.lines number;
        asked = inv.asked (none_left (belongs keys o number) passed c.loop-line.n c.loop-line.rest none);
        err = tt;
      };
    }

pub returns-in_err-add_line : goal.returns-in_err-add_line
returns-in_err-add_line g c =
    let keys = keys_by g.K.PartialEq.eq g.K.CacheKey.word g.K.TraceKey.read g.K.TraceKey.shown in
    let job = c.args.job.now in
    let passed_on = c.from_residual in
    record {
      made = stopped keys job.options.now (g.G.Gate.answers job.gate.now) c.args.first c.args.lines c.args.number
          passed_on.result c.in_err-add_line.field-0.0 passed_on.ensures.1 c.in_err-add_line.ensures.err;
    }
