use Rattle.std.proofs.Common.{rules, ◌≡◌, ◌∙◌, ap, sym, subst, List, None, Err, false, true}
use Rattle.std.proofs.lemmas.Result.{err_from_is_err_and}
use Rattle.wt_trace.specs.Stops.{AreAsked}
use Rattle.wt_trace.specs.declared.trace.line.Line.{Line}
use Rattle.wt_turns.specs.ByTurn.{first_open}
use Rattle.wt_trace.specs.Trace.{lines_of, trace_from}
use Rattle.wt_turns.proofs.Faulty.{faulty_verdict, not_there}
use Rattle.wt_trace.proofs.Traces.{verdict_of-trace}
use Rattle.wt_turns.proofs.by_turn.sums_of_trace.Goals as goal

pub returns-in_err-read : goal.returns-in_err-read
returns-in_err-read g c =
    let t = trace_from g.K.TraceKey.read c.args.first (lines_of c.args.bytes.now) in
    let none : first_open c.args.first t.lines ≡ None =
    ap (first_open c.args.first) (sym (c.deref.ensures.value ∙ c.in-Ok.ensures.made.lines))
    ∙ sym c.first_open.ensures ∙ not_there c.first_open.result c.in_default-first_open.not-Some in
    let err : t.verdict ≡ Err c.in_err-read.field-0.0 = search rules in
    let passed_on = err_from_is_err_and c.from_residual.result c.from_residual.ensures.1 in
    rw (passed_on.1, passed_on.2)
    (record {
      asked = tt;
      looked = tt;
      sound = tt;
      faults = faulty_verdict (λ n. g.G.Gate.answers c.args.gate.now n false) c.args.first t
          c.in_err-read.field-0.0 none err (verdict_of-trace g.K.TraceKey.read c.args.first (lines_of c.args.bytes.now));
    })

pub returns-in-Ok-totals_by_turn : goal.returns-in-Ok-totals_by_turn
returns-in-Ok-totals_by_turn g c =
    record {
      asked = subst (λ (ls : List (Line g.row.K.Denot)). AreAsked (λ _. true)
          (λ n. g.G.Gate.answers c.args.gate.now n true) c.args.first ls)
          (c.deref-2.ensures.value ∙ c.in-Ok.ensures.made.lines) c.in-Ok-totals_by_turn.ensures.asked;
      looked = c.in-Ok-totals_by_turn.ensures.looked;
      sound = search rules;
      faults = tt;
    }
