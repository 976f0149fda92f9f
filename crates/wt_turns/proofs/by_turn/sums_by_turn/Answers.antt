use Rattle.std.proofs.Common.{◌≡◌, ◌∙◌, ℕ, Option, None, OnOk, IfErr, false, true, sym, subst}
use Rattle.wt_trace.specs.Keys.{names}
use Rattle.wt_trace.specs.Trace.{is_header, lines_of, trace_from}
use Rattle.wt_trace.specs.declared.fault.ReplayFault.{ReplayFault}
use Rattle.wt_turns.specs.ByTurn.{IsTurnFault, faulty, faulty_by}
use Rattle.wt_turns.proofs.Passed.{behind_header, on_ok}
use Rattle.wt_turns.proofs.by_turn.sums_by_turn.Goals as goal

pub returns : goal.returns
returns g c =
    let lines = lines_of c.args.bytes.now in
    let passed : ℕ → Type 0 = λ n. g.G.Gate.answers c.args.gate.now n true in
    let shut : ℕ → Type 0 = λ n. g.G.Gate.answers c.args.gate.now n false in
    let is = c.in-Some.ensures.some in
    let sums = c.sums_of_trace-2.ensures in
    let r = c.sums_of_trace-2.result in
    let wrong : faulty_by (is_header lines) lines ≡ faulty 2 (trace_from names.read 2 (lines_of c.in-Some.rest.now)) =
    (λ i. faulty_by (is.0 i) lines) ∙ (λ i. faulty 2 (trace_from names.read 2 (is.1 i))) in
    record {
      made = record {
        asked = on_ok r (behind_header passed (is_header lines) lines (lines_of c.in-Some.rest.now) is.0 is.1) sums.asked;
        looked = sums.looked;
        sound = subst (λ (w : Option ReplayFault). OnOk r (w ≡ None)) (sym wrong) sums.sound;
        faults = subst (λ (w : Option ReplayFault). IfErr r (IsTurnFault shut w)) (sym wrong) sums.faults;
      };
    }
