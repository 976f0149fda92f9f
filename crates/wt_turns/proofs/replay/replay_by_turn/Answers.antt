use Rattle.std.proofs.Common.{rules, ◌≡◌, ℕ, List, None, false, true, sym, subst}
use Rattle.wt_trace.specs.Options.{option_fault}
use Rattle.wt_trace.specs.Replayed.{Gave}
use Rattle.wt_turns.proofs.Faulty.{no_config_on, turned_on}
use Rattle.wt_turns.specs.ByTurn.{IsLetThrough}
use Rattle.wt_turns.proofs.Passed.{always}
use Rattle.wt_turns.proofs.replay.replay_by_turn.Goals as goal

pub returns-clause-asked : goal.returns-clause-asked
returns-clause-asked g c =
    let passed : ℕ → Type 0 = λ n. g.G.Gate.answers c.args.gate.now n true in
    let asked : IsLetThrough passed c.in_ok-bytes.bytes.items =
    subst (λ (bytes : List ℕ). IsLetThrough passed bytes) c.as_slice.ensures.value
    c.in_ok-sums.ensures.made.asked in
    always c.write_out.result (c.in_ok-bytes.bytes.items, c.in_ok-bytes.ensures.given, asked)

pub returns-in_err-sums-clause-made : goal.returns-in_err-sums-clause-made
returns-in_err-sums-clause-made g c =
    let remaining = g.R.Read.remaining in
    let shut : ℕ → Type 0 = λ n. g.G.Gate.answers c.args.gate.now n false in
    let none : option_fault c.args.options.now ≡ None = search rules in
    let bytes = c.as_slice.result.now in
    let gave : Gave (remaining c.args.reader.now.inner) (remaining c.read_up_to.new.reader.inner) bytes =
    subst (λ (bs : List ℕ). Gave (remaining c.args.reader.now.inner)
    (remaining c.read_up_to.new.reader.inner) bs)
    (sym c.as_slice.ensures.value) c.in_ok-bytes.ensures.given in
    let e = c.in_err-sums.field-0.0 in
    let is = c.from_residual-in_err-sums.ensures.1 in
    record {
      config = rw none (no_config_on shut bytes c.from_residual-in_err-sums.result e is c.in_err-sums.ensures.made.faults);
      replayed = turned_on shut bytes _ _ _ _ gave (search rules) c.from_residual-in_err-sums.result e is c.in_err-sums.ensures.made.faults;
      reads = search rules;
      turns = search rules;
      writes = search rules;
      shut = search rules;
    }
