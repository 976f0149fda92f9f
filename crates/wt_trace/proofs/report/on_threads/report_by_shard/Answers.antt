use Rattle.std.proofs.Common.{◌≡◌, ◌∙◌, ℕ, true, false, ap, refl, sym, subst}
use Rattle.std.specs.Prelude.{OnOk, drop}
use Rattle.wt_trace.specs.Keys.{numbers, names}
use Rattle.wt_trace.specs.Report.{IsVerdict}
use Rattle.wt_trace.specs.Stops.{AllAsked}
use Rattle.wt_trace.specs.Trace.{is_header, lines_of, trace_from}
use Rattle.wt_trace.proofs.Traces.{verdict_of-trace}
use Rattle.wt_trace.proofs.report.on_threads.report_by_shard.Goals as goal

pub report_on_threads-requires-clause-kind : goal.report_on_threads-requires-clause-kind
report_on_threads-requires-clause-kind g c κs within =
    subst IsVerdict (sym (ap (λ t. t.verdict) c.in_ok-read.ensures.lines)) (verdict_of-trace numbers.read 1 _)

pub report_on_threads-requires-2-clause-kind : goal.report_on_threads-requires-2-clause-kind
report_on_threads-requires-2-clause-kind g c κs within =
    subst IsVerdict (sym (ap (λ t. t.verdict) c.in_ok-read-2.ensures.lines)) (verdict_of-trace names.read 2 _)

pub returns-in_default-clause-asked : goal.returns-in_default-clause-asked
returns-in_default-clause-asked g c =
    let job = c.args.job.now in
    let same : c.deref.result.now ≡ c.args.bytes.items = c.deref.ensures.value in
    let again : c.deref-in_default.result.now ≡ c.args.bytes.items = c.deref-in_default.ensures.value in
    let no : is_header (lines_of c.args.bytes.items) ≡ false =
    sym (ap (λ bs. is_header (lines_of bs)) same) ∙ c.in_default.ensures.none refl in
    let lines = ap (λ t. t.lines) c.in_ok-read.ensures.lines ∙ ap (λ bs. (trace_from numbers.read 1 (lines_of bs)).lines) again in
    let passed : ℕ → Type 0 = λ n. g.G.Gate.answers job.gate.now n true in
    rw no (subst (λ ls. OnOk c.report_on_threads.result (AllAsked numbers job.options.now passed 1 ls)) lines
    c.report_on_threads.ensures.asked)

pub returns-clause-asked : goal.returns-clause-asked
returns-clause-asked g c =
    let job = c.args.job.now in
    let same : c.deref.result.now ≡ c.args.bytes.items = c.deref.ensures.value in
    let yes : is_header (lines_of c.args.bytes.items) ≡ true =
    sym (ap (λ bs. is_header (lines_of bs)) same) ∙ c.in-Some.ensures.some.0 in
    let behind : lines_of c.in-Some.rest.now ≡ drop 1 (lines_of c.args.bytes.items) =
    sym c.in-Some.ensures.some.1 ∙ ap (λ bs. drop 1 (lines_of bs)) same in
    let lines = ap (λ t. t.lines) c.in_ok-read-2.ensures.lines ∙ ap (λ ls. (trace_from names.read 2 ls).lines) behind in
    let passed : ℕ → Type 0 = λ n. g.G.Gate.answers job.gate.now n true in
    rw yes (subst (λ ls. OnOk c.report_on_threads-2.result (AllAsked names job.options.now passed 2 ls)) lines
    c.report_on_threads-2.ensures.asked)
