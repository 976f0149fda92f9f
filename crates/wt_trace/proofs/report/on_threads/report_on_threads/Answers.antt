use Rattle.std.proofs.Common.{rules, ◌≡◌, ◌∙◌, length, map, sym, subst}
use Rattle.std.specs.Prelude.{is_ok}
use Rattle.std.specs.List.{range_with_len}
use Rattle.wt_trace.specs.Answers.{answers}
use Rattle.wt_trace.specs.Keys.{keys_by}
use Rattle.wt_trace.specs.Report.{IsVerdict, printed}
use Rattle.wt_trace.proofs.InOrder.{few-answers, whole-answers}
use Rattle.wt_trace.proofs.report.on_threads.report_on_threads.Goals as goal

pub text_on_threads-requires-clause-few : goal.text_on_threads-requires-clause-few
text_on_threads-requires-clause-few g c κs within =
    let keys = keys_by g.K.PartialEq.eq g.K.CacheKey.word g.K.TraceKey.read g.K.TraceKey.shown in
    let o = c.args.job.now.options.now in
    let made = answers keys o c.args.first c.args.read.lines in
    let are : c.deref.result.now ≡ map made (range_with_len 0 o.shards) = search rules in
    few-answers keys o c.args.first c.args.read.lines c.deref.result.now c.requires.ready.options are

pub text_on_threads-requires-clause-whole : goal.text_on_threads-requires-clause-whole
text_on_threads-requires-clause-whole g c κs within =
    let keys = keys_by g.K.PartialEq.eq g.K.CacheKey.word g.K.TraceKey.read g.K.TraceKey.shown in
    let o = c.args.job.now.options.now in
    let made = answers keys o c.args.first c.args.read.lines in
    let are : c.deref.result.now ≡ map made (range_with_len 0 o.shards) = search rules in
    let len : length c.args.read.lines ≡ c.len-count.result = search rules in
    whole-answers keys o c.args.first c.len-count.result c.args.read.lines c.deref.result.now len are

pub returns-clause-made : goal.returns-clause-made
returns-clause-made g c =
    let keys = keys_by g.K.PartialEq.eq g.K.CacheKey.word g.K.TraceKey.read g.K.TraceKey.shown in
    let o = c.args.job.now.options.now in
    let made = answers keys o c.args.first c.args.read.lines in
    let are : c.deref.result.now ≡ map made (range_with_len 0 o.shards) = search rules in
    let count : c.len-count.result ≡ length c.args.read.lines = search rules in
    let complete : c.is_ok.result ≡ is_ok c.args.read.verdict = search rules in
    let verdict : c.verdict-verdict.result ≡ c.args.read.verdict = search rules in
    record {
      report = record {
        text = c.in_ok-text.ensures ∙ (λ i. printed c.args.first (count i) (complete i) (are i));
        verdict = verdict;
        kind = subst IsVerdict (sym verdict) c.requires.kind;
      };
      err = tt;
    }
