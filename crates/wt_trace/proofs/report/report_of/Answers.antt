use Rattle.std.proofs.Common.{rules, arith, ◌≡◌, ◌++◌, ◌∙◌, map, length, ap, sym, subst}
use Rattle.std.specs.Prelude.{is_ok, take, drop}
use Rattle.std.proofs.Math.Seq.{take-append_seam}
use Rattle.std.specs.List.{range_with_len}
use Rattle.wt_core.specs.State.{stats_of}
use Rattle.wt_core.specs.Sums.{AreSums}
use Rattle.wt_trace.specs.Answers.{Work, answers}
use Rattle.wt_trace.specs.Keys.{keys_by}
use Rattle.wt_trace.specs.Report.{IsVerdict, printed}
use Rattle.wt_trace.specs.Standing.{standing_of, new_standings, lines_by, standings_after}
use Rattle.wt_trace.specs.Trace.{Trace, lines_of, trace_from}
use Rattle.wt_trace.proofs.Standings.{not_ok, not_err, printed-whole, printed-cut}
use Rattle.wt_trace.proofs.Traces.{verdict_of-trace}
use Rattle.wt_trace.proofs.report.report_of.Goals as goal

pub returns-then-is_err : goal.returns-then-is_err
returns-then-is_err g c =
    let keys = keys_by g.K.PartialEq.eq g.K.CacheKey.word g.K.TraceKey.read g.K.TraceKey.shown in
    let o = c.args.options.now in
    let trace : Trace g.row.K.Denot = trace_from g.K.TraceKey.read c.args.first (lines_of c.args.bytes.now) in
    let all = map (answers keys o c.args.first trace.lines) (range_with_len 0 o.shards) in
    let shown = c.in_ok-verdict.ensures in
    let stood : map standing_of c.as_mut_slice.result.now ≡ new_standings o =
    ap (λ ws. map standing_of ws) c.as_mut_slice.ensures.value ∙ c.in_ok-shards.ensures.made in
    let text : c.show_lines.new.out.items ≡ lines_by keys c.args.first trace.lines (new_standings o) =
    shown.text ∙ (λ i. c.new-out.ensures.items i ++ lines_by keys c.args.first trace.lines (stood i)) in
    let bad = not_ok c.in_ok-verdict.verdict c.is_err.result c.if-is_err.true c.is_err.ensures.value in
    let end = ap (λ v. is_ok v) (sym shown.verdict) ∙ bad in
    record {
      report = record {
        text = printed-cut keys o c.args.first trace.lines c.show_lines.new.out.items text
            ∙ ap (λ t. printed c.args.first (length trace.lines) t all) (sym end);
        verdict = shown.verdict;
        kind = subst IsVerdict (sym shown.verdict) (verdict_of-trace g.K.TraceKey.read c.args.first (lines_of c.args.bytes.now));
      };
      err = tt;
    }

pub returns : goal.returns
returns g c =
    let keys = keys_by g.K.PartialEq.eq g.K.CacheKey.word g.K.TraceKey.read g.K.TraceKey.shown in
    let o = c.args.options.now in
    let trace : Trace g.row.K.Denot = trace_from g.K.TraceKey.read c.args.first (lines_of c.args.bytes.now) in
    let all = map (answers keys o c.args.first trace.lines) (range_with_len 0 o.shards) in
    let shown = c.in_ok-verdict.ensures in
    let stood : map standing_of c.as_mut_slice.result.now ≡ new_standings o =
    ap (λ ws. map standing_of ws) c.as_mut_slice.ensures.value ∙ c.in_ok-shards.ensures.made in
    let text : c.show_lines.new.out.items ≡ lines_by keys c.args.first trace.lines (new_standings o) =
    shown.text ∙ (λ i. c.new-out.ensures.items i ++ lines_by keys c.args.first trace.lines (stood i)) in
    let stand : map standing_of c.show_lines.new.shards ≡ standings_after keys c.args.first trace.lines (new_standings o) =
    shown.standings ∙ ap (λ ss. standings_after keys c.args.first trace.lines ss) stood in
    let after = c.show_lines.new.shards in
    let beyond = drop (length after) c.in_ok-shards.shards.items in
    let lens : c.in_ok-shards.shards.len ≡ length after = search (rules, arith) in
    let seen : c.deref.result.now ≡ c.show_lines.new.shards = c.deref.ensures.value
    ∙ ap (λ n. take n (after ++ beyond)) lens ∙ take-append_seam after beyond in
    let sums : AreSums (λ (w : Work g.row.K.Denot). stats_of w.cache.state) c.totals.result c.show_lines.new.shards =
    subst (AreSums (λ (w : Work g.row.K.Denot). stats_of w.cache.state) c.totals.result) seen c.totals.ensures in
    let good = not_err c.in_ok-verdict.verdict c.is_err.result c.if-is_err.false c.is_err.ensures.value in
    let end = ap (λ v. is_ok v) (sym shown.verdict) ∙ good in
    record {
      report = record {
        text = printed-whole keys o c.args.first trace.lines c.show_lines.new.out.items c.show_lines.new.shards
            c.totals.result c.show_numbers.new.out.items text stand sums (search rules)
            ∙ ap (λ t. printed c.args.first (length trace.lines) t all) (sym end);
        verdict = shown.verdict;
        kind = subst IsVerdict (sym shown.verdict) (verdict_of-trace g.K.TraceKey.read c.args.first (lines_of c.args.bytes.now));
      };
      err = tt;
    }
