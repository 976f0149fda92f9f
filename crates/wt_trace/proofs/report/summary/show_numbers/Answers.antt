use Rattle.std.proofs.Common.{◌∙◌, codes}
use Rattle.wt_trace.specs.Report.{count_text, summary_of}
use Rattle.wt_trace.proofs.Sums.{appended_before}
use Rattle.wt_trace.proofs.report.summary.show_numbers.Goals as goal

pub returns : goal.returns
unfolding summary_of
returns c =
    let sum = c.args.sum.now in
    c.in_ok-push.ensures.items ∙
    appended_before c.show_count-7.new.out.items c.show_count-8.new.out.items (count_text (codes " weight ") sum.weight) _ c.in_ok-show_count-8.ensures ∙
    appended_before c.show_count-6.new.out.items c.show_count-7.new.out.items (count_text (codes " entries ") sum.entries) _ c.in_ok-show_count-7.ensures ∙
    appended_before c.show_count-5.new.out.items c.show_count-6.new.out.items (count_text (codes " evicted ") sum.evicted) _ c.in_ok-show_count-6.ensures ∙
    appended_before c.show_count-4.new.out.items c.show_count-5.new.out.items (count_text (codes " failed ") sum.failed) _ c.in_ok-show_count-5.ensures ∙
    appended_before c.show_count-3.new.out.items c.show_count-4.new.out.items (count_text (codes " loads ") sum.loads) _ c.in_ok-show_count-4.ensures ∙
    appended_before c.show_count-2.new.out.items c.show_count-3.new.out.items (count_text (codes " misses ") sum.misses) _ c.in_ok-show_count-3.ensures ∙
    appended_before c.show_count.new.out.items c.show_count-2.new.out.items (count_text (codes " hits ") sum.hits) _ c.in_ok-show_count-2.ensures ∙
    appended_before c.args.out.now.items c.show_count.new.out.items (count_text (codes "lookups ") sum.lookups) _ c.in_ok-show_count.ensures
