use Rattle.std.proofs.Common.{rules, ◌≡◌, ◌∙◌, map, ap, arith}
use Rattle.std.specs.List.{range_with_len}
use Rattle.wt_trace.specs.Standing.{new_standing}
use Rattle.wt_trace.proofs.Standings.{new_more}
use Rattle.wt_trace.proofs.report.new_shards.Goals as goal

pub loop-number-preserved : goal.loop-number-preserved
loop-number-preserved g c =
    let inv = c.loop-number.invariant in
    record {
      made = new_more c.args.options.now c.loop-number.number c.loop-number.shards.items _ _ inv.made
          c.in_ok-push.ensures.items c.in_ok-new.ensures.options c.in_ok-new.ensures.number
          c.in_ok-new.ensures.cache;
      count = search rules;
    }

pub returns-clause-made : goal.returns-clause-made
returns-clause-made g c =
    let count : c.loop-number.number ≡ c.args.options.now.shards =
    omega (
      arith,
      c.loop-number.auto.number-end,
      c.loop-number-test.false,
      c.shards-number-end.ensures.value,
    ) in
    c.loop-number.invariant.made ∙ ap (λ n. map (new_standing c.args.options.now) (range_with_len 0 n)) count
