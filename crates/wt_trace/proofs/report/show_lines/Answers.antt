use Rattle.std.proofs.Common.{◌≡◌, ◌+◌, ◌<◌, ◌∙◌, map, ap, sym, length, arith}
use Rattle.std.proofs.lemmas.Bool.Decides.{nat_tests}
use Rattle.wt_trace.specs.Keys.{keys_by}
use Rattle.wt_trace.specs.Standing.{standing_of}
use Rattle.wt_trace.specs.Trace.{Trace, lines_of, trace_from}
use Rattle.wt_trace.proofs.Standings.{next_shown, last_shown}
use Rattle.wt_trace.proofs.Traces.{trace_from-good, trace_from-faulty, trace_from-none}
use Rattle.wt_trace.proofs.report.show_lines.Goals as goal

pub loop-rest-preserved : goal.loop-rest-preserved
loop-rest-preserved g c =
    let keys = keys_by g.K.PartialEq.eq g.K.CacheKey.word g.K.TraceKey.read g.K.TraceKey.shown in
    let inv = c.loop-rest.invariant in
    let n = c.loop-rest.n in
    let some : 0 < length c.loop-rest.rest.now = grind (arith, nat_tests, c.is_empty.ensures) in
    let good = trace_from-good g.K.TraceKey.read n c.loop-rest.rest.now c.cut.result.0.now c.cut.result.1.now
    c.in-Ok.line some c.cut.ensures.front c.cut.ensures.back c.in-Ok.ensures in
    let more : Trace g.row.K.Denot = trace_from g.K.TraceKey.read (n + 1) (lines_of c.cut.result.1.now) in
    let next = next_shown keys n (map standing_of c.loop-rest.shards) c.loop-rest.out.items _ _ c.in-Ok.line _
    more (map standing_of c.show_line.new.shards) c.show_line.new.out.items
    good.0 c.in_ok-show_line-in-Ok.ensures.text c.in_ok-show_line-in-Ok.ensures.state inv.text inv.standings in
    record {
      text = next.0;
      standings = next.1;
      verdict =
          ap (λ (t : Trace g.row.K.Denot). t.verdict) (sym good.0) ∙ inv.verdict;
      few = good.1;
    }

pub returns-in-Err : goal.returns-in-Err
returns-in-Err g c =
    let keys = keys_by g.K.PartialEq.eq g.K.CacheKey.word g.K.TraceKey.read g.K.TraceKey.shown in
    let inv = c.loop-rest.invariant in
    let n = c.loop-rest.n in
    let some : 0 < length c.loop-rest.rest.now = grind (arith, nat_tests, c.is_empty.ensures) in
    let bad = trace_from-faulty g.K.TraceKey.read n c.loop-rest.rest.now c.cut.result.0.now c.cut.result.1.now
    c.in-Err.fault some c.cut.ensures.front c.cut.ensures.back c.in-Err.ensures in
    let last = last_shown keys n (map standing_of c.loop-rest.shards) c.loop-rest.out.items _ _ _
    (ap (λ (t : Trace g.row.K.Denot). t.lines) bad) inv.text inv.standings in
    record { text = last.0; standings = last.1; verdict = ap (λ (t : Trace g.row.K.Denot). t.verdict) (sym bad) ∙ inv.verdict; err = tt }

pub returns : goal.returns
returns g c =
    let keys = keys_by g.K.PartialEq.eq g.K.CacheKey.word g.K.TraceKey.read g.K.TraceKey.shown in
    let inv = c.loop-rest.invariant in
    let n = c.loop-rest.n in
    let none : length c.loop-rest.rest.now ≡ 0 = grind (arith, nat_tests, c.is_empty.ensures) in
    let end = trace_from-none g.K.TraceKey.read n c.loop-rest.rest.now none in
    let last = last_shown keys n (map standing_of c.loop-rest.shards) c.loop-rest.out.items _ _ _
    (ap (λ (t : Trace g.row.K.Denot). t.lines) end) inv.text inv.standings in
    record { text = last.0; standings = last.1; verdict = ap (λ (t : Trace g.row.K.Denot). t.verdict) (sym end) ∙ inv.verdict; err = tt }
