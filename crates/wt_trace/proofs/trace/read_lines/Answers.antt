use Rattle.std.proofs.Common.{◌+◌, ◌<◌, ◌≤◌, ◌∷◌, [], ◌∙◌, ap, length, length-append, arith}
use Rattle.std.proofs.lemmas.Bool.Decides.{nat_tests}
use Rattle.wt_trace.proofs.Traces.{next_line, faulty_line}
use Rattle.wt_trace.proofs.trace.read_lines.Goals as goal

pub loop-rest-preserved : goal.loop-rest-preserved
loop-rest-preserved g c =
    let inv = c.loop-rest.invariant in
    let some : 0 < length c.loop-rest.rest.now = grind (arith, nat_tests, c.is_empty.ensures) in
    let next = next_line g.K.TraceKey.read c.loop-rest.n c.loop-rest.rest.now c.cut.result.0.now
    c.cut.result.1.now c.in-Ok.line c.loop-rest.lines.items _ _ some
    c.cut.ensures.front c.cut.ensures.back c.in-Ok.ensures inv.lines inv.verdict in
    let more = ap length c.in_ok-push-in-Ok.ensures.items ∙ length-append c.loop-rest.lines.items (c.in-Ok.line ∷ []) in
    record {
      lines = rw c.in_ok-push-in-Ok.ensures.items next.0;
      verdict = next.1;
      few = next.2;
      counted =
          omega (arith, more, inv.counted);
    }

pub returns-in-Err : goal.returns-in-Err
returns-in-Err g c =
    let inv = c.loop-rest.invariant in
    let some : 0 < length c.loop-rest.rest.now = grind (arith, nat_tests, c.is_empty.ensures) in
    let faulty = faulty_line g.K.TraceKey.read c.loop-rest.n c.loop-rest.rest.now c.cut.result.0.now
    c.cut.result.1.now c.in-Err.fault c.loop-rest.lines.items _ _ some
    c.cut.ensures.front c.cut.ensures.back c.in-Err.ensures inv.lines inv.verdict in
    let few : c.args.first + length c.loop-rest.lines.items ≤ 1000001 = omega (arith, inv.counted, inv.few) in
    record { made = record { few = few; lines = faulty.0; verdict = faulty.1 } }
