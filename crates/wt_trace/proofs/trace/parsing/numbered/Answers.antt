use Rattle.std.proofs.Common.{rules, arith, ◌≡◌, ◌+◌, ◌≤◌, ◌∙◌, length, Option, List, IfSome, ap, sym, subst}
use Rattle.wt_trace.specs.Trace.{Trace, IsFaultless, lines_of, trace_from}
use Rattle.wt_trace.specs.declared.trace.line.Line.{Line}
use Rattle.wt_trace.proofs.Joins.{trace-renumbered}
use Rattle.wt_trace.proofs.trace.parsing.numbered.Goals as goal

pub returns-then-len-n : goal.returns-then-len-n
returns-then-len-n g c =
    let ls = lines_of c.args.bytes.now in
    let read : Trace g.row.K.Denot = trace_from g.K.TraceKey.read c.args.first ls in
    let is : IsFaultless read c.in-Some.piece =
    subst (λ (o : Option (List (Line g.row.K.Denot))). IfSome o (IsFaultless read)) c.in-Some.is
    c.requires.sound in
    let len : c.len.result ≡ length c.into_lines-lines.result.items = search rules in
    let short : c.args.n + length c.into_lines-lines.result.items ≤ 1000001 = omega (arith, len, c.if-len-n.true, c.requires.n) in
    let few : c.args.n + length read.lines ≤ 1000001 = omega (arith, short, ap length c.into_lines-lines.ensures, ap length is.0) in
    let same = sym (trace-renumbered g.K.TraceKey.read c.args.first c.args.n ls is.1 few) in
    record {
      few = short;
      lines = c.into_lines-lines.ensures ∙ sym is.0 ∙ ap (λ (t : Trace g.row.K.Denot). t.lines) same;
      verdict = sym is.1 ∙ ap (λ (t : Trace g.row.K.Denot). t.verdict) same;
    }
