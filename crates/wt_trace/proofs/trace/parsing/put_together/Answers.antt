use Rattle.std.proofs.Common.{rules, arith, ◌≡◌, ◌+◌, ◌<◌, ◌++◌, ◌∙◌, [], List, Option, IfSome, None, get_or, length, length-append, false, true, ap, sym, subst}
use Rattle.std.specs.Prelude.{is_err}
use Rattle.std.proofs.lemmas.List.{get_or-set_other}
use Rattle.wt_trace.specs.Trace.{Trace, IsFaultless, lines_of, trace_from}
use Rattle.wt_trace.specs.declared.trace.line.Line.{Line}
use Rattle.wt_trace.proofs.Joins.{so_far-next, so_far-ended, no_fault}
use Rattle.wt_trace.proofs.trace.parsing.put_together.Goals as goal

pub loop-t-preserved : goal.loop-t-preserved
loop-t-preserved g c =
    let read = g.K.TraceKey.read in
    let inv = c.loop-t.invariant in
    let all : Trace g.row.K.Denot = c.loop-t.all in
    let next : Trace g.row.K.Denot = c.push.new.self in
    let t = c.loop-t.t in
    let within : t < length c.args.chunks.now = search rules in
    let own : trace_from read (c.args.first + c.len.result) (lines_of c.bytes_at.result.now)
    ≡ trace_from read (c.args.first + length all.lines) (lines_of (get_or c.args.chunks.now t [])) =
    λ i. trace_from read (c.args.first + c.len.ensures i) (lines_of (c.bytes_at.ensures i)) in
    let longer = ap (λ (x : Trace g.row.K.Denot). x.lines) c.in_ok-push.ensures in
    let lines = longer ∙ ap (λ ls. all.lines ++ ls) (c.in_ok-one.ensures.lines ∙ ap (λ (x : Trace g.row.K.Denot). x.lines) own) in
    let verdict = ap (λ (x : Trace g.row.K.Denot). x.verdict) c.in_ok-push.ensures ∙ c.in_ok-one.ensures.verdict
    ∙ ap (λ (x : Trace g.row.K.Denot). x.verdict) own in
    let fine : is_err next.verdict ≡ false = search rules in
    record {
      far = so_far-next read c.args.first c.args.chunks.now t all next within inv.far lines verdict (no_fault next.verdict fine);
      few = omega (arith, c.in_ok-one.ensures.few, c.len.ensures, ap length longer ∙ length-append all.lines c.in_ok-one.one.lines.items);
      len = search rules;
      each = λ k later below.
          let other = ap (λ (xs : List (Option (List (Line g.row.K.Denot)))). get_or xs k None)
          c.take_piece-own.ensures.left ∙ get_or-set_other c.loop-t.read.items t k None None
          (λ e. omega (arith, later, e)) in
          subst (λ (o : Option (List (Line g.row.K.Denot))). IfSome o
          (IsFaultless (trace_from read c.args.first (lines_of (get_or c.args.chunks.now k [])))))
          (sym other) (inv.each k (omega (arith, later)) below);
    }

pub returns-then-is_err-clause-lines : goal.returns-then-is_err-clause-lines
returns-then-is_err-clause-lines g c =
    let read = g.K.TraceKey.read in
    let inv = c.loop-t.invariant in
    let all : Trace g.row.K.Denot = c.loop-t.all in
    let next : Trace g.row.K.Denot = c.push.new.self in
    let t = c.loop-t.t in
    let within : t < length c.args.chunks.now = search rules in
    let own : trace_from read (c.args.first + c.len.result) (lines_of c.bytes_at.result.now)
    ≡ trace_from read (c.args.first + length all.lines) (lines_of (get_or c.args.chunks.now t [])) =
    λ i. trace_from read (c.args.first + c.len.ensures i) (lines_of (c.bytes_at.ensures i)) in
    let lines = ap (λ (x : Trace g.row.K.Denot). x.lines) c.in_ok-push.ensures
    ∙ ap (λ ls. all.lines ++ ls) (c.in_ok-one.ensures.lines ∙ ap (λ (x : Trace g.row.K.Denot). x.lines) own)
    in
    let verdict = ap (λ (x : Trace g.row.K.Denot). x.verdict) c.in_ok-push.ensures ∙ c.in_ok-one.ensures.verdict
    ∙ ap (λ (x : Trace g.row.K.Denot). x.verdict) own in
    let bad : is_err next.verdict ≡ true = search rules in
    so_far-ended read c.args.first c.args.chunks.now t all next within inv.far lines verdict bad
