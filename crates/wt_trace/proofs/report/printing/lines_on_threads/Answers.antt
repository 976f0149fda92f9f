use Rattle.std.proofs.Common.{rules, arith, ◌≡◌, ◌+◌, ◌-◌, ◌*◌, ◌/◌, ◌<◌, ◌++◌, [], ◌∷◌, suc, Ok, Err, IfOk, alloc_error, get_or, length, length-append, min, ap, sym, subst, ◌∙◌, suc-mul, append_assoc}
use Rattle.std.proofs.Math.Seq.{get_or-append_seam}
use Rattle.std.specs.Vec.Iter.{into_iter_items}
use Rattle.wt_trace.specs.Report.{line_text, lines_text}
use Rattle.wt_trace.proofs.Sums.{flat_map-ranges}
use Rattle.wt_trace.proofs.report.printing.lines_on_threads.Goals as goal

pub loop-piece-preserved : goal.loop-piece-preserved
loop-piece-preserved g c =
    let inv = c.loop-piece.invariant in
    let lines = c.args.lines.now in
    let pieces = c.in_ok-pieces.pieces in
    let done = c.loop-piece.yielded in
    let rest = into_iter_items c.next.new.self in
    let split = ap (λ xs. done ++ xs) (sym c.in-Some.ensures.steps.0) ∙ inv.order in
    let given : into_iter_items c.into_iter-piece-iterator.result ≡ pieces.items = search rules in
    let t = length done in
    let seam = length-append done (c.in-Some.piece ∷ rest) in
    let below : t < c.args.threads = omega (arith, seam, ap length split, ap length given, pieces.ok, c.in_ok-pieces.ensures.len) in
    let there : get_or pieces.items t (Err alloc_error) ≡ Ok c.in_ok-piece.field-0 =
    ap (λ xs. get_or xs t (Err alloc_error)) (sym given ∙ sym split)
    ∙ get_or-append_seam done c.in-Some.piece rest (Err alloc_error) ∙ c.in_ok-piece.was in
    let most = lines.count / c.args.threads + 1 in
    let from = min (t * most) lines.count in
    let len = min most (lines.count - from) in
    let text = lines_text lines.first lines.all.now in
    let printed = c.in_ok-pieces.ensures.each t below in
    let piece : c.in_ok-piece.field-0.items ≡ text from len = subst (λ r. IfOk r (λ out. out.items ≡ text from len)) there printed in
    let more : c.push.new.self ≡ c.loop-piece.text ++ c.in_ok-piece.field-0.items = search rules in
    let one : length (done ++ c.in-Some.piece ∷ []) ≡ suc t = omega (arith, length-append done (c.in-Some.piece ∷ [])) in
    let next : length (done ++ c.in-Some.piece ∷ []) * most ≡ t * most + most = ap (λ n. n * most) one ∙ suc-mul t most in
    let end : from + len ≡ min (length (done ++ c.in-Some.piece ∷ []) * most) lines.count = omega (arith, next) in
    record {
      order = append_assoc done (c.in-Some.piece ∷ []) rest ∙ split;
      text = more ∙ (λ i. inv.text i ++ piece i) ∙ flat_map-ranges (line_text lines.first lines.all.now) from len ∙ ap (text 0) end;
    }
