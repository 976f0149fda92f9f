use Rattle.std.proofs.Common.{rules, ◌≡◌, ◌++◌, ◌∙◌, ap}
use Rattle.wt_trace.specs.Pieces.{whole}
use Rattle.wt_trace.proofs.Writes.{written_piece, ended_within}
use Rattle.wt_trace.proofs.run.write_pieces.Goals as goal

pub loop-piece-preserved : goal.loop-piece-preserved
loop-piece-preserved g c =
    let i = c.loop-piece.invariant in
    let split : whole c.loop-piece.rest.now ≡ c.in-Some.piece.now ++ whole c.in-Some.after.now = search rules in
    let more = written_piece (g.W.Write.contents c.args.writer.now.inner)
    (g.W.Write.contents c.loop-piece.writer.inner)
    (g.W.Write.contents c.write_out.new.writer.inner) c.args.text.now i.taken.0 c.in-Some.piece.now
    (whole c.in-Some.after.now)
    (i.taken.1 ∙ ap (λ xs. i.taken.0 ++ xs) split) i.taken.2 (search rules) in
    record { taken = (i.taken.0 ++ c.in-Some.piece.now, more.0, more.1); fine = search rules }

pub returns-in_err-write_out : goal.returns-in_err-write_out
returns-in_err-write_out g c =
    let i = c.loop-piece.invariant in
    let split : whole c.loop-piece.rest.now ≡ c.in-Some.piece.now ++ whole c.in-Some.after.now = search rules in
    ended_within g.W.Write.contents c.args.writer.now c.loop-piece.writer c.write_out.new.writer c.args.text.now
    i.taken.0 c.in-Some.piece.now (whole c.in-Some.after.now)
    c.in_err-write_out.field-0.0 (i.taken.1 ∙ ap (λ xs. i.taken.0 ++ xs) split) i.taken.2 i.fine
    (search rules) c.from_residual.result c.from_residual.ensures.1
