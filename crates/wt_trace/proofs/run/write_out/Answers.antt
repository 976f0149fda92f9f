use Rattle.std.proofs.Common.{◌++◌, arith, take}
use Rattle.std.proofs.lemmas.Bool.Decides.{nat_tests}
use Rattle.wt_trace.proofs.Writes.{written_more}
use Rattle.wt_trace.proofs.run.write_out.Goals as goal

pub loop-rest-preserved : goal.loop-rest-preserved
loop-rest-preserved g c =
    let i = c.loop-rest.invariant in
    let more = written_more (g.W.Write.contents c.args.writer.now.inner)
    (g.W.Write.contents c.loop-rest.writer.inner)
    (g.W.Write.contents c.write.new.self.inner) c.args.bytes.now i.taken.0 c.loop-rest.rest.now c.in-Ok.n
    i.taken.1 i.taken.2 c.in-Ok.ensures.made.bytes in
    record {
      taken = (
        i.taken.0 ++ take c.in-Ok.n c.loop-rest.rest.now,
        rw c.split_at.ensures.back more.0,
        more.1,
      );
      fine = grind (arith, nat_tests, c.in-Ok.ensures.made.tally);
    }
