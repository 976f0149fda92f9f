use Rattle.std.proofs.Common.{◌≡◌, ◌+◌, ◌≤◌, ◌-◌, vec_len}
use Rattle.std.specs.Io.KnownBytes.{Consumes}
use Rattle.wt_trace.proofs.run.read_up_to.Given as goal

abbrev pub invariant-loop-part : goal.invariant-loop-part
invariant-loop-part g l = record {
  given : Consumes (g.R.Read.remaining l.initial.reader.inner) (g.R.Read.remaining l.reader.inner) l.bytes.items;
  some : vec_len l.bytes ≤ l.most;
  turns : l.reader.reads ≤ l.initial.reader.reads + vec_len l.bytes;
  fine : l.reader.failures ≡ l.initial.reader.failures;
}

abbrev pub decreases-loop-part : goal.decreases-loop-part
decreases-loop-part g l = l.most - vec_len l.bytes
