-- A line of another shard.
use Rattle.std.proofs.Common.{◌≡◌, ℕ, false, []}
use Rattle.wt_trace.specs.Answers.{Cache, belongs, line_step, line_if}
use Rattle.wt_trace.specs.Keys.{Keys}
use Rattle.wt_trace.specs.declared.trace.line.Line.{Line}
use Rattle.wt_trace.specs.declared.options.Options.{Options}

-- it leaves the shard, and adds nothing to the text
pub other_line : {K : Type 0} (keys : Keys K) (o : Options) (shard n : ℕ) (l : Line K) (c : Cache K)
    → belongs keys o shard l.act ≡ false → line_step keys o shard n l c ≡ record { cache = c; text = [] }
unfolding line_step
other_line keys o shard n l c other = λ i. line_if keys o (other i) shard n l c
