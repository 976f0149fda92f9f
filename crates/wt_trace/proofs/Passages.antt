-- The lines of a report were let through.
use Rattle.std.proofs.Common.{ℕ, List, Option, Result, Ok, Err}
use Rattle.wt_trace.specs.Replayed.{Gave, LetThrough}
use Rattle.wt_trace.specs.Stops.{Asked}
use Rattle.wt_trace.specs.declared.options.Options.{Options}
use Rattle.wt_trace.specs.declared.fault.ReplayFault.{ReplayFault}
use Rattle.wt_trace.specs.declared.fault.ReplayFault.TheVariants.{Cache, BadLine, LineTooLong, TooManyLines, ReadFault, WriteFault, GateShut}

module _ (o : Options) (passed : ℕ → Type 0) (r s : Option (List ℕ)) (bytes : List ℕ) (gave : Gave r s bytes)
    (asked : Asked o passed bytes) where
  pub let_through : (v : Result (Unit {0}) ReplayFault) → LetThrough o passed r s v
  let_through (Ok u) = (bytes, gave, asked)
  let_through (Err (BadLine n)) = (bytes, gave, asked)
  let_through (Err (LineTooLong n)) = (bytes, gave, asked)
  let_through (Err TooManyLines) = (bytes, gave, asked)
  let_through (Err WriteFault) = (bytes, gave, asked)
  let_through (Err (Cache fault)) = tt
  let_through (Err ReadFault) = tt
  let_through (Err (GateShut n)) = tt
