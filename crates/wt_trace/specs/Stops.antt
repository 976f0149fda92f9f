-- Why a shard stops before its last line, and what was asked if it doesn't.
use Rattle.std.specs.Prelude.{◌≡◌, ◌⊎◌, ◌+◌, ◌<◌, ℕ, Bool, true, false, List, [], ◌∷◌, drop}
use Rattle.wt_trace.specs.declared.trace.line.Act.{Act}
use Rattle.wt_trace.specs.declared.trace.line.Line.{Line}
use Rattle.wt_trace.specs.Answers.{belongs}
use Rattle.wt_trace.specs.Keys.{Keys, numbers, names}
use Rattle.wt_trace.specs.Trace.{lines_of, is_header, trace_from}
use Rattle.wt_trace.specs.declared.options.Options.{Options}
use Rattle.wt_keys.specs.declared.fault.Fault.TheVariants.{NoMemory}
use Rattle.wt_trace.specs.declared.fault.ReplayFault.{ReplayFault}
use Rattle.wt_trace.specs.declared.fault.ReplayFault.TheVariants.{Cache, GateShut}

-- no memory, or a line before which it may be stopped
abbrev pub IsStop : (ℕ → Type 0) → ReplayFault → Type 0
IsStop stops fault = (fault ≡ Cache NoMemory) ⊎ ((n : ℕ) × (fault ≡ GateShut n) × stops n)

-- of the lines from line n on, each that belongs was let through
abbrev pub AreAsked : {K : Type 0} → (Act K → Bool) → (ℕ → Type 0) → ℕ → List (Line K) → Type 0
AreAsked belongs passed n [] = Unit {0}
AreAsked belongs passed n (l ∷ ls) = (belongs l.act ≡ true → passed n) × AreAsked belongs passed (n + 1) ls

-- each line was let through at each shard that it belongs to
abbrev pub AllAsked : {K : Type 0} → Keys K → Options → (ℕ → Type 0) → ℕ → List (Line K) → Type 0
AllAsked keys o passed n lines = (shard : ℕ) → shard < o.shards → AreAsked (belongs keys o shard) passed n lines

-- by whether the first line is a header
abbrev pub asked_by : Bool → Options → (ℕ → Type 0) → List (List ℕ) → Type 0
asked_by true o passed lines = AllAsked names o passed 2 (trace_from names.read 2 (drop 1 lines)).lines
asked_by false o passed lines = AllAsked numbers o passed 1 (trace_from numbers.read 1 lines).lines

-- and so of the bytes of a trace
abbrev pub Asked : Options → (ℕ → Type 0) → List ℕ → Type 0
Asked o passed bytes = asked_by (is_header (lines_of bytes)) o passed (lines_of bytes)
