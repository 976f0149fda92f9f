-- A replay turn by turn.
use Rattle.std.specs.Prelude.{◌≡◌, ℕ, ◌+◌, ◌≤◌, Bool, true, false, if◌then◌else◌, List, [], ◌∷◌, drop, Option, None, Some, Result, Ok, Err}
use Rattle.std.specs.Option.{option_map, option_or}
use Rattle.std.specs.Io.KnownBytes.{Keeps, Appends}
use Rattle.wt_core.specs.Lawful.{AreSmall}
use Rattle.wt_core.specs.Sums.{no_numbers}
use Rattle.wt_core.specs.declared.stats.Stats.{Stats}
use Rattle.wt_shards.specs.Place.{Layout}
use Rattle.wt_shards.specs.Totals.{Settled}
use Rattle.wt_shards.specs.declared.total.Total.{Total}
use Rattle.wt_trace.specs.Keys.{numbers, names}
use Rattle.wt_trace.specs.Options.{config_of}
use Rattle.wt_trace.specs.Replayed.{Gave, AppendsPrefix, is_config_fault}
use Rattle.wt_trace.specs.Report.{summary_of}
use Rattle.wt_trace.specs.Stops.{AreAsked}
use Rattle.wt_trace.specs.Trace.{Trace, Verdict, lines_of, is_header, trace_from}
use Rattle.wt_trace.specs.declared.fault.ReplayFault.{ReplayFault}
use Rattle.wt_trace.specs.declared.fault.ReplayFault.TheVariants.{Cache, BadLine, LineTooLong, TooManyLines, ReadFault, WriteFault, GateShut}
use Rattle.wt_trace.specs.declared.trace.line.Act.{Act}
use Rattle.wt_trace.specs.declared.trace.line.Act.TheVariants as act
use Rattle.wt_trace.specs.declared.trace.line.Line.{Line}
use Rattle.wt_trace.specs.declared.options.Options.{Options}

-- whether a line leaves a load open or lands one: no turn has such lines, since there the cache lands what it opens
abbrev pub opens : {K : Type 0} → Act K → Bool
opens (act.Seek k) = true
opens (act.Land k) = true
opens _ = false

-- the first such line, from line n on
abbrev pub first_open : {K : Type 0} → ℕ → List (Line K) → Option ℕ
first_open n [] = None
first_open n (l ∷ ls) = if opens l.act then Some n else first_open (n + 1) ls

-- the fault that a verdict tells
abbrev pub fault_in : Verdict → Option ReplayFault
fault_in (Ok _) = None
fault_in (Err fault) = Some fault

-- what is wrong with a trace, the first line of which is line n
abbrev pub faulty : {K : Type 0} → ℕ → Trace K → Option ReplayFault
faulty n t = option_or (option_map BadLine (first_open n t.lines)) (fault_in t.verdict)

-- by whether the first line is a header, which counts as line 1
abbrev pub faulty_by : Bool → List (List ℕ) → Option ReplayFault
faulty_by true lines = faulty 2 (trace_from names.read 2 (drop 1 lines))
faulty_by false lines = faulty 1 (trace_from numbers.read 1 lines)

-- what is wrong with the bytes of a trace
abbrev pub turn_fault : List ℕ → Option ReplayFault
turn_fault bytes = faulty_by (is_header (lines_of bytes)) (lines_of bytes)

-- by whether the first line is a header: each line was let through
abbrev pub let_through_by : Bool → (ℕ → Type 0) → List (List ℕ) → Type 0
let_through_by true passed lines = AreAsked (λ _. true) passed 2 (trace_from names.read 2 (drop 1 lines)).lines
let_through_by false passed lines = AreAsked (λ _. true) passed 1 (trace_from numbers.read 1 lines).lines

-- and so of the bytes of a trace
abbrev pub IsLetThrough : (ℕ → Type 0) → List ℕ → Type 0
IsLetThrough passed bytes = let_through_by (is_header (lines_of bytes)) passed (lines_of bytes)

-- numbers whose hits and misses are the look-ups
abbrev pub AreLooked : Stats → Type 0
AreLooked s = s.hits + s.misses ≡ s.lookups

-- By the outcome: what became of the reader (r, s: before, after) and of the writer (w, x).
abbrev pub Turned : Option (List ℕ) → Option (List ℕ) → Option (List ℕ) → Option (List ℕ) → Result (Unit {0}) ReplayFault → Type 0
Turned r s w x (Ok _) = (bytes : List ℕ) × Gave r s bytes × (turn_fault bytes ≡ None) × ((sums : Stats) × AreLooked sums × Appends w x (summary_of sums))
Turned r s w x (Err WriteFault) = (bytes : List ℕ) × Gave r s bytes × (turn_fault bytes ≡ None) × ((sums : Stats) × AreLooked sums × AppendsPrefix w x (summary_of sums))
Turned r s w x (Err (BadLine n)) = (bytes : List ℕ) × Gave r s bytes × (turn_fault bytes ≡ Some (BadLine n)) × Keeps w x
Turned r s w x (Err (LineTooLong n)) = (bytes : List ℕ) × Gave r s bytes × (turn_fault bytes ≡ Some (LineTooLong n)) × Keeps w x
Turned r s w x (Err TooManyLines) = (bytes : List ℕ) × Gave r s bytes × (turn_fault bytes ≡ Some TooManyLines) × Keeps w x
Turned r s w x (Err fault) = Keeps w x

-- a fault that ends the reading of a trace or a run: one of a line is what is wrong with the trace, and none is of the options
abbrev pub IsTurnFault : (ℕ → Type 0) → Option ReplayFault → ReplayFault → Type 0
IsTurnFault shut wrong (BadLine n) = wrong ≡ Some (BadLine n)
IsTurnFault shut wrong (LineTooLong n) = wrong ≡ Some (LineTooLong n)
IsTurnFault shut wrong TooManyLines = wrong ≡ Some TooManyLines
IsTurnFault shut wrong ReadFault = ⊥
IsTurnFault shut wrong WriteFault = ⊥
IsTurnFault shut wrong (Cache fault) = is_config_fault (Cache fault) ≡ false
IsTurnFault shut wrong (GateShut n) = shut n

-- lines that threads may do in turn: the first number is 1 or 2, and there are at most 1,000,000 lines and 64 threads
pub record IsReady (first lines threads : ℕ) : Type 0 where
  pub some_line : 1 ≤ first
  pub near : first ≤ 2
  pub short : lines ≤ 1000000
  pub some : 1 ≤ threads
  pub within : threads ≤ 64

-- at most four shards, and lines that threads may do in turn
pub record IsManned (shards first lines threads : ℕ) : Type 0 where
  pub few : shards ≤ 4
  pub ready : IsReady first lines threads

-- how the cache of a replay is laid out
abbrev pub layout_of : Options → Layout
layout_of o = record { shards = o.shards; config = config_of o }

-- numbers that hang together and can be added up
pub record IsGood (t : Total) : Type 0 where
  pub looked : t.stats.hits + t.stats.misses ≡ t.stats.lookups
  pub small : AreSmall t.stats

-- the numbers of a shard, if there is one
abbrev pub numbers_of : Option Total → Stats
numbers_of None = no_numbers
numbers_of (Some total) = total.stats

-- what each of the four numbers of a shard ended with, if it is in use
abbrev pub shards_of : Settled → List (Option Total)
shards_of t = t.zero ∷ t.one ∷ t.two ∷ t.three ∷ []
