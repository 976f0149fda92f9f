-- What several calls of a replay turn by turn promise alike, and what they ask for: one record for each.
use Rattle.std.specs.Prelude.{◌≡◌, ℕ, Bool, true, false, List, Vec, vec_len, Option, None, Result, IfOk, IfErr, OnOk}
use Rattle.wt_core.specs.declared.stats.Stats.{Stats}
use Rattle.wt_shards.specs.Opening.{AreBlanksOf}
use Rattle.wt_history.specs.Names.{Book}
use Rattle.wt_shards.specs.Passes.{Seen}
use Rattle.wt_shards.specs.Place.{Layout}
use Rattle.wt_shards.specs.declared.books.Blanks.{Blanks}
use Rattle.wt_cache.specs.Cached.{Cached}
use Rattle.wt_trace.specs.Keys.{Keys}
use Rattle.wt_trace.specs.Options.{option_fault}
use Rattle.wt_trace.specs.Stops.{AreAsked}
use Rattle.wt_trace.specs.Trace.{Trace}
use Rattle.wt_trace.specs.declared.fault.ReplayFault.{ReplayFault}
use Rattle.wt_trace.specs.declared.trace.line.Line.{Line}
use Rattle.wt_trace.specs.declared.options.Options.{Options}
use Rattle.wt_trace.specs.declared.shard.version.Version.{Version}
use Rattle.wt_turns.specs.ByTurn.{AreLooked, IsTurnFault, faulty, layout_of}
use Rattle.wt_turns.specs.Turns.{AreDone, IsRunStop}
use Rattle.wt_turns.specs.declared.by_turn.turns.RunFault.{RunFault}

-- blanks of which a cache of these options can be made
pub record AreLedgersOf {K V : Type 0} (l : Layout) (name : ℕ → ℕ) (book : ℕ → Book) (b : Blanks K V) (o : Options) : Type 0 where
  pub layout : l ≡ layout_of o
  pub blanks : AreBlanksOf name book b
  pub options : option_fault o ≡ None

module _ {K : Type 0} (keys : Keys K) (o : Options) (c : Cached) (gate : ℕ → Bool → Type 0) (first : ℕ) (lines : List (Line K)) where
  -- what is promised of the threads that do the lines in turn
  pub record HaveRan {Z E : Type 0} (threads : ℕ) (result : Result (Vec (Result (Seen K (Version K)) RunFault) Z) E) : Type 0 where
    -- what each of them hands back
    pub each : IfOk result (λ ran. AreDone keys o c gate first lines threads ran.items)
    -- each of them hands something back
    pub len : IfOk result (λ ran. vec_len ran ≡ threads)

-- what a run of lines promises, the first of which is line `first`
pub record IsSession {K : Type 0} (gate : ℕ → Bool → Type 0) (first : ℕ) (lines : List (Line K)) (result : Result Stats RunFault) : Type 0 where
  -- the gate let each line through
  pub asked : OnOk result (AreAsked (λ _. true) (λ n. gate n true) first lines)
  -- hits and misses are the look-ups
  pub looked : IfOk result AreLooked
  -- a fault of the cache, none of its options, or of a line before which the gate was shut
  pub err : IfErr result (IsRunStop (λ n. gate n false))

-- what is promised of the sums of a trace, of whose lines `passed` says that each was let through, and with which this is wrong
pub record AreSumsOf (passed : Type 0) (wrong : Option ReplayFault) (shut : ℕ → Type 0) (result : Result Stats ReplayFault) : Type 0 where
  -- the gate let each line through
  pub asked : OnOk result passed
  -- hits and misses are the look-ups
  pub looked : IfOk result AreLooked
  -- nothing is wrong with the trace
  pub sound : OnOk result (wrong ≡ None)
  -- the fault is what is wrong with the trace, or one of a run
  pub faults : IfErr result (IsTurnFault shut wrong)

-- and so of a trace whose first line is line `first`
abbrev pub AreTraceSums : {K : Type 0} → (ℕ → Bool → Type 0) → ℕ → Trace K → Result Stats ReplayFault → Type 0
AreTraceSums gate first t result = AreSumsOf (AreAsked (λ _. true) (λ n. gate n true) first t.lines) (faulty first t) (λ n. gate n false) result
