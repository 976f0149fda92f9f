-- What several calls of a replay promise alike, and what they ask for: one record for each.
use Rattle.std.specs.Prelude.{◌≡◌, ◌++◌, ◌+◌, ◌<◌, ◌≤◌, ◌^◌, ℕ, Bool, true, false, All, List, [], Vec, length, map, get_or, Option, None, Result, Ok, Err, IfOk, IfErr, OnOk, MatchOption}
use Rattle.std.specs.List.{range_with_len}
use Rattle.std.specs.Io.KnownBytes.{Appends}
use Rattle.wt_keys.specs.declared.fault.Fault.TheVariants as cache
use Rattle.wt_trace.specs.Answers.{ShardAnswers, Shown, Stepped, Work, answers, belongs}
use Rattle.wt_trace.specs.Keys.{Keys}
use Rattle.wt_trace.specs.Options.{option_fault}
use Rattle.wt_trace.specs.Parts.{IsPart}
use Rattle.wt_trace.specs.Replayed.{AppendsPrefix, GaveUpTo, Rises, ShutsOnly, is_config_fault}
use Rattle.wt_trace.specs.Report.{Report, IsReport}
use Rattle.wt_trace.specs.Standing.{Standing, lines_by, standings_after}
use Rattle.wt_trace.specs.Stops.{AllAsked, AreAsked, IsStop}
use Rattle.wt_trace.specs.Tally.{Tally}
use Rattle.wt_trace.specs.Trace.{Verdict, line_end, lines_of, read_end, trace_from}
use Rattle.wt_trace.specs.declared.fault.ReplayFault.{ReplayFault}
use Rattle.wt_trace.specs.declared.fault.ReplayFault.TheVariants as fault
use Rattle.wt_trace.specs.declared.trace.line.Line.{Line}
use Rattle.wt_trace.specs.declared.options.Options.{Options}
use Rattle.wt_trace.specs.declared.trace.Lines.{Lines}

-- ---- what is asked for

-- lines that shards can do: each option is in its range, and there are few enough lines, the first of which has this number
pub record IsReady (o : Options) (first count : ℕ) : Type 0 where
  pub options : option_fault o ≡ None
  pub few : first + count ≤ line_end

-- lines that the shards of n threads can do
pub record IsReadyOn (n : ℕ) (o : Options) (first count : ℕ) : Type 0 where
  pub options : option_fault o ≡ None
  pub few : first + count ≤ line_end
  pub threads : 0 < n

-- lines of a report that can be printed on threads: each shard has a text for each, and a thread prints at most `len`
pub record IsCut (first : ℕ) (all : List ShardAnswers) (count len : ℕ) : Type 0 where
  pub whole : All (λ a. length a.texts ≡ count) all
  pub fits : first + count < 2 ^ 64
  pub most : len ≤ line_end + 1

-- ---- what is promised

-- a check names the first option that is out of its range, if one is
abbrev pub IsChecked : Options → Result (Unit {0}) ReplayFault → Type 0
IsChecked o result = MatchOption (option_fault o) (result ≡ Ok tt) (λ field. result ≡ Err (fault.Cache (cache.BadConfig field)))

-- what a shard at work promises that shows something of a line behind a text
pub record Adds {K E : Type 0} (shown : Shown K) (old new : Work K) (before after : List ℕ) (result : Result (Unit {0}) E) : Type 0 where
  -- its cache is in the state that is shown, and its adviser as it was
  pub cache : OnOk result (new.cache ≡ record old.cache { state = shown.state })
  -- the text that is shown stands behind the one that was there
  pub text : OnOk result (after ≡ before ++ shown.text)
  -- whatever is returned: its options and its number stay
  pub same : (new.options ≡ old.options) × (new.shard ≡ old.shard)

-- what it promises that does a line
pub record AddsLine {K E : Type 0} (stepped : Stepped K) (old new : Work K) (before after : List ℕ) (result : Result (Unit {0}) E) : Type 0 where
  -- its cache is as the line leaves it
  pub cache : OnOk result (new.cache ≡ stepped.cache)
  -- the text that the line adds stands behind the one that was there
  pub text : OnOk result (after ≡ before ++ stepped.text)
  -- whatever is returned: its options and its number stay
  pub same : (new.options ≡ old.options) × (new.shard ≡ old.shard)

-- what is promised of the report's lines of bytes, the first of which is line n, done by shards that stood so
pub record AreShown {K : Type 0} (keys : Keys K) (n : ℕ) (bytes : List ℕ) (old new : List (Standing K)) (before after : List ℕ) (result : Result Verdict ReplayFault) : Type 0 where
  -- they stand behind the text
  pub text : OnOk result (after ≡ before ++ lines_by keys n (trace_from keys.read n (lines_of bytes)).lines old)
  -- how the shards stand behind the last
  pub standings : OnOk result (new ≡ standings_after keys n (trace_from keys.read n (lines_of bytes)).lines old)
  -- the verdict is what is wrong with the line behind them
  pub verdict : IfOk result (λ verdict. verdict ≡ (trace_from keys.read n (lines_of bytes)).verdict)
  -- there is no memory
  pub err : IfErr result (IsStop (λ _. ⊥))

-- what is promised of the lines that are read of bytes, the first of which is line n
pub record AreRead {K E : Type 0} (read : List ℕ → Option K) (n : ℕ) (bytes : List ℕ) (result : Result (Lines K) E) : Type 0 where
  -- the number behind the last line is at most 1,000,001
  pub few : IfOk result (λ r. n + length r.lines.items ≤ line_end)
  -- they are the lines up to the first fault
  pub lines : IfOk result (λ r. r.lines.items ≡ (trace_from read n (lines_of bytes)).lines)
  -- and the verdict is what is wrong with the line behind them
  pub verdict : IfOk result (λ r. r.verdict ≡ (trace_from read n (lines_of bytes)).verdict)

module _ {K : Type 0} (keys : Keys K) (o : Options) (gate : ℕ → Bool → Type 0) (first : ℕ) (lines : List (Line K)) where
  -- what a shard promises that does all lines that belong to it
  pub record IsOfShard (shard : ℕ) (result : Result ShardAnswers ReplayFault) : Type 0 where
    -- it answers them as the definition does
    pub answers : IfOk result (λ a. a ≡ answers keys o first lines shard)
    -- the gate let each of them through
    pub asked : OnOk result (AreAsked (belongs keys o shard) (λ n. gate n true) first lines)
    -- there is no memory, or the gate was shut before a line
    pub err : IfErr result (IsStop (λ n. gate n false))

  -- what thread t of `threads` promises, whose part is that of its shards
  abbrev pub IsPartOf : ℕ → ℕ → Result (List (Option ShardAnswers)) ReplayFault → Type 0
  IsPartOf threads t part = IsPart (answers keys o first lines) (λ n. gate n false) (λ shard. AreAsked (belongs keys o shard) (λ n. gate n true) first lines) o.shards threads t part

  -- what the threads promise, each of its part
  abbrev pub HaveRan : {Z E : Type 0} → ℕ → Result (Vec (Result (List (Option ShardAnswers)) ReplayFault) Z) E → Type 0
  HaveRan threads result = IfOk result (λ parts. (t : ℕ) → t < threads → IsPartOf threads t (get_or parts.items t (Ok [])))

  -- what all shards promise that do the lines
  pub record AreOfShards {Z : Type 0} (result : Result (Vec ShardAnswers Z) ReplayFault) : Type 0 where
    -- each answers them as the definition does, in the order of the shards
    pub answers : IfOk result (λ all. all.items ≡ map (answers keys o first lines) (range_with_len 0 o.shards))
    -- the gate let each line through at each shard that it belongs to
    pub asked : OnOk result (AllAsked keys o (λ n. gate n true) first lines)
    -- there is no memory, or the gate was shut before a line
    pub err : IfErr result (IsStop (λ n. gate n false))

-- what is promised of the report of a trace that threads make, which this gate may stop
pub record IsReportedBy (meant : Report) (gate : ℕ → Bool → Type 0) (result : Result (List ℕ × Verdict) ReplayFault) : Type 0 where
  -- the text and the verdict are those of the report that is meant
  pub report : IfOk result (λ r. IsReport meant r.0 r.1)
  -- there is no memory, or the gate was shut before a line
  pub err : IfErr result (IsStop (λ n. gate n false))

-- what is promised of one that a single thread makes
pub record IsPrinted {Z : Type 0} (meant : Report) (result : Result (Vec ℕ Z × Verdict) ReplayFault) : Type 0 where
  -- the text and the verdict are those of the report that is meant
  pub report : IfOk result (λ r. IsReport meant r.0.items r.1)
  -- there is no memory
  pub err : IfErr result (IsStop (λ _. ⊥))

-- what is read is all that the reader gave, or its first bytes up to a limit
abbrev pub IsGiven : {R Z E : Type 0} → ℕ → (R → Option (List ℕ)) → Tally R → Tally R → Result (Vec ℕ Z) E → Type 0
IsGiven most remaining old new result = IfOk result (λ bytes. GaveUpTo most (remaining old.inner) (remaining new.inner) bytes.items)

-- what is promised of bytes that are written
pub record IsWritten {W : Type 0} (contents : W → Option (List ℕ)) (old new : Tally W) (bytes : List ℕ) (result : Result (Unit {0}) ReplayFault) : Type 0 where
  -- all of them were written
  pub ok : OnOk result (Appends (contents old.inner) (contents new.inner) bytes)
  -- or a prefix of them was
  pub err : IfErr result (λ e. (e ≡ fault.WriteFault) × AppendsPrefix (contents old.inner) (contents new.inner) bytes)
  -- no fault is one of the options
  pub kind : IfErr result (λ e. is_config_fault e ≡ false)
  -- the fault comes exactly if the writer failed
  pub failed : Rises old.failures new.failures result fault.WriteFault
  -- if all were written no failure was counted
  pub fine : OnOk result (new.failures ≡ old.failures)

-- what each replay promises of its reader and its writer, of which it did what `Did` says
pub record IsRun {R W : Type 0} (Did : Option (List ℕ) → Option (List ℕ) → Option (List ℕ) → Option (List ℕ) → Result (Unit {0}) ReplayFault → Type 0)
    (o : Options) (stops : ℕ → Type 0) (remaining : R → Option (List ℕ)) (contents : W → Option (List ℕ))
    (reader read : Tally R) (writer written : Tally W) (result : Result (Unit {0}) ReplayFault) : Type 0 where
  -- an option out of its range is the fault, before anything is read or written; and only it is a fault of the options
  pub config : MatchOption (option_fault o) (IfErr result (λ e. is_config_fault e ≡ false))
      (λ field. (result ≡ Err (fault.Cache (cache.BadConfig field))) × (read ≡ reader) × (written ≡ writer))
  -- what was read, and what was written of it
  pub replayed : Did (remaining reader.inner) (remaining read.inner) (contents writer.inner) (contents written.inner) result
  -- a fault of the reader comes exactly if it failed
  pub reads : Rises reader.failures read.failures result fault.ReadFault
  -- how often the reader is asked
  pub turns : read.reads ≤ reader.reads + read_end + 1
  -- a fault of the writer comes exactly if it failed
  pub writes : Rises writer.failures written.failures result fault.WriteFault
  -- a shut gate is the fault only if it was shut
  pub shut : ShutsOnly stops result
