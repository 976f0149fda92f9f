-- The report of a trace.
use Rattle.std.specs.Prelude.{◌≡◌, ℕ, ◌+◌, ◌-◌, ◌*◌, ◌<◌, min, Bool, true, false, if◌then◌else◌, List, [], ◌++◌, Vec, map, length, get_or, drop, sum_by, is_ok, Result, Ok, Err, IfOk, alloc_error, codes, decimal}
use Rattle.std.specs.declared.alloc.AllocError.{AllocError}
use Rattle.std.specs.List.{flat_map, range_with_len}
use Rattle.wt_core.specs.declared.stats.Stats.{Stats}
use Rattle.wt_trace.specs.declared.fault.ReplayFault.TheVariants.{BadLine, LineTooLong, TooManyLines}
use Rattle.wt_trace.specs.declared.options.Options.{Options}
use Rattle.wt_trace.specs.Keys.{Keys, numbers, names}
use Rattle.wt_trace.specs.Trace.{Verdict, Trace, lines_of, is_header, trace_from}
use Rattle.wt_trace.specs.Answers.{ShardAnswers, answers}

-- what is printed, and how the run ends
pub record Report : Type 0 where
  pub text : List ℕ
  pub verdict : Verdict

-- the i-th line of the report: what each shard adds to it, in order
unfoldable pub line_text : ℕ → List ShardAnswers → ℕ → List ℕ
line_text first all i = decimal (first + i) ++ (flat_map (λ (a : ShardAnswers). get_or a.texts i []) all ++ codes "\n")

-- `len` lines from line i on
abbrev pub lines_text : ℕ → List ShardAnswers → ℕ → ℕ → List ℕ
lines_text first all i len = flat_map (line_text first all) (range_with_len i len)

-- piece t of `count` lines, in pieces of at most `most`
abbrev pub piece_text : ℕ → List ShardAnswers → ℕ → ℕ → ℕ → List ℕ
piece_text first all count most t = lines_text first all (min (t * most) count) (min most (count - min (t * most) count))

-- what threads print: each its piece, if there was memory for it
abbrev pub ArePieces : {Z : Type 0} → ℕ → List ShardAnswers → ℕ → ℕ → ℕ → List (Result (Vec ℕ Z) AllocError) → Type 0
ArePieces first all count most threads pieces =
    (t : ℕ) → t < threads → IfOk (get_or pieces t (Err alloc_error)) (λ out. out.items ≡ piece_text first all count most t)

-- a label with a number
unfoldable pub count_text : List ℕ → ℕ → List ℕ
count_text label n = label ++ decimal n

-- the summary's line of numbers
unfoldable pub summary_of : Stats → List ℕ
summary_of t =
    count_text (codes "lookups ") t.lookups ++ (count_text (codes " hits ") t.hits ++ (
    count_text (codes " misses ") t.misses ++ (count_text (codes " loads ") t.loads ++ (
    count_text (codes " failed ") t.failed ++ (count_text (codes " evicted ") t.evicted ++ (
    count_text (codes " entries ") t.entries ++ (count_text (codes " weight ") t.weight ++ codes "\n")))))))

-- the numbers of all shards, added up
abbrev pub totals_of : List ShardAnswers → Stats
totals_of all = record {
  lookups = sum_by (λ (a : ShardAnswers). a.stats.lookups) all;
  hits = sum_by (λ (a : ShardAnswers). a.stats.hits) all;
  misses = sum_by (λ (a : ShardAnswers). a.stats.misses) all;
  loads = sum_by (λ (a : ShardAnswers). a.stats.loads) all;
  failed = sum_by (λ (a : ShardAnswers). a.stats.failed) all;
  evicted = sum_by (λ (a : ShardAnswers). a.stats.evicted) all;
  entries = sum_by (λ (a : ShardAnswers). a.stats.entries) all;
  weight = sum_by (λ (a : ShardAnswers). a.stats.weight) all;
}

-- the summary's line of all shards
unfoldable pub summary : List ShardAnswers → List ℕ
summary all = summary_of (totals_of all)

-- `count` lines by what the shards answer, and the summary if no line was at fault
unfoldable pub printed : ℕ → ℕ → Bool → List ShardAnswers → List ℕ
printed first count complete all = lines_text first all 0 count ++ (if complete then summary all else [])

module _ {K : Type 0} (keys : Keys K) (o : Options) where
  -- the report of the lines of a trace, the first of which is line n
  abbrev pub report_of : ℕ → Trace K → Report
  report_of n t = record {
    text = printed n (length t.lines) (is_ok t.verdict) (map (answers keys o n t.lines) (range_with_len 0 o.shards));
    verdict = t.verdict;
  }

  -- of lines that the bytes spell
  abbrev pub report_from : ℕ → List ℕ → Report
  report_from n bytes = report_of n (trace_from keys.read n (lines_of bytes))

-- by whether the first line is a header, which stands for line 1 and prints nothing
abbrev pub report_by : Bool → Options → List (List ℕ) → Report
report_by true o lines = report_of names o 2 (trace_from names.read 2 (drop 1 lines))
report_by false o lines = report_of numbers o 1 (trace_from numbers.read 1 lines)

-- the report of the bytes of a trace
abbrev pub report : Options → List ℕ → Report
report o bytes = report_by (is_header (lines_of bytes)) o (lines_of bytes)

-- the verdicts of a report
abbrev pub IsVerdict : Verdict → Type 0
IsVerdict (Ok _) = Unit {0}
IsVerdict (Err (BadLine n)) = Unit {0}
IsVerdict (Err (LineTooLong n)) = Unit {0}
IsVerdict (Err TooManyLines) = Unit {0}
IsVerdict _ = ⊥

-- a text and a verdict are those of a report
pub record IsReport (r : Report) (bytes : List ℕ) (end : Verdict) : Type 0 where
  pub text : bytes ≡ r.text
  pub verdict : end ≡ r.verdict
  pub kind : IsVerdict end
