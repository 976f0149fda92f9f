-- How shards stand between two lines, and the report a line at a time.
use Rattle.std.specs.Prelude.{ℕ, ◌+◌, List, [], ◌∷◌, ◌++◌, map, codes, decimal}
use Rattle.std.specs.List.{flat_map, range_with_len}
use Rattle.wt_trace.specs.Answers.{Cache, Work, line_step, new_cache}
use Rattle.wt_trace.specs.Keys.{Keys}
use Rattle.wt_trace.specs.declared.trace.line.Line.{Line}
use Rattle.wt_trace.specs.declared.options.Options.{Options}

-- how a shard stands between two lines
pub record Standing (K : Type 0) : Type 0 where
  pub options : Options
  pub shard : ℕ
  pub cache : Cache K

module _ {K : Type 0} where
  -- how a shard at work stands
  abbrev pub standing_of : Work K → Standing K
  standing_of w = record { options = w.options; shard = w.shard; cache = w.cache }

  -- how a new shard stands
  abbrev pub new_standing : Options → ℕ → Standing K
  new_standing o shard = record { options = o; shard = shard; cache = new_cache o }

  -- how all new shards stand
  abbrev pub new_standings : Options → List (Standing K)
  new_standings o = map (new_standing o) (range_with_len 0 o.shards)

module _ {K : Type 0} (keys : Keys K) where
  -- what a shard adds to line n
  abbrev pub added_text : ℕ → Line K → Standing K → List ℕ
  added_text n l s = (line_step keys s.options s.shard n l s.cache).text

  -- how it stands behind line n
  abbrev pub next_standing : ℕ → Line K → Standing K → Standing K
  next_standing n l s = record s { cache = (line_step keys s.options s.shard n l s.cache).cache }

  -- line n of the report: its number, and what each shard adds to it
  abbrev pub line_by : ℕ → Line K → List (Standing K) → List ℕ
  line_by n l shards = decimal n ++ (flat_map (added_text n l) shards ++ codes "\n")

  -- the report of the lines from line n on
  abbrev pub lines_by : ℕ → List (Line K) → List (Standing K) → List ℕ
  lines_by n [] shards = []
  lines_by n (l ∷ ls) shards = line_by n l shards ++ lines_by (n + 1) ls (map (next_standing n l) shards)

  -- how the shards stand behind them
  abbrev pub standings_after : ℕ → List (Line K) → List (Standing K) → List (Standing K)
  standings_after n [] shards = shards
  standings_after n (l ∷ ls) shards = standings_after (n + 1) ls (map (next_standing n l) shards)
