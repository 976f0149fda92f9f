-- What threads make of the shards, and how it is put together.
use Rattle.std.specs.Prelude.{◌≡◌, ℕ, ◌%◌, ◌<◌, ◌==◌, if◌then◌else◌, List, [], map, get_or, slice_set, Option, None, Some, Result, Ok, Err, IfOk, OnOk, IfErr}
use Rattle.std.specs.List.{range_with_len}
use Rattle.wt_trace.specs.Answers.{ShardAnswers}
use Rattle.wt_trace.specs.Stops.{IsStop}
use Rattle.wt_trace.specs.declared.fault.ReplayFault.{ReplayFault}

-- what thread t of `threads` makes of a shard: what it answers, if its number modulo the threads is t
abbrev pub part_at : (ℕ → ShardAnswers) → ℕ → ℕ → ℕ → Option ShardAnswers
part_at answers threads t shard = if shard % threads == t then Some (answers shard) else None

-- the place of a shard in what a thread made, or why it stopped
abbrev pub place_at : ℕ → Result (List (Option ShardAnswers)) ReplayFault → Result (Option ShardAnswers) ReplayFault
place_at shard (Ok places) = Ok (get_or places shard None)
place_at shard (Err fault) = Err fault

-- the same, once that place was emptied
abbrev pub without : ℕ → Result (List (Option ShardAnswers)) ReplayFault → Result (List (Option ShardAnswers)) ReplayFault
without shard (Ok places) = Ok (slice_set places shard None)
without shard (Err fault) = Err fault

-- what all threads made, once the place of a shard in the t-th part was emptied
abbrev pub all_without : ℕ → ℕ → List (Result (List (Option ShardAnswers)) ReplayFault)
    → List (Result (List (Option ShardAnswers)) ReplayFault)
all_without t shard parts = slice_set parts t (without shard (get_or parts t (Ok [])))

-- what thread t promises of its part
pub record IsPart (answer : ℕ → ShardAnswers) (stops passed : ℕ → Type 0) (shards threads t : ℕ) (part : Result (List (Option ShardAnswers)) ReplayFault) : Type 0 where
  -- it made what its shards answer
  pub answers : IfOk part (λ places. places ≡ map (part_at answer threads t) (range_with_len 0 shards))
  -- or it stopped, and why
  pub err : IfErr part (IsStop stops)
  -- of the lines of its shards each was let through
  pub asked : OnOk part ((shard : ℕ) → shard < shards → shard % threads ≡ t → passed shard)
