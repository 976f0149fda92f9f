-- What a reader or a writer was asked, and how often it failed.
use Rattle.std.specs.Prelude.{ℕ, ◌+◌, ◌-◌, ◌^◌, ◌==◌, ◌&&◌, ◌≡◌, nat_lt, min, List, length, Bool, true, Option, Result, Ok, Err, is_err, if◌then◌else◌}
use Rattle.std.specs.Io.{ReadsAtMost, WritesAtMost}
use Rattle.std.specs.Io.KnownBytes.{ReadConsumes, WriteAppends}

-- what is seen of one that is tallied: the reader or writer inside, its reads, and its failures
pub record Tally (T : Type 0) : Type 0 where
  pub inner : T
  pub reads : ℕ
  pub failures : ℕ

-- one more; it stays at the greatest number
abbrev pub one_more : ℕ → ℕ
one_more n = min (n + 1) (2 ^ 64 - 1)

-- one more after a failure
abbrev pub tally : ℕ → Bool → ℕ
tally failures failed = if failed then one_more failures else failures

-- a write that failed: an error, or no byte of some
abbrev pub wrote_nothing : {E : Type 0} → Result ℕ E → List ℕ → Bool
wrote_nothing (Ok n) bytes = (n == 0) && nat_lt 0 (length bytes)
wrote_nothing (Err e) bytes = true

-- what is promised of a read that is tallied
pub record IsTalliedRead {T E : Type 0} (remaining : T → Option (List ℕ)) (old new : Tally T) (buf : List ℕ) (result : Result ℕ E) : Type 0 where
  -- it gives no more than there is room for
  pub bound : ReadsAtMost result buf
  -- what is given is taken from what the reader inside has in front
  pub bytes : ReadConsumes (remaining old.inner) (remaining new.inner) result buf
  -- one read more
  pub reads : new.reads ≡ one_more old.reads
  -- one failure more if it failed
  pub tally : new.failures ≡ tally old.failures (is_err result)

-- what is promised of a write that is tallied
pub record IsTalliedWrite {T E : Type 0} (contents : T → Option (List ℕ)) (old new : Tally T) (buf : List ℕ) (result : Result ℕ E) : Type 0 where
  -- it takes no more than there is
  pub bound : WritesAtMost result buf
  -- what is taken stands behind what the writer inside has
  pub bytes : WriteAppends (contents old.inner) (contents new.inner) result buf
  -- the reads stay
  pub same : new.reads ≡ old.reads
  -- one failure more if it failed
  pub tally : new.failures ≡ tally old.failures (wrote_nothing result buf)
