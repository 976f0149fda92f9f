-- The words of a report.
use Rattle.std.specs.Prelude.{ℕ, ◌==◌, if◌then◌else◌, List, [], ◌++◌, codes, decimal}
use Rattle.std.specs.List.{flat_map}
use Rattle.wt_keys.specs.declared.fault.Fault.TheVariants.{TooHeavy, TooManyFlights}
use Rattle.wt_regions.specs.declared.notices.Cause.{Cause}
use Rattle.wt_regions.specs.declared.notices.Cause.TheVariants.{Explicit, Replaced, Expired, Size}
use Rattle.wt_regions.specs.declared.notices.Notice.{Notice}
use Rattle.wt_core.specs.declared.calls.Reply.{Reply}
use Rattle.wt_core.specs.declared.calls.Reply.TheVariants as reply
use Rattle.wt_trace.specs.declared.shard.version.Version.{Version}

-- the name of a cause
abbrev pub cause_name : Cause → List ℕ
cause_name Explicit = codes "explicit"
cause_name Replaced = codes "replaced"
cause_name Expired = codes "expired"
cause_name Size = codes "size"

module _ {K : Type 0} where
  -- the words of a reply; for a step at every shard the first shard speaks
  abbrev pub words_of : ℕ → Reply (Version K) → List ℕ
  words_of shard (reply.Hit v) = codes " hit " ++ decimal v.line
  words_of shard reply.Absent = codes " absent"
  words_of shard (reply.HitLead v id) = codes " hit " ++ (decimal v.line ++ (codes " lead " ++ decimal id))
  words_of shard (reply.Join id) = codes " join " ++ decimal id
  words_of shard (reply.Lead id) = codes " lead " ++ decimal id
  words_of shard (reply.Kept sharers) = codes " land " ++ decimal sharers
  words_of shard (reply.Loose sharers) = codes " loose " ++ decimal sharers
  words_of shard (reply.Failed sharers) = codes " fail 7"
  words_of shard reply.Gone = codes " none"
  words_of shard reply.Stored = codes " put"
  words_of shard (reply.Dropped left) = if left then codes " drop" else codes " absent"
  words_of shard reply.Cleared = if shard == 0 then codes " clear" else []
  words_of shard (reply.Forgot was) = if was then codes " forget" else codes " none"
  words_of shard reply.Cleaned = if shard == 0 then codes " clean" else []
  words_of shard (reply.Slid moved) = []
  words_of shard (reply.Refused (TooHeavy weight bound)) = codes " heavy"
  words_of shard (reply.Refused (TooManyFlights limit)) = codes " full"
  words_of shard (reply.Refused fault) = []

  -- a load that was landed at once
  abbrev pub loaded_words : Reply (Version K) → List ℕ
  loaded_words (reply.Kept sharers) = codes " load"
  loaded_words r = words_of 0 r

  -- what is printed of an entry that left, by how its key is printed
  abbrev pub notice_text : (K → List ℕ) → Notice K (Version K) → List ℕ
  notice_text shown e = codes " " ++ (shown e.key ++ (codes ":" ++ (decimal e.value.line ++ (codes ":" ++ cause_name e.cause))))

  -- what is printed of all entries that left, in their order
  abbrev pub notices_text : (K → List ℕ) → List (Notice K (Version K)) → List ℕ
  notices_text shown left = flat_map (notice_text shown) left
