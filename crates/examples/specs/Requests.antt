-- What one request leaves for the next.
use Rattle.std.specs.Prelude.{ℕ, List, [], slice_index_or}
use mathlib.Core.List.{IsPrefix}
use Rattle.wt_regions.specs.Notices.{NoticeList}
use Rattle.wt_core.specs.declared.calls.Call.{Call}
use Rattle.wt_core.specs.declared.calls.Call.TheVariants.{Put}
use Rattle.wt_core.specs.declared.calls.Reply.{Reply}
use Rattle.wt_core.specs.declared.calls.Reply.TheVariants.{Stored}
use Rattle.wt_shards.specs.History.{IsMade}
use Rattle.wt_shards.specs.Members.{Members}
use Rattle.wt_shards.specs.Place.{Layout, home_at, home_of}
use Rattle.wt_shards.specs.Served.{IsHandedOver}

module _ {K V : Type 0} (members : Members K V) (l : Layout) (k : K) where
  -- what a sight shows of the history of the key's shard
  abbrev pub shown : List (List (Call K V)) → List (Call K V)
  shown sight = slice_index_or sight (home_of members.word k l) []

  -- this beginning of that history ends with a put of the key, which was the step of this number
  pub record EndsWithPut (v : V) (now number : ℕ) (seen : List (Call K V)) : Type 0 where
    -- what the caller of the put had seen before
    pub before : List (Call K V)
    pub left : NoticeList K V
    pub list : NoticeList K V
    pub made : IsMade members (home_at members.word k l) (Put k v now) Stored number before seen left list

  -- a look of the key is behind each put of it that a sight shows: it hits the value that was put, or one that came later
  abbrev pub ReadsPuts : List (List (Call K V)) → ℕ → List (List (Call K V)) → Reply V → Type 0
  ReadsPuts sight later last found = (v : V) (now number : ℕ) (seen : List (Call K V))
      → EndsWithPut v now number seen → IsPrefix seen (shown sight)
      → IsHandedOver members.eq members.word members.measure l.config k v now later number (shown last) found
