-- How old a value may be that a look or a seek hits which was made.
use Rattle.std.specs.Prelude.{◌≡◌, ℕ, List}
use Rattle.wt_regions.specs.Notices.{NoticeList}
use Rattle.wt_core.specs.declared.calls.Call.{Call}
use Rattle.wt_core.specs.declared.calls.Call.TheVariants.{Look, Seek}
use Rattle.wt_core.specs.declared.calls.Reply.{Reply}
use Rattle.wt_shards.specs.History.{IsMade}
use Rattle.wt_shards.specs.Members.{Members}
use Rattle.wt_shards.specs.Place.{Place}
use Rattle.wt_shards.specs.Served.{IsReadYoung}

-- a look or a seek of the key at the moment
abbrev pub IsReadAt : {K V : Type 0} → K → ℕ → Call K V → Type 0
IsReadAt k now (Look j moment) = (j ≡ k) × (moment ≡ now)
IsReadAt k now (Seek j moment) = (j ≡ k) × (moment ≡ now)
IsReadAt k now c = ⊥

-- a look or a seek that was made hits no value but one that the calls before it brought for its key, not too long ago
abbrev pub ReadsYoung : {K V : Type 0} → Members K V → Place → Type 0
ReadsYoung {K = K} {V = V} members p = (k : K) (now : ℕ) (read : Call K V) (old new : List (Call K V)) (found : Reply V) (number : ℕ)
    (before list : NoticeList K V) → IsMade members p read found number old new before list → IsReadAt k now read
    → IsReadYoung members.eq members.word members.measure p.config k now read new found
