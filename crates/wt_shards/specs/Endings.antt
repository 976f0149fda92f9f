-- What passes add up to where a shard ends.
use Rattle.std.specs.Prelude.{◌≡◌, ◌≢◌, ◌⊎◌, ℕ, zero, suc, ◌+◌, ◌<◌, ◌≤◌, List, [], ◌∷◌, Option, None, IsSomeAnd, length, slice_index_or, sum_by}
use mathlib.Core.List.{IsPrefix}
use Rattle.wt_core.specs.declared.calls.Call.{Call}
use Rattle.wt_shards.specs.Counts.{ShardCounts}
use Rattle.wt_shards.specs.Passes.{Seen, counts_at, steps_in, hits_in, front_at}
use Rattle.wt_shards.specs.declared.total.Total.{Total}

-- what is seen of a shard that ended: its last numbers, and its history
pub record Ending (K V : Type 0) : Type 0 where
  pub total : Total
  pub calls : List (Call K V)

-- what is seen of shards that ended: how many, and each number in use
pub record Ends (K V : Type 0) : Type 0 where
  pub shards : ℕ
  pub zero : Option (Ending K V)
  pub one : Option (Ending K V)
  pub two : Option (Ending K V)
  pub three : Option (Ending K V)

module _ {K V : Type 0} where
  -- these calls of a shard begin with what each of the passes has seen of it
  abbrev pub BeginSeen : ℕ → List (Seen K V) → List (Call K V) → Type 0
  BeginSeen i [] calls = Unit {0}
  BeginSeen i (p ∷ ps) calls = IsPrefix (front_at i p) calls × BeginSeen i ps calls

  -- one of the passes has seen more than n calls of a shard
  abbrev pub OneSaw : ℕ → ℕ → List (Seen K V) → Type 0
  OneSaw n i [] = ⊥
  OneSaw n i (p ∷ ps) = (n < length (front_at i p)) ⊎ OneSaw n i ps

  -- what two callers made and saw at a shard, as one caller's: the sums, and the longer of the two beginnings
  pub record IsAddedTo (old more new : ShardCounts) (before other after : List (Call K V)) : Type 0 where
    pub steps : new.steps ≡ old.steps + more.steps
    pub hits : new.hits ≡ old.hits + more.hits
    pub this : IsPrefix before after
    pub that : IsPrefix other after
    pub longer : (after ≡ before) ⊎ (after ≡ other)

  -- the same at each shard
  abbrev pub AreAdded : Seen K V → Seen K V → Seen K V → Type 0
  AreAdded old more new = (i : ℕ) → IsAddedTo (counts_at i old.counts) (counts_at i more.counts) (counts_at i new.counts)
      (front_at i old) (front_at i more) (front_at i new)

  -- what all passes made and saw at a shard, as one pass's
  pub record AreSummed (i : ℕ) (passes : List (Seen K V)) (all : Seen K V) : Type 0 where
    pub steps : sum_by (steps_in i) passes ≡ steps_in i all
    pub hits : sum_by (hits_in i) passes ≡ hits_in i all
    pub seen : BeginSeen i passes (front_at i all)
    pub saw : (n : ℕ) → n < length (front_at i all) → OneSaw n i passes

  -- what was made at a shard is all that its books have, and what was seen begins its history
  pub record AddsTo (e : Ending K V) (made : ShardCounts) (seen : List (Call K V)) : Type 0 where
    pub steps : made.steps ≡ e.total.steps
    pub hits : made.hits ≡ e.total.hits
    pub begins : IsPrefix seen e.calls

  -- less was made than the books have; or more calls were seen than made
  pub record FallsShort (e : Ending K V) (made : ShardCounts) (seen : List (Call K V)) : Type 0 where
    pub steps : made.steps ≤ e.total.steps
    pub hits : made.hits ≤ e.total.hits
    pub less : (IsPrefix seen e.calls × ((made.steps ≢ e.total.steps) ⊎ (made.hits ≢ e.total.hits)))
        ⊎ (made.steps < length seen)

-- what the shard of a number ended with, if there is one
abbrev pub ending_at : {K V : Type 0} → ℕ → Ends K V → Option (Ending K V)
ending_at i e = slice_index_or (e.zero ∷ e.one ∷ e.two ∷ e.three ∷ []) i None

module _ {K V : Type 0} where
  -- the sums over the passes at a shard are these numbers
  pub record AreSums (i : ℕ) (passes : List (Seen K V)) (made hit : ℕ) : Type 0 where
    pub steps : sum_by (steps_in i) passes ≡ made
    pub hits : sum_by (hits_in i) passes ≡ hit

  -- one of the sums over the passes at a shard isn't this number
  abbrev pub AreNotSums : ℕ → List (Seen K V) → ℕ → ℕ → Type 0
  AreNotSums i passes made hit =
      (sum_by (steps_in i) passes ≢ made) ⊎ (sum_by (hits_in i) passes ≢ hit)

  -- the passes made all that the books of a shard have, and what they have seen begins its history
  pub record IsAllOf (i : ℕ) (passes : List (Seen K V)) (e : Ending K V) : Type 0 where
    pub sums : AreSums i passes e.total.steps e.total.hits
    pub begins : BeginSeen i passes e.calls

  -- they made less; or one of them has seen more calls than all of them made
  pub record IsPartOf (i : ℕ) (passes : List (Seen K V)) (e : Ending K V) : Type 0 where
    pub steps : sum_by (steps_in i) passes ≤ e.total.steps
    pub hits : sum_by (hits_in i) passes ≤ e.total.hits
    pub differ : (BeginSeen i passes e.calls × AreNotSums i passes e.total.steps e.total.hits) ⊎ OneSaw (sum_by (steps_in i) passes) i passes

  -- at each of the first shards the passes made all of its history
  abbrev pub AreAllBelow : Ends K V → List (Seen K V) → ℕ → Type 0
  AreAllBelow e passes zero = Unit {0}
  AreAllBelow e passes (suc n) = AreAllBelow e passes n × IsSomeAnd (ending_at n e) (IsAllOf n passes)

  -- at the shard of this number they made a part of its history, and at each before it all
  pub record IsShort (e : Ends K V) (passes : List (Seen K V)) (least : ℕ) : Type 0 where
    pub part : IsSomeAnd (ending_at least e) (IsPartOf least passes)
    pub below : AreAllBelow e passes least
