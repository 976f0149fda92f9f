-- What a caller's calls met, counted in a tally.
use Rattle.std.specs.Prelude.{ℕ, ◌+◌, ◌-◌, ◌^◌, min, Bool, true, false, List, Option, Some, None, Result, Ok, Err}
use Rattle.std.specs.List.{count_by}
use Rattle.wt_keys.specs.declared.fault.Fault.{Fault}
use Rattle.wt_keys.specs.declared.fault.Fault.TheVariants.{NoMemory, TooHeavy, TooManyFlights, LoadFailed, Abandoned}
use Rattle.wt_regions.specs.declared.notices.Cause.{Cause}
use Rattle.wt_regions.specs.declared.notices.Cause.TheVariants.{Explicit, Replaced, Expired, Size}
use Rattle.wt_regions.specs.declared.notices.Notice.{Notice}
use Rattle.wt_core.specs.declared.calls.Reply.{Reply}
use Rattle.wt_core.specs.declared.calls.Reply.TheVariants as reply
use Rattle.wt_cache.specs.declared.got.How.{How}
use Rattle.wt_cache.specs.declared.got.How.TheVariants.{Hit, Loaded, Joined, Refreshed}
use Rattle.wt_cache.specs.declared.tally.Tally.{Tally}

-- a tally that has counted nothing
abbrev pub no_tally : Tally
no_tally = record { hits = 0; misses = 0; joins = 0; refreshes = 0; loads = 0; loose = 0; failed = 0; explicit = 0; replaced = 0; expired = 0; size = 0; no_memory = 0; too_heavy = 0; too_many_flights = 0; other = 0 }

-- two counts together, which stay at 2^64 - 1
abbrev pub count_sum : ℕ → ℕ → ℕ
count_sum a b = min (a + b) (2 ^ 64 - 1)

-- two tallies together
abbrev pub tally_sum : Tally → Tally → Tally
tally_sum a b = record {
  hits = count_sum a.hits b.hits;
  misses = count_sum a.misses b.misses;
  joins = count_sum a.joins b.joins;
  refreshes = count_sum a.refreshes b.refreshes;
  loads = count_sum a.loads b.loads;
  loose = count_sum a.loose b.loose;
  failed = count_sum a.failed b.failed;
  explicit = count_sum a.explicit b.explicit;
  replaced = count_sum a.replaced b.replaced;
  expired = count_sum a.expired b.expired;
  size = count_sum a.size b.size;
  no_memory = count_sum a.no_memory b.no_memory;
  too_heavy = count_sum a.too_heavy b.too_heavy;
  too_many_flights = count_sum a.too_many_flights b.too_many_flights;
  other = count_sum a.other b.other;
}

-- what a reply of a step adds
abbrev pub tally_of_reply : {V : Type 0} → Reply V → Tally
tally_of_reply (reply.Hit v) = record no_tally { hits = 1 }
tally_of_reply (reply.HitLead v id) = record no_tally { hits = 1; refreshes = 1 }
tally_of_reply reply.Absent = record no_tally { misses = 1 }
tally_of_reply (reply.Lead id) = record no_tally { misses = 1 }
tally_of_reply (reply.Join id) = record no_tally { misses = 1; joins = 1 }
tally_of_reply (reply.Kept n) = record no_tally { loads = 1 }
tally_of_reply (reply.Loose n) = record no_tally { loads = 1; loose = 1 }
tally_of_reply (reply.Failed n) = record no_tally { failed = 1 }
tally_of_reply r = no_tally

-- what a read adds: a hit, or nothing, since a get follows
abbrev pub tally_of_found : {V : Type 0} → Option V → Tally
tally_of_found (Some v) = record no_tally { hits = 1 }
tally_of_found None = no_tally

-- what a get adds, by how its value was got
abbrev pub tally_of_how : How → Tally
tally_of_how Hit = record no_tally { hits = 1 }
tally_of_how Loaded = record no_tally { misses = 1; loads = 1 }
tally_of_how Joined = record no_tally { misses = 1; joins = 1 }
tally_of_how Refreshed = record no_tally { hits = 1; refreshes = 1 }

-- what a fault adds
abbrev pub tally_of_fault : Fault → Tally
tally_of_fault NoMemory = record no_tally { no_memory = 1 }
tally_of_fault (TooHeavy weight bound) = record no_tally { too_heavy = 1 }
tally_of_fault (TooManyFlights limit) = record no_tally { too_many_flights = 1 }
tally_of_fault (LoadFailed code) = record no_tally { failed = 1 }
tally_of_fault Abandoned = record no_tally { failed = 1 }
tally_of_fault fault = record no_tally { other = 1 }

-- what a call that met something, or was refused, adds
abbrev pub tally_of_done : {T : Type 0} → (T → Tally) → Result T Fault → Tally
tally_of_done tally (Ok met) = tally met
tally_of_done tally (Err fault) = tally_of_fault fault

-- whether two causes are the same
abbrev pub is_same : Cause → Cause → Bool
is_same Explicit Explicit = true
is_same Replaced Replaced = true
is_same Expired Expired = true
is_same Size Size = true
is_same a b = false

-- how many entries left for this cause
abbrev pub left_as : {K V : Type 0} → Cause → List (Notice K V) → ℕ
left_as cause left = count_by (λ n. is_same cause n.cause) left

-- what the entries that left add, each by its cause
abbrev pub tally_of_left : {K V : Type 0} → List (Notice K V) → Tally
tally_of_left left = record no_tally {
  explicit = left_as Explicit left;
  replaced = left_as Replaced left;
  expired = left_as Expired left;
  size = left_as Size left;
}

-- a tally that also counts a call, by what it returned and the entries that left
abbrev pub tally_after : {T K V : Type 0} → (T → Tally) → Result T Fault → List (Notice K V) → Tally → Tally
tally_after tally done left old = tally_sum (tally_sum old (tally_of_done tally done)) (tally_of_left left)
