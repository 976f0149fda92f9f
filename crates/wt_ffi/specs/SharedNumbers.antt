-- What C's reading of the numbers of a cache that threads share promises, which is no step.
use Rattle.std.specs.Prelude.{◌≡◌, ℕ, nat_eq, Bool, IfSome, IsNone, IsSome, Result, Ok, Err}
use Rattle.std.specs.Cmp.Lexicographic.{pointwise}
use Rattle.wt_keys.specs.Hash.{word_of_name}
use Rattle.wt_ffi.specs.Tokens.{timed_measure}
use Rattle.wt_shared.specs.Numbers.{Shows}
use Rattle.wt_shared.specs.Shared.{View}
use Rattle.wt_shared.specs.declared.numbers.Numbers.{Numbers as Shown}
use Rattle.wt_shared.specs.declared.unmade.Unmade.{Unmade}
use Rattle.wt_shared.specs.declared.unmade.Unmade.TheVariants.{Busy, NoMemory, Lost}
use Rattle.wt_ffi.specs.declared.shared.handle.SharedHandle.{SharedHandle}
use Rattle.wt_ffi.specs.declared.shows.Numbers.{Numbers}
use Rattle.wt_ffi.specs.declared.token.Timed.{Timed}
use Rattle.wt_ffi.specs.Sharing.{names_in, numbers_in, sharing_of}

-- the numbers, as they are told
abbrev pub as_told : Shown → Numbers
as_told n = record {
  lookups = n.stats.lookups;
  hits = n.stats.hits;
  misses = n.stats.misses;
  loads = n.stats.loads;
  failed = n.stats.failed;
  evicted = n.stats.evicted;
  entries = n.stats.entries;
  weight = n.stats.weight;
  step = n.step;
  latest = n.latest;
  flights = n.flights;
}

-- what is told, by what was read; if nothing was read, nothing is written
abbrev pub numbers_told : Result Shown Unmade → Numbers → Numbers
numbers_told (Ok n) before = as_told n
numbers_told (Err why) before = before

-- the number that is returned, by what was read
abbrev pub fault_told : Result Shown Unmade → ℕ
fault_told (Ok n) = 0
fault_told (Err NoMemory) = 1
fault_told (Err Busy) = 105
fault_told (Err Lost) = 106

-- what was read of a cache, whose keys are compared by eq and counted by their words
pub record AreTold {K : Type 0} (eq : K → K → Bool) (word : K → ℕ) (old new : View K Timed) (before told : Numbers) (result : ℕ) : Type 0 where
  -- the numbers, or why there are none
  pub outcome : Result Shown Unmade
  -- they are those of the sequential cache right behind all calls that the caller has then seen; a busy reading changes nothing
  pub state : Shows eq word timed_measure outcome old new
  pub answer : told ≡ numbers_told outcome before
  pub number : result ≡ fault_told outcome

-- a reading of the numbers, whichever keys the cache has
pub record IsSharedReading (old new : SharedHandle) (before told : Numbers) (result : ℕ) : Type 0 where
  pub numbers : IfSome (numbers_in old) (λ m. IfSome (numbers_in new) (λ n. AreTold nat_eq (λ k. k) m n before told result))
  pub names : IfSome (names_in old) (λ m. IfSome (names_in new) (λ n. AreTold (pointwise nat_eq) word_of_name m n before told result))
  -- an open handle stays open, with its kind of keys
  pub still : IsSome (numbers_in old) → IsSome (numbers_in new)
  pub still_names : IsSome (names_in old) → IsSome (names_in new)
  -- nothing happens if the handle is closed
  pub closed : IsNone (sharing_of old) → (result ≡ 100) × (told ≡ before) × (sharing_of new ≡ sharing_of old)
