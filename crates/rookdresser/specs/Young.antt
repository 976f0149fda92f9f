-- How old a value may be that a look-up of a thread's cache returns.
use Rattle.std.specs.Prelude.{◌≡◌, ◌⊎◌, ℕ, Bool, true, false, List, Some, Result, Ok}
use mathlib.Core.List.{IsPrefix}
use Rattle.wt_core.specs.declared.calls.Call.{Call}
use Rattle.wt_shards.specs.Members.{Members}
use Rattle.wt_shards.specs.Passes.{front_at}
use Rattle.wt_shards.specs.Place.{Layout, home_of}
use Rattle.wt_shards.specs.Served.{IsBroughtYoung}
use Rattle.wt_cache.specs.Calling.{Calling}
use Rattle.wt_cache.specs.Contract.{IsLentGet}
use Rattle.wt_cache.specs.declared.got.Got.{Got}
use Rattle.wt_cache.specs.declared.got.How.{How}
use Rattle.wt_cache.specs.declared.got.How.TheVariants.{Loaded, Joined}
use Rattle.rookdresser.specs.Gets.{IsGet, IsLook}

-- whether a get brought its value by a load, which its seek opened or joined
abbrev pub is_loaded : How → Bool
is_loaded Loaded = true
is_loaded Joined = true
is_loaded how = false

module _ {K V : Type 0} (members : Members K V) (key : K) (now : ℕ) where
  -- a call stored the value for the key, not too long ago, in a history of the key's shard that the caller then has seen
  pub record IsYoung (l : Layout) (new : Calling K V) (v : V) : Type 0 where
    pub calls : List (Call K V)
    pub seen : IsPrefix calls (front_at (home_of members.word key l) new.pass)
    pub brought : IsBroughtYoung members.eq members.word members.measure l.config calls key now v

  -- a load brought the value, which the get's seek opened or joined
  pub record IsOfLoad (returns : K → Result V ℕ → Type 0) (new : Calling K V) (v : V) : Type 0 where
    pub mid : Calling K V
    pub got : Got V
    pub get : IsLentGet members returns key now mid new (Ok got)
    pub value : v ≡ got.value
    pub loaded : is_loaded got.how ≡ true

module _ {K V : Type 0} (members : Members K V) where
  -- a get of a cache, whose loader may return this, returns a value that is young, or one of a load
  abbrev pub GetsYoung : (K → Result V ℕ → Type 0) → Type 0
  GetsYoung returns = (key : K) (now : ℕ) (old new : Calling K V) (v : V)
      → IsGet members key now returns old new (Ok v)
      → IsYoung members key now old.cache.layout new v ⊎ IsOfLoad members key now returns new v

  -- a look-up that loads nothing returns a value that is young
  abbrev pub LooksYoung : Type 0
  LooksYoung = (key : K) (now : ℕ) (old new : Calling K V) (v : V) → IsLook members key now old new (Ok (Some v))
      → IsYoung members key now old.cache.layout new v
