-- What the look-ups of a thread's cache promise.
use Rattle.std.specs.Prelude.{◌≡◌, ◌⊎◌, ℕ, Option, Some, None, Result, Ok, Err}
use Rattle.wt_keys.specs.declared.fault.Fault.{Fault}
use Rattle.wt_core.specs.declared.calls.Call.TheVariants.{Look}
use Rattle.wt_core.specs.declared.calls.Reply.{Reply}
use Rattle.wt_core.specs.declared.calls.Reply.TheVariants.{Hit}
use Rattle.wt_shards.specs.Members.{Members}
use Rattle.wt_shards.specs.declared.done.Done.{Done}
use Rattle.wt_cache.specs.Calling.{Calling}
use Rattle.wt_cache.specs.Contract.{IsLentCall, IsLentGet}
use Rattle.wt_cache.specs.Peeks.{IsLentRead}
use Rattle.wt_cache.specs.declared.got.Got.{Got}
use Rattle.rookdresser.specs.Doors.{IsReady}

-- the value of a get
abbrev pub value_of : {V : Type 0} → Result (Got V) Fault → Result V Fault
value_of (Ok got) = Ok got.value
value_of (Err f) = Err f

-- the value that a look hit
abbrev pub hit_of : {V : Type 0} → Reply V → Option V
hit_of (Hit v) = Some v
hit_of reply = None

-- what a look returns by its reply
abbrev pub seen_of : {V : Type 0} → Result (Done (Reply V)) Fault → Result (Option V) Fault
seen_of (Ok done) = Ok (hit_of done.reply)
seen_of (Err f) = Err f

-- what a get returns by what its read returned: the value that was found, or the fault
abbrev pub IsFound : {V : Type 0} → Result (Option V) Fault → Result V Fault → Type 0
IsFound (Ok (Some v)) result = result ≡ Ok v
IsFound (Ok None) result = ⊥
IsFound (Err f) result = result ≡ Err f

-- a read found a value, or was refused
abbrev pub HasFound : {V : Type 0} → Result (Option V) Fault → Type 0
HasFound (Ok None) = ⊥
HasFound found = Unit {0}

module _ {K V : Type 0} (members : Members K V) (key : K) (now : ℕ) where
  -- a read found nothing
  abbrev pub HasMissed : Calling K V → Calling K V → Type 0
  HasMissed old new = IsLentRead members key now old new (Ok None)

  module _ (returns : K → Result V ℕ → Type 0) where
    module _ (old new : Calling K V) (result : Result V Fault) where
      -- a read found the value, or was refused
      pub record IsRead : Type 0 where
        pub found : Result (Option V) Fault
        pub read : IsLentRead members key now old new found
        pub brought : IsFound found result

      -- a get brought the value or the fault, behind a read that found nothing, or behind nothing
      pub record IsGotten : Type 0 where
        pub mid : Calling K V
        pub missed : (mid ≡ old) ⊎ HasMissed old mid
        pub got : Result (Got V) Fault
        pub get : IsLentGet members returns key now mid new got
        pub brought : result ≡ value_of got

      -- how a value or a fault was brought
      abbrev pub IsBrought : Type 0
      IsBrought = IsRead ⊎ IsGotten

    -- a get: the window follows, and then a read finds the value, or a get brings it
    pub record IsGet (old new : Calling K V) (result : Result V Fault) : Type 0 where
      pub mid : Calling K V
      pub ready : IsReady members key now old mid
      pub brought : IsBrought mid new result

  module _ (old new : Calling K V) (result : Result (Option V) Fault) where
    -- a read found the value, or was refused
    pub record IsLookRead : Type 0 where
      pub read : IsLentRead members key now old new result
      pub found : HasFound result

    -- behind a read that found nothing, a look returned what it hit, or nothing, or was refused
    pub record IsLooked : Type 0 where
      pub mid : Calling K V
      pub missed : HasMissed old mid
      pub done : Result (Done (Reply V)) Fault
      pub look : IsLentCall members key (Look key now) (λ reply. reply) mid new done
      pub brought : result ≡ seen_of done

    -- how a look-up that loads nothing found what it returned
    abbrev pub IsSeen : Type 0
    IsSeen = IsLookRead ⊎ IsLooked

  -- a look-up that loads nothing: the window follows, then a read finds the value, or a look does
  pub record IsLook (old new : Calling K V) (result : Result (Option V) Fault) : Type 0 where
    pub mid : Calling K V
    pub ready : IsReady members key now old mid
    pub seen : IsSeen mid new result
