-- What the run of a load promises, what becomes of a load that is left to the line, and what its caller is told.
use Rattle.std.specs.Prelude.{◌≡◌, ◌⊎◌, ℕ, Bool, true, false, List, [], ◌∷◌, Option, Some, None, Result, Ok, Err, IfOk, IfErr}
use Rattle.std.specs.Result.{is_err}
use Rattle.wt_keys.specs.declared.fault.Fault.{Fault}
use Rattle.wt_keys.specs.declared.fault.Fault.TheVariants.{NoMemory, LoadFailed, Abandoned, Mixed}
use Rattle.wt_flights.specs.Outcomes.{Leading, AnswersKey, is_error, refusal_of}
use Rattle.wt_flights.specs.Published.{Publishes}
use Rattle.wt_flights.specs.declared.outcome.Outcome.{Outcome}
use Rattle.wt_flights.specs.declared.outcome.Outcome.TheVariants as outcome
use Rattle.wt_regions.specs.Notices.{NoticeList}
use Rattle.wt_core.specs.declared.calls.Call.TheVariants.{Land}
use Rattle.wt_core.specs.declared.calls.Land.{Land as Landing}
use Rattle.wt_core.specs.declared.calls.Land.TheVariants as land
use Rattle.wt_core.specs.declared.calls.Reply.{Reply}
use Rattle.wt_shards.specs.Contract.{IsHomeCall}
use Rattle.wt_shards.specs.Counts.{is_hit}
use Rattle.wt_shards.specs.Members.{Members}
use Rattle.wt_shards.specs.Passes.{Seen, SeenMore}
use Rattle.wt_shards.specs.Place.{Layout, home_at}
use Rattle.wt_shards.specs.declared.done.Done.{Done}
use Rattle.wt_cache.specs.Cached.{Cached}
use Rattle.wt_cache.specs.declared.loads.Ran.{Ran}

module _ {V : Type 0} where
  -- the outcome of a load, by what its loader returned
  abbrev pub outcome_of : Result V ℕ → Outcome V
  outcome_of (Ok value) = outcome.Value value
  outcome_of (Err code) = outcome.Failed code

  -- how a load is landed, by what its loader returned: that value is kept, or loose; an error is a failure
  abbrev pub LandsAs : Result V ℕ → Landing V → Type 0
  LandsAs (Ok value) what = (what ≡ land.Keep value) ⊎ (what ≡ land.Loose)
  LandsAs (Err code) what = what ≡ land.Failed

  -- the value of an outcome, or the fault that tells it
  abbrev pub value_in : Outcome V → Result V Fault
  value_in (outcome.Value v) = Ok v
  value_in (outcome.Failed code) = Err (LoadFailed code)
  value_in outcome.Abandoned = Err Abandoned

  -- what a caller is told that ran its load: the fault of the landing, or else what the loader returned, unless its share is refused
  abbrev pub IsToldOf : {R : Type 0} → Result V ℕ → Result R Fault → Result V Fault → Type 0
  IsToldOf loaded (Err f) told = told ≡ Err f
  IsToldOf (Ok value) (Ok done) told = (told ≡ Ok value) ⊎ (told ≡ Err NoMemory)
  IsToldOf (Err code) (Ok done) told = told ≡ Err (LoadFailed code)

  -- what a ticket of the key tells that knows this outcome: that, or why its value isn't told
  abbrev pub IsTold : {K : Type 0} → (V → K → Bool) → K → Result V Fault → Outcome V → Type 0
  IsTold answers key told o = (told ≡ value_in o) ⊎ ((is_error o ≡ false) × (told ≡ Err (refusal_of answers key o)))

-- the faults that the outcome of a load brings: its own, or that its value is refused
abbrev pub is_outcome_fault : Fault → Bool
is_outcome_fault NoMemory = true
is_outcome_fault (LoadFailed code) = true
is_outcome_fault Abandoned = true
is_outcome_fault Mixed = true
is_outcome_fault fault = false

-- what a load may return for the key: what some loader of this type may return for it
abbrev pub MayReturn : {K V L : Type 0} → (L → K → Result V ℕ → Type 0) → K → Result V ℕ → Type 0
MayReturn may_return key loaded = (loader : _) × may_return loader key loaded

-- the result of a call without its reply and its number
abbrev pub bare : {R : Type 0} → Result (Done R) Fault → Result (Unit {0}) Fault
bare (Ok done) = Ok tt
bare (Err f) = Err f

module _ {K V : Type 0} (members : Members K V) (l : Layout) (lead : Leading K) where
  -- what a landing promises: the call at its key's shard and at the moment of its seek, and that it is no hit
  pub record IsLandCall (what : Landing V) (old new : Seen K V) (before list : NoticeList K V) (result : Result (Done (Reply V)) Fault) : Type 0
    where
      -- the call at the key's shard
      pub made : IsHomeCall members (home_at members.word lead.key l) (Land lead.id lead.key what lead.moment) (λ r. r) old new before list result
      -- the pass counts no hit
      pub miss : IfOk result (λ done. is_hit done.reply ≡ false)
      -- whatever is returned: the pass has seen at least what it had
      pub more : SeenMore old new

  -- what giving up a load promises: it lands as failed, and no other fault is returned than that of the landing
  pub record IsGivenUp (old new : Seen K V) (before list : NoticeList K V) (result : Result (Unit {0}) Fault) : Type 0 where
    pub landed : Result (Done (Reply V)) Fault
    pub made : IsLandCall land.Failed old new before list landed
    pub same : result ≡ bare landed

-- a load of a cache, whose loader may return this for a key
module _ {K V : Type 0} (members : Members K V) (returns : K → Result V ℕ → Type 0) (l : Layout) (lead : Leading K) where
  -- a load was run: its loader may return this, which may stand for the key, and was landed
  pub record IsLanded (loaded : Result V ℕ) (landed : Result (Done (Reply V)) Fault) (old new : Seen K V) (before list : NoticeList K V)
      : Type 0 where
    pub returned : returns lead.key loaded
    pub fits : AnswersKey members.answers lead.key (outcome_of loaded)
    pub what : Landing V
    pub lands : LandsAs loaded what
    pub made : IsLandCall members l lead what old new before list landed

  -- what the run of a load promises
  pub record IsRun (old new : Seen K V) (before list : NoticeList K V) (ran : Ran K V) : Type 0 where
    pub loaded : Result V ℕ
    -- what the loader returned is landed
    pub landed : IsLanded loaded ran.landed old new before list
    -- and published, to all tickets of the landing
    pub published : Publishes lead (outcome_of loaded) ran.published
    -- the load is counted as failed if the loader returned an error
    pub failed : ran.failed ≡ is_err loaded

  -- the load was run by this caller
  pub record IsRunHere (old new : Seen K V) (before list : NoticeList K V) : Type 0 where
    pub loaded : Result V ℕ
    pub landed : Result (Done (Reply V)) Fault
    pub run : IsLanded loaded landed old new before list

-- loads of a cache that one caller runs, each with a list of notices that is like this one before
module _ {K V : Type 0} (members : Members K V) (returns : K → Result V ℕ → Type 0) (l : Layout) (start : NoticeList K V) where
  -- a load was run, and what left by it was told in a list of its own
  abbrev pub IsRunAside : Leading K → Seen K V → Seen K V → Type 0
  IsRunAside lead old new = (list : NoticeList K V) × IsRunHere members returns l lead old new start list

  -- the loads of these leads were run, one after another, and nothing else was done with the pass
  abbrev pub AreRun : List (Leading K) → Seen K V → Seen K V → Type 0
  AreRun [] old new = new ≡ old
  AreRun (lead ∷ leads) old new = (mid : Seen K V) × IsRunAside lead old mid × AreRun leads mid new

-- a load of a cache, and a pass and notices before and after it
module _ {K V : Type 0} (members : Members K V) (returns : K → Result V ℕ → Type 0)
    (cache : Cached) (lead : Leading K) (old new : Seen K V) (before list : NoticeList K V) where
  -- the load was left to the line. If that was closed by then, this caller took loads off it and ran each, and dropped what left
  pub record IsLeft : Type 0 where
    pub lined : cache.lined ≡ true
    -- the leads that this caller took: none if the line was open
    pub leads : List (Leading K)
    pub aside : NoticeList K V
    pub ran : AreRun members returns cache.layout aside leads old new
    pub same : list ≡ before

  -- the load was handed on: it was run here, or left to the line
  abbrev pub IsHandedOn : Type 0
  IsHandedOn = IsRunHere members returns cache.layout lead old new before list ⊎ IsLeft

  -- the same, with what was run here
  abbrev pub IsHandedTo : Option (Ran K V) → Type 0
  IsHandedTo (Some ran) = IsRun members returns cache.layout lead old new before list ran
  IsHandedTo None = IsLeft

  -- this caller ran the load, and is told what its loader returned
  pub record IsLoadedHere (told : Result V Fault) : Type 0 where
    pub loaded : Result V ℕ
    pub landed : Result (Done (Reply V)) Fault
    pub run : IsLanded members returns cache.layout lead loaded landed old new before list
    pub tells : IsToldOf loaded landed told

  -- what the caller that opened a load is told: what its loader returned, if it ran here, or an outcome that came by the line
  abbrev pub IsLoaded : Result V Fault → Type 0
  IsLoaded told = IsLoadedHere told ⊎ (IsLeft × IfErr told (λ f. is_outcome_fault f ≡ true))
