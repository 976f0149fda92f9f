-- What a peek promises, which is no step.
use Rattle.std.specs.Prelude.{◌≡◌, ℕ, ◌+◌, Bool, List, ◌∷◌, ◌++◌, length, Option, Some, None, Result, IfOk, IfErr, OnErr, IsTrue}
use Rattle.wt_keys.specs.declared.fault.Fault.{Fault}
use Rattle.wt_keys.specs.declared.fault.Fault.TheVariants.{NoMemory}
use mathlib.Core.List.{IsPrefix}
use Rattle.wt_regions.specs.declared.weighs.Measure.{Measure}
use Rattle.wt_regions.specs.Notices.{NoticeList}
use Rattle.wt_core.specs.declared.calls.Call.{Call}
use Rattle.wt_core.specs.declared.calls.Call.TheVariants.{Look, Put}
use Rattle.wt_core.specs.declared.calls.Reply.{Reply}
use Rattle.wt_core.specs.declared.config.Config.{Config}
use Rattle.wt_core.specs.Peeks.{look_reply}
use Rattle.wt_core.specs.Step.{step}
use Rattle.wt_shards.specs.Brought.{IsFresh}
use Rattle.wt_shards.specs.History.{IsMade, state_at}
use Rattle.wt_shards.specs.Members.{Members}
use Rattle.wt_shards.specs.Passes.{ShardPass, Seen, SeenAt, front_at}
use Rattle.wt_shards.specs.Place.{Place}
use Rattle.wt_shards.specs.Served.{IsBroughtYoung}
use Rattle.wt_shards.specs.StateAt.{IsStateAt}

-- a value that is found may stand for the key
abbrev pub FoundAnswers : {K V : Type 0} → (V → K → Bool) → K → Option V → Type 0
FoundAnswers answers k (Some v) = IsTrue (answers v k)
FoundAnswers answers k None = Unit {0}

-- of what was found this holds
abbrev pub FoundOnly : {V : Type 0} → (V → Type 0) → Option V → Type 0
FoundOnly P (Some v) = P v
FoundOnly P None = Unit {0}

module _ {K V : Type 0} (members : Members K V) (p : Place) where
  -- a look of the key right behind the history that the caller then has seen would be answered what was found. `old` and `new` are what
  -- the caller had seen before and after the peek
  pub record IsPeek (k : K) (now : ℕ) (old new : List (Call K V)) (found : Option V) : Type 0 where
    -- what others did since
    pub between : List (Call K V)
    pub seen : new ≡ old ++ between
    pub lawful : IsStateAt members p (state_at members p new)
    -- as many steps were made as calls stand there: none of them was refused
    pub all_made : (state_at members p new).step ≡ length new
    -- what a look there would be answered
    pub replied : look_reply found ≡ (step members.eq members.word members.measure (state_at members p new) (Look k now)).reply

  -- what a peek at a shard behind its lock promises
  pub record IsLockedPeek (k : K) (now : ℕ) (old new : ShardPass K V) (result : Result (Option V) Fault) : Type 0 where
    -- a look behind the history that the caller then has seen would be answered what is returned
    pub made : IfOk result (IsPeek k now old.front new.front)
    -- only memory is refused
    pub memory : IfErr result (λ f. f ≡ NoMemory)
    -- whatever is returned: no step is counted
    pub same : new.counts ≡ old.counts
    -- a fault moves nothing
    pub err : OnErr result (new ≡ old)

  -- what a peek promises that goes to one shard with a caller's pass
  pub record IsHomePeek (k : K) (now : ℕ) (old new : Seen K V) (result : Result (Option V) Fault) : Type 0 where
    -- a look behind the history that the pass then shows of that shard would be answered what is returned
    pub made : IfOk result (IsPeek k now (front_at p.index old) (front_at p.index new))
    -- only memory is refused
    pub memory : IfErr result (λ f. f ≡ NoMemory)
    -- whatever is returned: no step is counted
    pub same : new.counts ≡ old.counts
    -- whatever is returned: of the other shards nothing more was seen
    pub elsewhere : SeenAt p.index old new
    -- a fault moves nothing
    pub err : OnErr result (new ≡ old)

module _ {K V : Type 0} (eq : K → K → Bool) (word : K → ℕ) (measure : V → Measure) (config : Config) where
  -- a put stands in the history, and a peek behind it finds no value but that one, or one that calls behind the put brought for the
  -- key. `last` is what the caller of the peek has then seen, and `number` the put's
  pub record IsPeekBehindPut (k : K) (v : V) (now number : ℕ) (last : List (Call K V)) (found : Option V) : Type 0 where
    pub before : List (Call K V)
    pub between : List (Call K V)
    pub place : last ≡ before ++ Put k v now ∷ between
    pub numbered : number ≡ length before + 1
    pub reads : FoundOnly (IsFresh eq word measure config before (Put k v now) between k) found

module _ {K V : Type 0} (members : Members K V) (p : Place) where
  -- a peek whose caller has seen a put of its key finds no value but that one, or one that calls behind the put brought for the key
  abbrev pub FindsOwnPut : Type 0
  FindsOwnPut = (k : K) (v : V) (now later : ℕ) (me mine met last : List (Call K V)) (stored : Reply V) (number : ℕ)
      (before list : NoticeList K V) (found : Option V)
      → IsMade members p (Put k v now) stored number me mine before list → IsPrefix mine met → IsPeek members p k later met last found
      → IsPeekBehindPut members.eq members.word members.measure p.config k v now number last found

  -- a peek finds no value but one that the history which it shows brought for the key, not too long ago
  abbrev pub FindsYoung : Type 0
  FindsYoung = (k : K) (now : ℕ) (old new : List (Call K V)) (found : Option V) → IsPeek members p k now old new found
      → FoundOnly (IsBroughtYoung members.eq members.word members.measure p.config new k now) found
