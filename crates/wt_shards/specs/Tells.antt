-- What a read promises: it is a peek, and the policy hears of some of those that find a value.
use Rattle.std.specs.Prelude.{◌≡◌, ◌⊎◌, ℕ, Option, Some, None, Result, Ok, Err, IsSome}
use Rattle.wt_keys.specs.declared.fault.Fault.{Fault}
use Rattle.wt_regions.specs.Notices.{NoticeList}
use Rattle.wt_core.specs.declared.calls.Call.TheVariants.{Look}
use Rattle.wt_core.specs.declared.calls.Reply.{Reply}
use Rattle.wt_shards.specs.Contract.{IsHomeCall}
use Rattle.wt_shards.specs.Members.{Members}
use Rattle.wt_shards.specs.Passes.{Seen}
use Rattle.wt_shards.specs.Peeks.{IsHomePeek}
use Rattle.wt_shards.specs.Place.{Place}
use Rattle.wt_shards.specs.declared.done.Done.{Done}

module _ {K V : Type 0} (members : Members K V) (p : Place) (k : K) (now : ℕ) where
  -- what the peek left, and what is there at the end
  module _ (mid new : Seen K V) (before list : NoticeList K V) where
    -- the policy heard nothing: no step was made, and nothing more was seen
    abbrev pub IsUntold : Type 0
    IsUntold = (new ≡ mid) × (list ≡ before)

    -- the policy heard of the read by a look of its key, which may have been refused
    pub record IsTold : Type 0 where
      pub answer : Result (Done (Reply V)) Fault
      pub look : IsHomeCall members p (Look k now) (λ reply. reply) mid new before list answer

    -- a value that is found may be told, and is if its use renews it. Nothing else is told
    abbrev pub IsToldOf : Result (Option V) Fault → Type 0
    IsToldOf (Ok (Some v)) = IsTold ⊎ (IsUntold × (p.config.after_access ≡ None))
    IsToldOf (Ok None) = IsUntold
    IsToldOf (Err f) = IsUntold

  -- what a read promises that goes to one shard with a caller's pass
  pub record IsHomeRead (old new : Seen K V) (before list : NoticeList K V) (result : Result (Option V) Fault) : Type 0 where
    pub mid : Seen K V
    -- what is returned is what a peek returned
    pub peek : IsHomePeek members p k now old mid result
    -- and then some of the values that were found are told to the policy
    pub told : IsToldOf mid new before list result
