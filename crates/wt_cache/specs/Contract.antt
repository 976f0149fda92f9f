-- What a call promises that hands on what another one made, and what several functions promise alike.
use Rattle.std.specs.Prelude.{◌≡◌, ◌⊎◌, ◌<◌, ◌≤◌, ◌*◌, ℕ, true, List, Vec, vec_len, slice_index_or, Result, Err, IsTrue, IfOk, IfErr, IsErrAnd, IsOkUnless, MatchOption}
use Rattle.wt_keys.specs.declared.fault.Fault.{Fault}
use Rattle.wt_keys.specs.declared.fault.Fault.TheVariants.{NoMemory, BadConfig, TooHeavy, PassesSpent}
use Rattle.wt_regions.specs.Notices.{NoticeList, emptied}
use Rattle.wt_core.specs.Faults.{is_step_fault}
use Rattle.wt_core.specs.declared.calls.Call.{Call}
use Rattle.wt_core.specs.declared.calls.Call.TheVariants.{Put}
use Rattle.wt_core.specs.declared.calls.Reply.{Reply}
use Rattle.wt_core.specs.declared.calls.Reply.TheVariants.{Stored}
use Rattle.wt_core.specs.declared.config.Config.{Config}
use Rattle.wt_shards.specs.Contract.{IsHomeCall, IsSweepCall}
use Rattle.wt_shards.specs.Opening.{layout_fault}
use Rattle.wt_shards.specs.Members.{Members}
use Rattle.wt_shards.specs.Passes.{Seen}
use Rattle.wt_shards.specs.Place.{Layout, home_at}
use Rattle.wt_shards.specs.Told.{HasTold}
use Rattle.wt_shards.specs.declared.done.Done.{Done}
use Rattle.wt_cache.specs.Calling.{Calling}
use Rattle.wt_cache.specs.Gets.{IsSought, HasTriedIn, is_get_fault}
use Rattle.wt_cache.specs.Moves.{HasGotIn, IsLaterIn}
use Rattle.wt_cache.specs.declared.got.Got.{Got}

-- what the put of a value promises: the call at its key's shard, and when the value is too heavy
pub record IsPutCall {K V : Type 0} (members : Members K V) (l : Layout) (key : K) (value : V) (now : ℕ)
    (old new : Seen K V) (before list : NoticeList K V) (result : Result (Done (Unit {0})) Fault) : Type 0 where
  -- the call at the key's shard
  pub made : IsHomeCall members (home_at members.word key l) (Put key value now) (λ _. Stored) old new before list result
  -- a value above the bound is refused, with its weight and the bound
  pub heavy : l.config.bound < (members.measure value).weight → result ≡ Err (TooHeavy (members.measure value).weight l.config.bound)
  -- no other value is too heavy
  pub light : (members.measure value).weight ≤ l.config.bound → IfErr result (λ f. is_step_fault f ≡ true)

-- what a caller's call promises that goes to the shard of a key: that call, with its pass and with its list, which is emptied first
pub record IsLentCall {K V R : Type 0} (members : Members K V) (key : K) (c : Call K V)
    (to_reply : R → Reply V) (old new : Calling K V) (result : Result (Done R) Fault) : Type 0 where
  -- the call at the key's shard
  pub made : IsHomeCall members (home_at members.word key old.cache.layout) c to_reply old.pass new.pass (emptied old.left) new.left result
  -- the caller's cache is the same
  pub same : new.cache ≡ old.cache

-- what a caller's put promises: that of the cache, with its pass and with its list, which is emptied first
pub record IsLentPut {K V : Type 0} (members : Members K V) (key : K) (value : V) (now : ℕ)
    (old new : Calling K V) (result : Result (Done (Unit {0})) Fault) : Type 0 where
  -- the call at the key's shard, and when the value is too heavy
  pub made : IsPutCall members old.cache.layout key value now old.pass new.pass (emptied old.left) new.left result
  -- the caller's cache is the same
  pub same : new.cache ≡ old.cache

-- what a caller's sweep promises: the call at each shard in turn, with its pass and with the list that is lent for it
pub record IsLentSweep {K V : Type 0} (members : Members K V) (c : Call K V)
    (old new : Calling K V) (before list : NoticeList K V) (result : Result (Unit {0}) Fault) : Type 0 where
  -- the call at each shard in turn
  pub made : IsSweepCall members old.cache.layout c old.pass new.pass before list result
  -- the caller's cache and its own list are the same
  pub same : (new.cache ≡ old.cache) × (new.left ≡ old.left)

-- what a caller's get promises: the get of its cache, with its pass and with its list, which is emptied first
pub record IsLentGet {K V : Type 0} (members : Members K V) (returns : K → Result V ℕ → Type 0) (key : K) (now : ℕ)
    (old new : Calling K V) (result : Result (Got V) Fault) : Type 0 where
  -- the value may stand for the key
  pub answers : IfOk result (λ got. IsTrue (members.answers got.value key))
  -- the pass counts the seek, and the landings that this caller ran
  pub moved : IfOk result (HasGotIn members.word key old.cache old.pass.counts new.pass.counts)
  -- the number of the seek is above those of all steps that the pass had made there
  pub later : IfOk result (IsLaterIn members.word key old.cache old.pass.counts)
  -- the seek stands in that shard's history, and then what its answer asked for and nothing else, each with its notices
  pub sought : IfOk result (IsSought members returns key now old.cache old.pass new.pass (emptied old.left) new.left)
  -- whatever is returned: few notices, and no room lost
  pub told : HasTold (2 * old.cache.layout.config.entries) (emptied old.left) new.left
  -- no other fault comes than a get's
  pub faults : IfErr result (λ f. is_get_fault f ≡ true)
  -- either the seek was refused, for a cause of its own and with nothing done, or it stands, and this is why it brought nothing
  pub err : IfErr result (HasTriedIn members returns key now old.cache old.pass new.pass (emptied old.left) new.left)
  -- the caller's cache is the same
  pub same : new.cache ≡ old.cache

-- what a thread of a service brings: what its work may return, or the fault for which it got no caller
abbrev pub IsBrought : {A : Type 0} → (Result A Fault → Type 0) → Result A Fault → Type 0
IsBrought gives result = gives result ⊎ IsErrAnd result (λ f. (f ≡ NoMemory) ⊎ (f ≡ PassesSpent))

-- what `threads` threads bring, each of them by its number
abbrev pub AreBrought : {A : Type 0} → (ℕ → Result A Fault → Type 0) → ℕ → List (Result A Fault) → Type 0
AreBrought {A} gives threads answers = (t : ℕ) (d : Result A Fault) → t < threads → IsBrought (gives t) (slice_index_or answers t d)

-- what a service's run promises
pub record IsServed {A Z : Type 0} (gives : ℕ → Result A Fault → Type 0) (config : Config) (shards threads : ℕ)
    (result : Result (Vec (Result A Fault) Z) Fault) : Type 0 where
  -- there are as many answers as threads
  pub len : IfOk result (λ answers. vec_len answers ≡ threads)
  -- each is one that its thread's work may return, or the fault for which that thread got no caller
  pub each : IfOk result (λ answers. AreBrought gives threads answers.items)
  -- settings out of their range are refused by the first of them, and else nothing is refused but for memory
  pub refusal : MatchOption (layout_fault shards config) (IsOkUnless result NoMemory) (λ field. result ≡ Err (BadConfig field))
