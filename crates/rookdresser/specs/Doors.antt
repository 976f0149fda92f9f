-- What the calls of a thread's cache promise: they are composed of what the calls of a caller promise.
use Rattle.std.specs.Prelude.{◌≡◌, ◌⊎◌, ℕ, Option, Some, None, Result, Ok, Err, IsTrue, IfOk}
use Rattle.wt_keys.specs.declared.fault.Fault.{Fault}
use Rattle.wt_keys.specs.declared.fault.Fault.TheVariants.{NoMemory}
use Rattle.wt_regions.specs.Notices.{NoticeList, emptied, no_notices}
use Rattle.wt_core.specs.declared.calls.Call.{Call}
use Rattle.wt_core.specs.declared.calls.Reply.{Reply}
use Rattle.wt_shards.specs.Members.{Members}
use Rattle.wt_shards.specs.Passes.{SeenMore}
use Rattle.wt_shards.specs.Place.{home_at}
use Rattle.wt_shards.specs.declared.done.Done.{Done}
use Rattle.wt_cache.specs.Cached.{most_entries}
use Rattle.wt_cache.specs.Calling.{Calling}
use Rattle.wt_cache.specs.Contract.{IsLentCall, IsLentPut, IsLentSweep}
use Rattle.wt_cache.specs.Follows.{IsFollowed}

-- what a clock may show: what some clock of this type may show
abbrev pub MayShow : {T : Type 0} → (T → ℕ → Type 0) → ℕ → Type 0
MayShow shows now = (clock : _) × shows clock now

-- a call at a moment that the clock shows
pub record IsShown (shows : ℕ → Type 0) (IsMadeAt : ℕ → Type 0) : Type 0 where
  pub now : ℕ
  pub shown : shows now
  pub made : IsMadeAt now

-- the reply of a call
abbrev pub reply_of : {R : Type 0} → Result (Done R) Fault → Result R Fault
reply_of (Ok done) = Ok done.reply
reply_of (Err f) = Err f

module _ {K V : Type 0} (members : Members K V) (key : K) (now : ℕ) where
  -- the window of the key's shard followed: up to four slides there, and nothing else
  pub record HasSlid (old new : Calling K V) : Type 0 where
    pub slides : Result ℕ Fault
    pub made : IsFollowed members (home_at members.word key old.cache.layout) now old.pass new.pass (emptied old.left) new.left slides
    pub same : new.cache ≡ old.cache
    -- what was seen before is seen still
    pub more : SeenMore old.pass new.pass

  -- what comes before a look-up: the window follows, or nothing
  abbrev pub IsReady : Calling K V → Calling K V → Type 0
  IsReady old new = (new ≡ old) ⊎ HasSlid old new

  -- a put
  pub record IsPut (value : V) (old new : Calling K V) (result : Result (Unit {0}) Fault) : Type 0 where
    pub done : Result (Done (Unit {0})) Fault
    pub put : IsLentPut members key value now old new done
    pub brought : result ≡ reply_of done

-- another call of a key
pub record IsAsked {K V R : Type 0} (members : Members K V) (key : K) (c : Call K V) (to_reply : R → Reply V)
    (old new : Calling K V) (result : Result R Fault) : Type 0 where
  pub done : Result (Done R) Fault
  pub made : IsLentCall members key c to_reply old new done
  pub brought : result ≡ reply_of done

-- what a sweep of all shards returns: the list of what left, or the fault
abbrev pub swept_of : {K V : Type 0} → NoticeList K V → Result (Unit {0}) Fault → Result (NoticeList K V) Fault
swept_of list (Ok _) = Ok list
swept_of list (Err f) = Err f

-- a sweep of all shards
pub record HasSwept {K V : Type 0} (members : Members K V) (c : Call K V) (old new : Calling K V)
    (result : Result (NoticeList K V) Fault) : Type 0 where
  pub list : NoticeList K V
  pub done : Result (Unit {0}) Fault
  pub made : IsLentSweep members c old new (no_notices (most_entries old.cache)) list done
  pub brought : result ≡ swept_of list done

-- a sweep of all shards, or there was no memory for the list of what leaves
abbrev pub IsSwept : {K V : Type 0} → Members K V → Call K V → Calling K V → Calling K V → Result (NoticeList K V) Fault → Type 0
IsSwept members c old new result = ((new ≡ old) × (result ≡ Err NoMemory)) ⊎ HasSwept members c old new result
