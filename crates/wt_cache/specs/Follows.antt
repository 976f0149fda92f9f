-- What the slides behind a look-up of a cache promise.
use Rattle.std.specs.Prelude.{◌≡◌, ◌⊎◌, ◌≤◌, ℕ, zero, suc, Bool, true, Result, Ok, Err, IfOk, IfErr}
use Rattle.wt_keys.specs.declared.fault.Fault.{Fault}
use Rattle.wt_keys.specs.declared.fault.Fault.TheVariants.{NoMemory}
use Rattle.wt_regions.specs.Notices.{NoticeList}
use Rattle.wt_core.specs.declared.calls.Call.TheVariants.{Slide}
use Rattle.wt_core.specs.declared.calls.Reply.TheVariants.{Slid}
use Rattle.wt_core.specs.Faults.{is_step_fault}
use Rattle.wt_shards.specs.Contract.{IsHomeCall}
use Rattle.wt_shards.specs.Members.{Members}
use Rattle.wt_shards.specs.Passes.{Seen}
use Rattle.wt_shards.specs.Place.{Place}
use Rattle.wt_shards.specs.declared.done.Done.{Done}

module _ {K V : Type 0} (members : Members K V) (p : Place) (now : ℕ) (list : NoticeList K V) where
  -- one slide at the shard, either way, which leaves the list of notices
  pub record IsSlide (old new : Seen K V) : Type 0 where
    pub wider : Bool
    pub done : Done Bool
    pub made : IsHomeCall members p (Slide wider now) Slid old new list list (Ok done)

  -- so many slides there, one behind the other
  abbrev pub AreSlides : ℕ → Seen K V → Seen K V → Type 0
  AreSlides zero old new = new ≡ old
  AreSlides (suc n) old new = (mid : Seen K V) × AreSlides n old mid × IsSlide mid new

  -- the fault by which no further slide came: of memory, with nothing further done, or of a slide that was refused
  abbrev pub HasStopped : Seen K V → Seen K V → Fault → Type 0
  HasStopped old new f = ((new ≡ old) × (f ≡ NoMemory)) ⊎ ((wider : Bool) × IsHomeCall members p (Slide wider now) Slid old new list list (Err f))

-- what a window that follows a look-up does: up to four slides at the key's shard, and nothing else
pub record IsFollowed {K V : Type 0} (members : Members K V) (p : Place) (now : ℕ)
    (old new : Seen K V) (before list : NoticeList K V) (result : Result ℕ Fault) : Type 0 where
  -- no entry leaves
  pub none : list ≡ before
  -- so many slides were made
  pub made : IfOk result (λ slides. (slides ≤ 4) × AreSlides members p now before slides old new)
  -- no other fault comes than a step's
  pub faults : IfErr result (λ f. is_step_fault f ≡ true)
  -- what was made before a fault, and the fault's cause
  pub err : IfErr result (λ f. (slides : ℕ) × (mid : Seen K V) × (slides ≤ 4) × AreSlides members p now before slides old mid × HasStopped members p now before mid new f)
