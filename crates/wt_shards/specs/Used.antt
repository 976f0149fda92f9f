-- When a value was used that a look, a seek or a peek hits.
use Rattle.std.specs.Prelude.{◌≡◌, ◌⊎◌, ℕ, Bool, false, max, List, [], ◌∷◌, ◌++◌, None, Option}
use Rattle.wt_regions.specs.declared.weighs.Measure.{Measure}
use Rattle.wt_regions.specs.Lists.{gone_by}
use Rattle.wt_regions.specs.Notices.{NoticeList}
use Rattle.wt_core.specs.declared.calls.Call.{Call}
use Rattle.wt_core.specs.declared.calls.Call.TheVariants.{Look, Seek}
use Rattle.wt_core.specs.declared.calls.Reply.{Reply}
use Rattle.wt_core.specs.declared.calls.Reply.TheVariants.{Hit, HitLead}
use Rattle.wt_core.specs.declared.config.Config.{Config}
use Rattle.wt_core.specs.Step.{refusal_of, step}
use Rattle.wt_shards.specs.Brought.{IsBroughtBy}
use Rattle.wt_shards.specs.History.{IsMade, state_after}
use Rattle.wt_shards.specs.Members.{Members}
use Rattle.wt_shards.specs.Peeks.{FoundOnly, IsPeek}
use Rattle.wt_shards.specs.Place.{Place}
use Rattle.wt_shards.specs.Served.{HitsOnly}
use Rattle.wt_shards.specs.Young.{IsReadAt}

-- a reply that hits this value
abbrev pub IsHitOf : {V : Type 0} → V → Reply V → Type 0
IsHitOf v (Hit w) = w ≡ v
IsHitOf v (HitLead w id) = w ≡ v
IsHitOf v r = ⊥

module _ {K V : Type 0} (eq : K → K → Bool) (word : K → ℕ) (measure : V → Measure) (config : Config) where
  -- behind these calls the call is a look or a seek of this key that hits this value
  abbrev pub IsHitBy : List (Call K V) → Call K V → K → V → Type 0
  IsHitBy before (Look j now) k v = (j ≡ k) × IsHitOf v (step eq word measure (state_after eq word measure config before) (Look j now)).reply
  IsHitBy before (Seek j now) k v = (j ≡ k) × IsHitOf v (step eq word measure (state_after eq word measure config before) (Seek j now)).reply
  IsHitBy before c k v = ⊥

  -- behind these calls the call stores this value under this key, or hits it
  abbrev pub IsUsedBy : List (Call K V) → Call K V → K → V → Type 0
  IsUsedBy before call k v = IsBroughtBy eq word measure config before call k v ⊎ IsHitBy before call k v

  -- a call of this history stored this value for this key or hit it, and at the moment it isn't too long since then
  pub record IsUsedLately (calls : List (Call K V)) (k : K) (now : ℕ) (v : V) : Type 0 where
    -- the calls before the one that used it
    pub before : List (Call K V)
    -- the call that used it
    pub call : Call K V
    -- the calls behind that one
    pub after : List (Call K V)
    pub place : calls ≡ before ++ call ∷ after
    -- it wasn't refused
    pub allowed : refusal_of eq word measure (state_after eq word measure config before) call ≡ None
    pub used : IsUsedBy before call k v
    -- from the latest moment right after that call to the latest one now, less than the duration `after_access` has gone by, if it is set
    pub lately : gone_by config.after_access (state_after eq word measure config (before ++ call ∷ [])).latest
        (max (state_after eq word measure config calls).latest now) ≡ false

  -- after any history a look and a seek of a key hit no value but one that the history used for that key, not too long ago
  abbrev pub ServesUsed : Type 0
  ServesUsed = (calls : List (Call K V)) (k : K) (now : ℕ)
      → HitsOnly (IsUsedLately calls k now) (step eq word measure (state_after eq word measure config calls) (Look k now)).reply
      × HitsOnly (IsUsedLately calls k now) (step eq word measure (state_after eq word measure config calls) (Seek k now)).reply

  -- a look or a seek of the key stands in a history, and hits no value but one that the calls before it used for the key, not too
  -- long ago. `last` is what its caller has then seen
  pub record IsReadUsed (k : K) (now : ℕ) (read : Call K V) (last : List (Call K V)) (found : Reply V) : Type 0 where
    -- the calls before it
    pub calls : List (Call K V)
    pub place : last ≡ calls ++ read ∷ []
    pub reads : HitsOnly (IsUsedLately calls k now) found

module _ {K V : Type 0} (members : Members K V) (p : Place) where
  -- a look or a seek that was made hits no value but one that the calls before it used for its key, not too long ago
  abbrev pub ReadsUsed : Type 0
  ReadsUsed = (k : K) (now : ℕ) (read : Call K V) (old new : List (Call K V)) (found : Reply V) (number : ℕ)
      (before list : NoticeList K V) → IsMade members p read found number old new before list → IsReadAt k now read
      → IsReadUsed members.eq members.word members.measure p.config k now read new found

  -- a peek finds no value but one that the history which it shows used for the key, not too long ago
  abbrev pub FindsUsed : Type 0
  FindsUsed = (k : K) (now : ℕ) (old new : List (Call K V)) (found : Option V) → IsPeek members p k now old new found
      → FoundOnly (IsUsedLately members.eq members.word members.measure p.config new k now) found
