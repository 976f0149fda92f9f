-- Which call of a history brought a value, and which one opened its load.
use Rattle.std.specs.Prelude.{◌≡◌, ◌⊎◌, ℕ, Bool, true, List, [], ◌∷◌, ◌++◌, None}
use Rattle.wt_regions.specs.declared.weighs.Measure.{Measure}
use Rattle.wt_core.specs.declared.calls.Call.{Call}
use Rattle.wt_core.specs.declared.calls.Call.TheVariants.{Forget, Land, Put, Seek}
use Rattle.wt_core.specs.declared.calls.Land.TheVariants as land
use Rattle.wt_core.specs.declared.calls.Reply.{Reply}
use Rattle.wt_core.specs.declared.calls.Reply.TheVariants.{Kept}
use Rattle.wt_core.specs.declared.config.Config.{Config}
use Rattle.wt_core.specs.Laws.{is_lead}
use Rattle.wt_core.specs.Step.{refusal_of, step}
use Rattle.wt_shards.specs.History.{state_after}

-- a reply that tells of a value that was stored
abbrev pub IsStoredReply : {V : Type 0} → Reply V → Type 0
IsStoredReply (Kept n) = Unit {0}
IsStoredReply r = ⊥

module _ {K V : Type 0} (eq : K → K → Bool) (word : K → ℕ) (measure : V → Measure) (config : Config) where
  -- behind these calls the call stores this value under this key: it puts it, or it lands it and the reply tells that it was stored
  abbrev pub IsBroughtBy : List (Call K V) → Call K V → K → V → Type 0
  IsBroughtBy before (Put j w now) k v = (j ≡ k) × (w ≡ v)
  IsBroughtBy before (Land id j (land.Keep w) now) k v = (j ≡ k) × (w ≡ v)
      × IsStoredReply (step eq word measure (state_after eq word measure config before) (Land id j (land.Keep w) now)).reply
  IsBroughtBy before c k v = ⊥

  -- behind `base` these calls stand, and one of them is a seek of the key that opened the load of this id
  pub record IsLedIn (base calls : List (Call K V)) (k : K) (id : ℕ) : Type 0 where
    -- the calls before the seek
    pub before : List (Call K V)
    pub moment : ℕ
    -- the calls behind it
    pub after : List (Call K V)
    pub place : calls ≡ before ++ Seek k moment ∷ after
    -- it wasn't refused
    pub allowed : refusal_of eq word measure (state_after eq word measure config (base ++ before)) (Seek k moment) ≡ None
    pub leads : is_lead id (step eq word measure (state_after eq word measure config (base ++ before)) (Seek k moment)).reply ≡ true

  -- if the call is a landing, then its load was opened among these calls behind `base`
  abbrev pub IsLoadedIn : List (Call K V) → List (Call K V) → Call K V → Type 0
  IsLoadedIn base calls (Land id k what now) = IsLedIn base calls k id
  IsLoadedIn base calls c = Unit {0}

  -- behind `base` these calls stand, and one of them stored this value under this key; if it landed it, then its load was opened
  -- among them too
  pub record IsBroughtIn (base calls : List (Call K V)) (k : K) (v : V) : Type 0 where
    -- the calls before the one that stored it
    pub before : List (Call K V)
    -- the call that stored it
    pub call : Call K V
    -- the calls behind that one
    pub after : List (Call K V)
    pub place : calls ≡ before ++ call ∷ after
    -- it wasn't refused
    pub allowed : refusal_of eq word measure (state_after eq word measure config (base ++ before)) call ≡ None
    pub brought : IsBroughtBy (base ++ before) call k v
    pub loaded : IsLoadedIn base before call

  -- what a write leaves under its key: a put its value, a forget what was stored before it; a removal and a clear leave nothing
  abbrev pub IsLeftBy : List (Call K V) → Call K V → K → V → Type 0
  IsLeftBy before (Put j w now) k v = v ≡ w
  IsLeftBy before (Forget j now) k v = IsBroughtIn [] before k v
  IsLeftBy before c k v = ⊥

  -- behind these calls a write of the key stands, and then the calls `between`: it left this value, or they brought it
  abbrev pub IsFresh : List (Call K V) → Call K V → List (Call K V) → K → V → Type 0
  IsFresh before write between k v = IsLeftBy before write k v ⊎ IsBroughtIn (before ++ write ∷ []) between k v
