-- What a caller reads and joins behind a write of its key.
use Rattle.std.specs.Prelude.{◌≡◌, ℕ, ◌+◌, Bool, true, List, [], ◌∷◌, ◌++◌, length, None}
use mathlib.Core.List.{IsPrefix}
use Rattle.wt_regions.specs.declared.weighs.Measure.{Measure}
use Rattle.wt_regions.specs.Notices.{NoticeList}
use Rattle.wt_core.specs.declared.calls.Call.{Call}
use Rattle.wt_core.specs.declared.calls.Call.TheVariants.{Clear, DropKey, Look, Seek}
use Rattle.wt_core.specs.declared.calls.Reply.{Reply}
use Rattle.wt_core.specs.declared.calls.Reply.TheVariants.{Join}
use Rattle.wt_core.specs.declared.config.Config.{Config}
use Rattle.wt_core.specs.Lawful.{IsLawful}
use Rattle.wt_core.specs.Stale.{makes_stale}
use Rattle.wt_core.specs.Step.{refusal_of, step}
use Rattle.wt_shards.specs.Brought.{IsBroughtIn, IsFresh, IsLedIn}
use Rattle.wt_shards.specs.History.{IsMade, state_after}
use Rattle.wt_shards.specs.Members.{Members}
use Rattle.wt_shards.specs.Place.{Place}
use Rattle.wt_shards.specs.Served.{HitsOnly}

-- a reply joins no load but one of whose id this holds
abbrev pub JoinsOnly : {V : Type 0} → (ℕ → Type 0) → Reply V → Type 0
JoinsOnly P (Join id) = P id
JoinsOnly P r = Unit {0}

-- a removal of the key, or a clear
abbrev pub IsRemoval : {K V : Type 0} → K → Call K V → Type 0
IsRemoval k (DropKey j now) = j ≡ k
IsRemoval k (Clear now) = Unit {0}
IsRemoval k c = ⊥

module _ {K V : Type 0} (eq : K → K → Bool) (word : K → ℕ) (measure : V → Measure) (config : Config) where
  -- a look and a seek behind a removal of their key, or a clear, hit no value but one that calls between brought for the key
  abbrev pub ReadsOwnRemoval : Type 0
  ReadsOwnRemoval = (before between : List (Call K V)) (k : K) (write : Call K V) (later : ℕ)
      → IsLawful eq measure (state_after eq word measure config before)
      → IsRemoval k write → refusal_of eq word measure (state_after eq word measure config before) write ≡ None
      → HitsOnly (IsBroughtIn eq word measure config (before ++ write ∷ []) between k)
      (step eq word measure (state_after eq word measure config (before ++ write ∷ between)) (Look k later)).reply
      × HitsOnly (IsBroughtIn eq word measure config (before ++ write ∷ []) between k)
      (step eq word measure (state_after eq word measure config (before ++ write ∷ between)) (Seek k later)).reply

  -- a seek behind a put, a removal or a forget of its key, or a clear, joins no load but one that a seek between opened
  abbrev pub JoinsFresh : Type 0
  JoinsFresh = (before between : List (Call K V)) (k : K) (write : Call K V) (later : ℕ)
      → makes_stale eq k write ≡ true → refusal_of eq word measure (state_after eq word measure config before) write ≡ None
      → JoinsOnly (IsLedIn eq word measure config (before ++ write ∷ []) between k)
      (step eq word measure (state_after eq word measure config (before ++ write ∷ between)) (Seek k later)).reply

  -- a write of the key and a look or a seek of it stand in one history, the look or seek behind the write. It hits only what the write
  -- left or calls between the two brought, and it joins only a load that a seek between opened. `last` is what the caller of the look
  -- or seek has then seen, and `number` the write's
  pub record IsReadFresh (k : K) (write read : Call K V) (number : ℕ) (last : List (Call K V)) (found : Reply V) : Type 0 where
    pub before : List (Call K V)
    pub between : List (Call K V)
    pub place : last ≡ (before ++ write ∷ between) ++ read ∷ []
    pub numbered : number ≡ length before + 1
    pub hits : HitsOnly (IsFresh eq word measure config before write between k) found
    pub joins : JoinsOnly (IsLedIn eq word measure config (before ++ write ∷ []) between k) found

-- a look or a seek of the key
abbrev pub IsReadOf : {K V : Type 0} → K → Call K V → Type 0
IsReadOf k (Look j now) = j ≡ k
IsReadOf k (Seek j now) = j ≡ k
IsReadOf k c = ⊥

-- a look or a seek of a key, whose caller has seen a put, a removal or a forget of the key, or a clear, reads nothing of a load that was
-- opened before that write
abbrev pub ReadsFresh : {K V : Type 0} → Members K V → Place → Type 0
ReadsFresh {K = K} {V = V} members p = (k : K) (write read : Call K V) (me mine met last : List (Call K V)) (written found : Reply V)
    (number step : ℕ) (b1 l1 b2 l2 : NoticeList K V)
    → IsMade members p write written number me mine b1 l1 → IsPrefix mine met → IsMade members p read found step met last b2 l2
    → makes_stale members.eq k write ≡ true → IsReadOf k read
    → IsReadFresh members.eq members.word members.measure p.config k write read number last found
