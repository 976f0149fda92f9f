-- A cache that several callers share: one history of calls, and what each call of it returns.
use Rattle.std.specs.Prelude.{◌≡◌, ◌≤◌, ℕ, ◌+◌, Bool, if◌then◌else◌, List, [], ◌∷◌, ◌++◌, length, Option, Some, None, is_some, IfSome, IsSome, Result, Ok, Err}
use mathlib.Core.List.{IsPrefix}
use Rattle.wt_regions.specs.declared.notices.Notice.{Notice}
use Rattle.wt_regions.specs.declared.weighs.Measure.{Measure}
use Rattle.wt_core.specs.declared.calls.Call.{Call}
use Rattle.wt_core.specs.declared.calls.Reply.{Reply}
use Rattle.wt_core.specs.declared.config.Config.{Config}
use Rattle.wt_core.specs.Landings.{TakesNone}
use Rattle.wt_core.specs.Lawful.{IsLawful}
use Rattle.wt_core.specs.Run.{run, taken}
use Rattle.wt_core.specs.State.{State, Made, opening}
use Rattle.wt_core.specs.Step.{refusal_of}
use Rattle.wt_shared.specs.declared.kept.Kept.{Kept}
use Rattle.wt_shared.specs.declared.known.Known.{Known}
use Rattle.wt_shared.specs.declared.unmade.Unmade.{Unmade}
use Rattle.wt_shared.specs.declared.unmade.Unmade.TheVariants.{Busy, NoMemory, Lost}

-- what is seen of a caller: the calls of the history that it has seen, the number of its latest call there, and what left in that call
pub record View (K V : Type 0) : Type 0 where
  pub known : Known K V
  pub number : ℕ
  pub left : List (Notice K V)

module _ {K V : Type 0} where
  -- the calls after one more, if it was made
  abbrev pub with_call : Bool → List (Call K V) → Call K V → List (Call K V)
  with_call made calls call = if made then calls ++ call ∷ [] else calls

  -- what left in a call, if it was made
  abbrev pub left_by : Bool → Made K V → List (Notice K V)
  left_by made m = if made then m.notices else []

  -- keys are compared by eq and counted by their words; a value has a weight
  module _ (eq : K → K → Bool) (word : K → ℕ) (measure : V → Measure) where
    -- the sequential cache after these calls
    abbrev pub state_after : Config → List (Call K V) → State K V
    state_after config calls = run eq word measure (opening config) calls

    -- what is shared is the outcome of its history
    pub record IsKept (known : Known K V) (kept : Kept K V) : Type 0 where
      pub book : kept.log.book ≡ known.seen.book
      pub count : kept.count ≡ length kept.log.entries
      pub state : kept.core ≡ state_after known.config kept.log.entries
      -- there is room for the notices of any call
      pub entries : kept.core.regions.caps.entries ≡ known.config.entries
      pub room : known.config.entries ≤ kept.notices.room + length kept.notices.list

    -- a share of a value is a copy, or may take memory
    module _ (copied : Bool) where
      -- a call at the end of the history, with its reply; or memory was refused
      pub record IsAdded (known : Known K V) (call : Call K V) (old new : Kept K V) (reply : Option (Reply V)) : Type 0 where
        pub kept : IsKept known new
        pub before : IsPrefix known.seen.entries old.log.entries
        pub calls : new.log.entries ≡ with_call (is_some reply) old.log.entries call
        pub answer : IfSome reply (λ r. r ≡ (taken eq word measure old.core call).reply)
        pub left : new.notices.list ≡ left_by (is_some reply) (taken eq word measure old.core call)
        pub refusal : IsSome (refusal_of eq word measure old.core call) → IsSome reply
        pub memory : TakesNone copied eq measure old.core call → IsSome reply
        pub lawful : IsLawful eq measure old.core

      -- what a step does, by what it returns
      abbrev pub Adds : Result (Reply V) Unmade → Known K V → Call K V → Kept K V → Kept K V → Type 0
      Adds (Ok reply) known call old new = IsAdded known call old new (Some reply)
      Adds (Err NoMemory) known call old new = IsAdded known call old new None
      Adds (Err Busy) known call old new = ⊥
      Adds (Err Lost) known call old new = Unit {0}

      -- a call stands in the one history of all callers, behind all that its caller had seen, and returns what the sequential cache
      -- returns there; or memory was refused
      pub record IsPlaced (call : Call K V) (old new : View K V) (reply : Option (Reply V)) : Type 0 where
        -- the calls of others since
        pub between : List (Call K V)
        pub calls : new.known.seen.entries ≡ with_call (is_some reply) (old.known.seen.entries ++ between) call
        -- its number is its place, from 1
        pub number : new.number ≡ length new.known.seen.entries
        pub answer : IfSome reply (λ r. r ≡ (taken eq word measure (state_after old.known.config (old.known.seen.entries ++ between)) call).reply)
        pub left : new.left ≡ left_by (is_some reply) (taken eq word measure (state_after old.known.config (old.known.seen.entries ++ between)) call)
        -- what the state refuses is refused whatever the memory does
        pub refusal : IsSome (refusal_of eq word measure (state_after old.known.config (old.known.seen.entries ++ between)) call) → IsSome reply
        -- a call that takes no memory isn't refused any
        pub memory : TakesNone copied eq measure (state_after old.known.config (old.known.seen.entries ++ between)) call → IsSome reply
        -- what holds of a cache at all times
        pub lawful : IsLawful eq measure (state_after old.known.config (old.known.seen.entries ++ between))
        -- it is the same cache
        pub config : new.known.config ≡ old.known.config
        pub book : new.known.seen.book ≡ old.known.seen.book

      -- what becomes of a call, by what it returns; of a cache that is lost nothing is said
      abbrev pub Becomes : Result (Reply V) Unmade → Call K V → View K V → View K V → Type 0
      Becomes (Ok reply) call old new = IsPlaced call old new (Some reply)
      Becomes (Err NoMemory) call old new = IsPlaced call old new None
      Becomes (Err Busy) call old new = new ≡ old
      Becomes (Err Lost) call old new = Unit {0}
