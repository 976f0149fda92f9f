-- What C's calls promise that come twice or more: one record for the steps of an open cache, one for steps by number, one for steps by
-- name, one for calls that name no key, one for openings, one for notices, one for several look-ups. `told` is what is told after the call and `before` what stood there, `old` and `new` are the handle.
use Rattle.std.specs.Prelude.{◌≡◌, ◌<◌, ℕ, Bool, List, Option, IfSome, IsNone, IsSome}
use Rattle.wt_core.specs.State.{config_fault}
use Rattle.wt_core.specs.declared.calls.Call.{Call}
use Rattle.wt_ffi.specs.declared.answer.Answer.{Answer}
use Rattle.wt_ffi.specs.declared.handle.Handle.{Handle}
use Rattle.wt_ffi.specs.declared.opened.Opened.{Opened}
use Rattle.wt_ffi.specs.declared.setup.Setup.{Setup}
use Rattle.wt_ffi.specs.declared.steps.look_many.Looked.{Looked}
use Rattle.wt_ffi.specs.declared.keyless.Keyless.{Keyless}
use Rattle.wt_ffi.specs.declared.text.Text.{Text}
use Rattle.wt_ffi.specs.declared.token.Timed.{Timed}
use Rattle.wt_ffi.specs.Calls as calls
use Rattle.wt_ffi.specs.Handle.{cache_of, Has, HasNumbers, HasNames, IfOpen, IfNumbers, IsIdleIfClosed, IsIdleIfNames}
use Rattle.wt_ffi.specs.Looks.{looked_through, AreAnswered}
use Rattle.wt_ffi.specs.Named as by_name
use Rattle.wt_ffi.specs.Names.{asked, IfAsked, number_unasked}
use Rattle.wt_ffi.specs.Numbered as by_number
use Rattle.wt_ffi.specs.Open.{Open}
use Rattle.wt_ffi.specs.Setups.{Opens, config_of}
use Rattle.wt_ffi.specs.Shows.{Reads}
use Rattle.wt_ffi.specs.Keyless as keyless

-- a step of an open cache, whose keys are compared by eq and counted by their words
pub record IsStepMade {K : Type 0} (eq : K → K → Bool) (word : K → ℕ) (call : Call K Timed) (old new : Open K) (told : Answer) (result : ℕ) : Type 0 where
  -- the cache after the step; kind 0 stands for a refusal of memory, which changes nothing but the notices
  pub state : new ≡ calls.after eq word told.kind call old
  -- the number that is returned: 0, or the fault's
  pub number : result ≡ calls.number_after eq word told.kind call old
  -- what is told of the step
  pub answer : told ≡ calls.answer_after eq word told.kind call old
  -- what the state refuses is refused whatever the memory does
  pub refusal : calls.IsRefused eq word call old → 0 < told.kind
  -- a call that takes no memory isn't refused any
  pub memory : calls.IsFree eq call old → 0 < told.kind

-- a call by number: on an open cache of numbers the definition's step, and else nothing, which the number returned tells
pub record IsCall (call : ℕ → ℕ → Call ℕ Timed) (key now : ℕ) (old new : Handle) (before told : Answer) (result : ℕ) : Type 0 where
  -- the cache after the step; kind 0 stands for a refusal of memory, which changes nothing but the notices
  pub state : IfNumbers old (λ c. HasNumbers new (by_number.after told (call key now) c))
  -- the number that is returned: 0, or the fault's
  pub number : IfNumbers old (λ c. result ≡ by_number.number_after told (call key now) c)
  -- what is told of the step
  pub answer : IfNumbers old (λ c. told ≡ by_number.answer_after told (call key now) c)
  -- what the state refuses is refused whatever the memory does
  pub refusal : IfNumbers old (λ c. by_number.IsRefused (call key now) c → 0 < told.kind)
  -- a call that takes no memory isn't refused any
  pub memory : IfNumbers old (λ c. by_number.IsFree (call key now) c → 0 < told.kind)
  -- nothing happens if the cache is closed
  pub closed : IsIdleIfClosed old new before told result
  -- nor if its keys are names
  pub other : IsIdleIfNames old new before told result

-- a call by name: on an open cache of names the definition's step, and else nothing, which the number returned tells
pub record IsNameCall (call : List ℕ → ℕ → Call (List ℕ) Timed) (key : Text) (now : ℕ) (old new : Handle) (before told : Answer) (result : ℕ) : Type 0 where
  -- the cache after the step; kind 0 stands for a refusal of memory, which changes nothing but the notices
  pub state : IfAsked key old (λ a. HasNames new (by_name.after told (call a.name now) a.cache))
  -- the number that is returned: 0, or the fault's
  pub number : IfAsked key old (λ a. result ≡ by_name.number_after told (call a.name now) a.cache)
  -- what is told of the step
  pub answer : IfAsked key old (λ a. told ≡ by_name.answer_after told (call a.name now) a.cache)
  -- what the state refuses is refused whatever the memory does
  pub refusal : IfAsked key old (λ a. by_name.IsRefused (call a.name now) a.cache → 0 < told.kind)
  -- a call that takes no memory isn't refused any
  pub memory : IfAsked key old (λ a. by_name.IsFree (call a.name now) a.cache → 0 < told.kind)
  -- nothing happens if the name is too long, the cache closed or its keys numbers
  pub unasked : IsNone (asked key old) → (result ≡ number_unasked key old) × (cache_of new ≡ cache_of old) × (told ≡ before)

-- a call that names no key: on an open cache the definition's step, and else nothing, which the number returned tells
pub record IsKeylessCall (call : Keyless) (now : ℕ) (old new : Handle) (before told : Answer) (result : ℕ) : Type 0 where
  -- the cache after the step; kind 0 stands for a refusal of memory, which changes nothing but the notices
  pub state : IfOpen old (λ c. Has new (keyless.after told call now c))
  -- the number that is returned: 0, or the fault's
  pub number : IfOpen old (λ c. result ≡ keyless.number_after told call now c)
  -- what is told of the step
  pub answer : IfOpen old (λ c. told ≡ keyless.answer_after told call now c)
  -- what the state refuses is refused whatever the memory does
  pub refusal : IfOpen old (λ c. keyless.IsRefused call now c → 0 < told.kind)
  -- a call that takes no memory isn't refused any
  pub memory : IfOpen old (λ c. keyless.IsFree call now c → 0 < told.kind)
  -- nothing happens if the cache is closed
  pub closed : IsIdleIfClosed old new before told result

-- an opening, of numbers or of names: the cache that is meant, on a closed handle alone
pub record IsOpening (meant : Setup → Opened) (setup : Setup) (old new : Handle) (result : ℕ) : Type 0 where
  -- if it succeeds the cache is open
  pub state : result ≡ 0 → Has new (meant setup)
  -- a closed handle is refused exactly a setting out of its range, or memory
  pub refusal : IsNone (cache_of old) → Opens (config_fault (config_of setup)) result
  -- nothing is opened twice
  pub already : IsSome (cache_of old) → result ≡ 101
  -- else the handle is as it was
  pub err : 0 < result → cache_of new ≡ cache_of old

-- a notice of the latest call by its place: `found` reads it of an open cache of its kind of keys
pub record IsNoticeRead {L : Type 0} (found : Handle → Option (Option L)) (old new : Handle) (before told : L) (result : ℕ) : Type 0 where
  -- 0 and the notice, or 102 if there is none
  pub answer : IfSome (found old) (λ read. Reads read result before told)
  -- nothing happens if the cache is closed
  pub closed : IsNone (cache_of old) → (result ≡ 100) × (told ≡ before)
  -- nor if its keys are of the other kind
  pub other : IsSome (cache_of old) → IsNone (found old) → (result ≡ 103) × (told ≡ before)
  -- the cache stays as it is
  pub same : cache_of new ≡ cache_of old

-- several look-ups by number: on an open cache of numbers they are made up to the first that is refused or tells a notice, and else
-- nothing happens, which the number returned tells. `asked` are they before the call and `told` after it
pub record IsLookedThrough (asked told : List Looked) (old new : Handle) (was count result : ℕ) : Type 0 where
  -- the cache after them
  pub state : IfNumbers old (λ c. HasNumbers new (looked_through told c).cache)
  -- how many were made
  pub made : IfNumbers old (λ c. count ≡ (looked_through told c).made)
  -- the number that is returned: that of the last one's fault, or 0
  pub number : IfNumbers old (λ c. result ≡ (looked_through told c).number)
  -- the answer of each
  pub answers : IfNumbers old (λ c. AreAnswered asked told c)
  -- nothing happens if the cache is closed
  pub closed : IsIdleIfClosed {T = List Looked × ℕ} old new (asked, was) (told, count) result
  -- nor if its keys are names
  pub other : IsIdleIfNames {T = List Looked × ℕ} old new (asked, was) (told, count) result
