-- What C's calls on a cache that threads share promise. `told` is what is told after a call and `before` what stood there, `old` and `new` are
-- the handle.
use Rattle.std.specs.Prelude.{◌≡◌, ◌<◌, ◌⊎◌, ℕ, nat_eq, Bool, true, List, [], length, Option, Some, None, IfSome, IsNone, IsSome, Result, Ok, Err, slice_get}
use Rattle.std.specs.Cmp.Lexicographic.{pointwise}
use Rattle.std.specs.Option.{option_map}
use mathlib.Core.List.{IsPrefix}
use Rattle.wt_keys.specs.Hash.{word_of_name}
use Rattle.wt_ffi.specs.Tokens.{timed_measure}
use Rattle.wt_core.specs.declared.calls.Call.{Call}
use Rattle.wt_core.specs.declared.calls.Reply.{Reply}
use Rattle.wt_core.specs.State.{config_fault}
use Rattle.wt_shared.specs.Shared.{View, Becomes}
use Rattle.wt_shared.specs.declared.unmade.Unmade.{Unmade}
use Rattle.wt_shared.specs.declared.unmade.Unmade.TheVariants.{Busy, NoMemory, Lost}
use Rattle.wt_ffi.specs.declared.answer.Answer.{Answer}
use Rattle.wt_ffi.specs.declared.keyless.Keyless.{Keyless}
use Rattle.wt_ffi.specs.declared.names.NameLeft.{NameLeft}
use Rattle.wt_ffi.specs.declared.setup.Setup.{Setup}
use Rattle.wt_ffi.specs.declared.shared.handle.SharedHandle.{SharedHandle}
use Rattle.wt_ffi.specs.declared.shared.sharing.Sharing.{Sharing}
use Rattle.wt_ffi.specs.declared.shared.sharing.Sharing.TheVariants.{Numbers, Names}
use Rattle.wt_ffi.specs.declared.shows.Left.{Left}
use Rattle.wt_ffi.specs.declared.text.Text.{Text}
use Rattle.wt_ffi.specs.declared.token.Timed.{Timed}
use Rattle.wt_ffi.specs.Calls.{answer_of, number_of, plain}
use Rattle.wt_ffi.specs.Keyless.{keyless_call}
use Rattle.wt_ffi.specs.Names.{name_of}
use Rattle.wt_ffi.specs.Setups.{Opens, config_of}
use Rattle.wt_ffi.specs.Shows.{Reads, left_at, name_left_at}

-- the caller behind a handle, if it is open
abbrev pub sharing_of : SharedHandle → Option Sharing
sharing_of h = h.pointer.sharing

-- the caller of a cache of numbers
abbrev pub by_number : Option Sharing → Option (View ℕ Timed)
by_number (Some (Numbers c)) = Some c
by_number (Some (Names c)) = None
by_number None = None

-- the caller of a cache of names
abbrev pub by_name : Option Sharing → Option (View (List ℕ) Timed)
by_name (Some (Names c)) = Some c
by_name (Some (Numbers c)) = None
by_name None = None

-- the caller behind a handle, if it is open and its keys are numbers
abbrev pub numbers_in : SharedHandle → Option (View ℕ Timed)
numbers_in h = by_number (sharing_of h)

-- the caller behind a handle, if it is open and its keys are names
abbrev pub names_in : SharedHandle → Option (View (List ℕ) Timed)
names_in h = by_name (sharing_of h)

-- the answer of a call, by what became of it, and how many notices it left; a call that wasn't made writes none
abbrev pub answer_told : Result (Reply Timed) Unmade → ℕ → Answer → Answer
answer_told (Ok reply) left before = answer_of reply left
answer_told (Err NoMemory) left before = plain 0 1 0
answer_told (Err Busy) left before = before
answer_told (Err Lost) left before = before

-- the number that a call returns, by what became of it: that of the reply's fault, or 0
abbrev pub number_told : Result (Reply Timed) Unmade → ℕ
number_told (Ok reply) = number_of reply
number_told (Err NoMemory) = 1
number_told (Err Busy) = 105
number_told (Err Lost) = 106

-- what became of a call, whose keys are compared by eq and counted by their words
pub record HasOutcome {K : Type 0} (eq : K → K → Bool) (word : K → ℕ) (call : Call K Timed) (old new : View K Timed) (before told : Answer) (result : ℕ) : Type 0 where
  -- the sequential cache's reply, or why the call wasn't made
  pub outcome : Result (Reply Timed) Unmade
  -- the call stands in the one history of all callers, behind all that this one had seen, and its reply and notices are those of the
  -- sequential cache there; a busy call changes nothing
  pub state : Becomes eq word timed_measure true outcome call old new
  pub answer : told ≡ answer_told outcome (length new.left) before
  pub number : result ≡ number_told outcome

-- a handle and what is told stay as they were
pub record IsIdle (old new : SharedHandle) (before told : Answer) : Type 0 where
  pub state : sharing_of new ≡ sharing_of old
  pub answer : told ≡ before

-- a call by number
pub record IsSharedCall (call : Call ℕ Timed) (old new : SharedHandle) (before told : Answer) (result : ℕ) : Type 0 where
  pub state : IfSome (numbers_in old) (λ m. IfSome (numbers_in new) (λ n. HasOutcome nat_eq (λ k. k) call m n before told result))
  -- an open handle stays open
  pub still : IsSome (numbers_in old) → IsSome (numbers_in new)
  -- nothing happens if the handle is closed
  pub closed : IsNone (sharing_of old) → (result ≡ 100) × IsIdle old new before told
  -- nor if its keys are names
  pub other : IsSome (names_in old) → (result ≡ 103) × IsIdle old new before told

-- a name and the caller that is asked for it
pub record SharedAsked : Type 0 where
  pub name : List ℕ
  pub caller : View (List ℕ) Timed

-- what a call by name goes to: there is such a name, and an open caller of a cache of names
abbrev pub shared_asked_for : Option (List ℕ) → Option Sharing → Option SharedAsked
shared_asked_for (Some name) (Some (Names c)) = Some (record { name = name; caller = c })
shared_asked_for (Some name) (Some (Numbers c)) = None
shared_asked_for (Some name) None = None
shared_asked_for None sharing = None

-- what a call with a text goes to
abbrev pub shared_asked : Text → SharedHandle → Option SharedAsked
shared_asked t h = shared_asked_for (name_of t) (sharing_of h)

-- the number that is returned if it goes to nothing: the name is too long, the handle closed, or its keys numbers
abbrev pub shared_number_for_none : Option (List ℕ) → Option Sharing → ℕ
shared_number_for_none None sharing = 104
shared_number_for_none (Some name) None = 100
shared_number_for_none (Some name) (Some sharing) = 103

-- a call by name
pub record IsSharedNameCall (call : List ℕ → Call (List ℕ) Timed) (key : Text) (old new : SharedHandle) (before told : Answer) (result : ℕ) : Type 0 where
  pub state : IfSome (shared_asked key old) (λ a. IfSome (names_in new) (λ n. HasOutcome (pointwise nat_eq) word_of_name (call a.name) a.caller n before told result))
  -- an open handle stays open
  pub still : IsSome (names_in old) → IsSome (names_in new)
  -- nothing happens if the name is too long, the handle closed or its keys numbers
  pub unasked : IsNone (shared_asked key old) → (result ≡ shared_number_for_none (name_of key) (sharing_of old)) × IsIdle old new before told

-- the first caller of an empty cache: it has seen no call
pub record IsFirst {K : Type 0} (setup : Setup) (c : View K Timed) : Type 0 where
  pub config : c.known.config ≡ config_of setup
  pub seen : c.known.seen.entries ≡ []
  pub number : c.number ≡ 0
  pub left : c.left ≡ []

-- an opening, on a closed handle alone: `found` reads the caller of a cache of its kind of keys
pub record IsSharedOpening {K : Type 0} (found : SharedHandle → Option (View K Timed)) (setup : Setup) (old new : SharedHandle) (result : ℕ) : Type 0 where
  -- if it succeeds the handle has the first caller of an empty cache
  pub state : result ≡ 0 → IfSome (found new) (λ c. IsFirst setup c)
  pub ok : result ≡ 0 → IsSome (found new)
  -- a closed handle is refused exactly a setting out of its range, or memory
  pub refusal : IsNone (sharing_of old) → Opens (config_fault (config_of setup)) result
  -- nothing is opened twice
  pub already : IsSome (sharing_of old) → result ≡ 101
  -- else the handle is as it was
  pub err : 0 < result → sharing_of new ≡ sharing_of old

-- another caller of the same cache, which has seen what this one has
abbrev pub another_of : Sharing → Sharing
another_of (Numbers c) = Numbers (record { known = c.known; number = 0; left = [] })
another_of (Names c) = Names (record { known = c.known; number = 0; left = [] })

-- `theirs` is opened as another caller of the cache of `mine`
pub record IsAnother (mine mine_after theirs theirs_after : SharedHandle) (result : ℕ) : Type 0 where
  -- if it succeeds the handle has that caller
  pub state : result ≡ 0 → sharing_of theirs_after ≡ option_map another_of (sharing_of mine)
  -- nothing is opened twice
  pub already : IsSome (sharing_of theirs) → result ≡ 101
  -- nothing happens if the first handle is closed
  pub closed : IsNone (sharing_of theirs) → IsNone (sharing_of mine) → result ≡ 100
  -- memory alone is refused otherwise
  pub memory : IsNone (sharing_of theirs) → IsSome (sharing_of mine) → (result ≡ 0) ⊎ (result ≡ 1)
  -- else the handle is as it was
  pub err : 0 < result → sharing_of theirs_after ≡ sharing_of theirs
  pub same : sharing_of mine_after ≡ sharing_of mine

-- both are callers of one cache, if they are open
abbrev pub AreOfOne : Option Sharing → Option Sharing → Type 0
AreOfOne (Some (Numbers c)) (Some (Numbers d)) = d.known.seen.book ≡ c.known.seen.book
AreOfOne (Some (Names c)) (Some (Names d)) = d.known.seen.book ≡ c.known.seen.book
AreOfOne (Some (Numbers c)) (Some (Names d)) = ⊥
AreOfOne (Some (Names c)) (Some (Numbers d)) = ⊥
AreOfOne (Some c) None = Unit {0}
AreOfOne None theirs = Unit {0}

-- what a caller has seen after it met another one begins with what both had seen
pub record HasMet {K : Type 0} (mine theirs after : View K Timed) : Type 0 where
  pub this : IsPrefix mine.known.seen.entries after.known.seen.entries
  pub that : IsPrefix theirs.known.seen.entries after.known.seen.entries
  pub config : after.known.config ≡ mine.known.config
  pub book : after.known.seen.book ≡ mine.known.seen.book
  pub number : after.number ≡ mine.number
  pub left : after.left ≡ mine.left

-- the same, by the kind of keys
abbrev pub HaveMet : Option Sharing → Option Sharing → Option Sharing → Type 0
HaveMet (Some (Numbers c)) (Some (Numbers d)) (Some (Numbers e)) = HasMet c d e
HaveMet (Some (Names c)) (Some (Names d)) (Some (Names e)) = HasMet c d e
HaveMet _ _ _ = ⊥

-- a meeting of two callers
pub record IsMeeting (mine mine_after theirs theirs_after : SharedHandle) (result : ℕ) : Type 0 where
  pub state : IsSome (sharing_of mine) → IsSome (sharing_of theirs) → (result ≡ 0) × HaveMet (sharing_of mine) (sharing_of theirs) (sharing_of mine_after)
  -- nothing happens if one of them is closed
  pub closed : IsNone (sharing_of mine) → (result ≡ 100) × (sharing_of mine_after ≡ sharing_of mine)
  pub theirs_closed : IsNone (sharing_of theirs) → (result ≡ 100) × (sharing_of mine_after ≡ sharing_of mine)
  pub same : sharing_of theirs_after ≡ sharing_of theirs

-- a call that names no key, whichever keys the cache has
pub record IsSharedKeylessCall (call : Keyless) (now : ℕ) (old new : SharedHandle) (before told : Answer) (result : ℕ) : Type 0 where
  pub numbers : IfSome (numbers_in old) (λ m. IfSome (numbers_in new) (λ n. HasOutcome nat_eq (λ k. k) (keyless_call call now) m n before told result))
  pub names : IfSome (names_in old) (λ m. IfSome (names_in new) (λ n. HasOutcome (pointwise nat_eq) word_of_name (keyless_call call now) m n before told result))
  -- an open handle stays open, with its kind of keys
  pub still : IsSome (numbers_in old) → IsSome (numbers_in new)
  pub still_names : IsSome (names_in old) → IsSome (names_in new)
  -- nothing happens if the handle is closed
  pub closed : IsNone (sharing_of old) → (result ≡ 100) × IsIdle old new before told

-- what a reading finds at a place of a caller of numbers, if the handle has one: a notice, or none
abbrev pub left_in : ℕ → SharedHandle → Option (Option Left)
left_in i h = option_map (λ c. left_at i c.left) (numbers_in h)

-- what a reading finds at a place of a caller of names, if the handle has one: a notice, or none
abbrev pub name_left_in : ℕ → SharedHandle → Option (Option NameLeft)
name_left_in i h = option_map (λ c. name_left_at i c.left) (names_in h)

-- the number of the latest call of a caller of either kind
abbrev pub place_of : Sharing → ℕ
place_of (Numbers c) = c.number
place_of (Names c) = c.number

-- a notice of the caller's latest call by its place: `found` reads it of a caller of its kind of keys
pub record IsSharedNoticeRead {L : Type 0} (found : SharedHandle → Option (Option L)) (old new : SharedHandle) (before told : L) (result : ℕ) : Type 0 where
  -- 0 and the notice, or 102 if there is none
  pub answer : IfSome (found old) (λ read. Reads read result before told)
  -- nothing happens if the handle is closed
  pub closed : IsNone (sharing_of old) → (result ≡ 100) × (told ≡ before)
  -- nor if its keys are of the other kind
  pub other : IsSome (sharing_of old) → IsNone (found old) → (result ≡ 103) × (told ≡ before)
  -- the caller stays as it is
  pub same : sharing_of new ≡ sharing_of old
