-- What is seen of a handle, and what a call does that finds no cache of its kind.
use Rattle.std.specs.Prelude.{◌≡◌, ℕ, List, Option, Some, None, IfSome, IsNone, IsSome}
use Rattle.wt_ffi.specs.declared.handle.Handle.{Handle}
use Rattle.wt_ffi.specs.declared.opened.Opened.{Opened}
use Rattle.wt_ffi.specs.declared.opened.Opened.TheVariants.{Numbers, Names}
use Rattle.wt_ffi.specs.Kinds.{numbered, named}
use Rattle.wt_ffi.specs.Open.{Open}

-- the cache behind a handle, if it is open
abbrev pub cache_of : Handle → Option Opened
cache_of h = h.pointer.cache

-- the handle holds this cache
abbrev pub Has : Handle → Opened → Type 0
Has h c = cache_of h ≡ Some c

-- the handle holds this cache of numbers
abbrev pub HasNumbers : Handle → Open ℕ → Type 0
HasNumbers h c = Has h (Numbers c)

-- the handle holds this cache of names
abbrev pub HasNames : Handle → Open (List ℕ) → Type 0
HasNames h c = Has h (Names c)

-- this holds of the handle's cache, if that is open
abbrev pub IfOpen : Handle → (Opened → Type 0) → Type 0
IfOpen h P = IfSome (cache_of h) P

-- this holds of the handle's cache, if that is open and its keys are numbers
abbrev pub IfNumbers : Handle → (Open ℕ → Type 0) → Type 0
IfNumbers h P = IfSome (numbered (cache_of h)) P

-- this holds of the handle's cache, if that is open and its keys are names
abbrev pub IfNames : Handle → (Open (List ℕ) → Type 0) → Type 0
IfNames h P = IfSome (named (cache_of h)) P

-- if the cache is closed, 100 is returned, it stays closed, and what is told stays as it was
abbrev pub IsIdleIfClosed : {T : Type 0} → Handle → Handle → T → T → ℕ → Type 0
IsIdleIfClosed old new before told result = IsNone (cache_of old) → (result ≡ 100) × (cache_of new ≡ None) × (told ≡ before)

-- if its keys are names, 103 is returned, the cache stays, and what is told stays as it was
abbrev pub IsIdleIfNames : {T : Type 0} → Handle → Handle → T → T → ℕ → Type 0
IsIdleIfNames old new before told result = IsSome (named (cache_of old)) → (result ≡ 103) × (cache_of new ≡ cache_of old) × (told ≡ before)

-- if its keys are numbers, 103 is returned, the cache stays, and what is told stays as it was
abbrev pub IsIdleIfNumbers : {T : Type 0} → Handle → Handle → T → T → ℕ → Type 0
IsIdleIfNumbers old new before told result = IsSome (numbered (cache_of old)) → (result ≡ 103) × (cache_of new ≡ cache_of old) × (told ≡ before)
