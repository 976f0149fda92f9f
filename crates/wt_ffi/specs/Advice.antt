-- What C's calls on an adviser promise.
use Rattle.std.specs.Prelude.{◌≡◌, ◌<◌, ◌⊎◌, ℕ, nat_eq, nat_le, ◌&&◌, Bool, true, false, List, Option, Some, None, IfSome, IsNone, IsSome}
use Rattle.std.specs.Option.{option_map}
use Rattle.wt_adviser.specs.Advice.{Advice, IsShown, opening, shown, wanted}
use Rattle.wt_ffi.specs.declared.adviser.handle.AdviserHandle.{AdviserHandle}

-- the adviser behind a handle, if it is open
abbrev pub adviser_of : AdviserHandle → Option (Advice ℕ)
adviser_of h = option_map (λ a. a.adviser) h.pointer.advising

-- how many entries an adviser may be for
abbrev pub can_advise : ℕ → Bool
can_advise entries = nat_le 64 entries && nat_le entries 4194304

-- what an opening of a closed handle returns, by whether the entries are in their range: 2 if not, else 0, or 1 for want of memory
abbrev pub Opens : Bool → ℕ → Type 0
Opens false number = number ≡ 2
Opens true number = (number ≡ 0) ⊎ (number ≡ 1)

-- an opening: an adviser that has seen nothing, on a closed handle alone
pub record IsAdviserOpening (entries : ℕ) (old new : AdviserHandle) (result : ℕ) : Type 0 where
  -- if it succeeds the adviser is open
  pub state : result ≡ 0 → adviser_of new ≡ Some (opening entries)
  -- a closed handle is refused exactly entries out of their range, or memory
  pub refusal : IsNone (adviser_of old) → Opens (can_advise entries) result
  -- nothing is opened twice
  pub already : IsSome (adviser_of old) → result ≡ 101
  -- else the handle is as it was
  pub err : 0 < result → adviser_of new ≡ adviser_of old

-- look-ups that an adviser is shown: `was` and `told` are the window before and after, `result` the number that is returned
pub record IsAdvised (keys : List ℕ) (old new : AdviserHandle) (was told result : ℕ) : Type 0 where
  -- the adviser saw all of the keys, in their order
  pub state : IfSome (adviser_of old) (λ a. result ≡ 0 → adviser_of new ≡ Some (shown nat_eq (λ k. k) keys a))
  -- or some small caches have not seen some of them
  pub err : IfSome (adviser_of old) (λ a. (result ≡ 0) ⊎ (result ≡ 1))
  pub part : IfSome (adviser_of old) (λ a. (b : Advice ℕ) × (adviser_of new ≡ Some b) × IsShown nat_eq (λ k. k) keys a b × (told ≡ wanted b))
  -- nothing happens if it is closed
  pub closed : IsNone (adviser_of old) → (result ≡ 100) × (adviser_of new ≡ None) × (told ≡ was)
