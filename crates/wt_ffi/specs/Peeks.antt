-- What C's peeks promise, which are no steps.
use Rattle.std.specs.Prelude.{◌≡◌, ℕ, nat_eq, Bool, IsNone, IsSome}
use Rattle.std.specs.Cmp.Lexicographic.{pointwise}
use Rattle.wt_keys.specs.Hash.{word_of_name}
use Rattle.wt_ffi.specs.Tokens.{timed_measure}
use Rattle.wt_core.specs.declared.calls.Call.TheVariants.{Look}
use Rattle.wt_core.specs.Step.{step}
use Rattle.wt_ffi.specs.declared.answer.Answer.{Answer}
use Rattle.wt_ffi.specs.declared.handle.Handle.{Handle}
use Rattle.wt_ffi.specs.declared.text.Text.{Text}
use Rattle.wt_ffi.specs.Calls.{answer_of}
use Rattle.wt_ffi.specs.Handle.{IfNumbers, cache_of}
use Rattle.wt_ffi.specs.Kinds.{named}
use Rattle.wt_ffi.specs.Names.{IfAsked, asked, number_unasked}
use Rattle.wt_ffi.specs.Open.{Open}

-- the answer that a look of the key would have, with no notice
abbrev pub peek_of : {K : Type 0} → (K → K → Bool) → (K → ℕ) → K → ℕ → Open K → Answer
peek_of eq word key now c = answer_of (step eq word timed_measure c.core (Look key now)).reply 0

-- a peek by number: what a look would be answered on an open cache of numbers, and else nothing, which the number returned tells
pub record IsPeek (key now : ℕ) (old new : Handle) (before told : Answer) (result : ℕ) : Type 0 where
  -- no fault
  pub number : IfNumbers old (λ c. result ≡ 0)
  -- what is told
  pub answer : IfNumbers old (λ c. told ≡ peek_of nat_eq (λ k. k) key now c)
  -- the cache stays as it is, and its notices do
  pub same : cache_of new ≡ cache_of old
  -- nothing happens if the cache is closed
  pub closed : IsNone (cache_of old) → (result ≡ 100) × (told ≡ before)
  -- nor if its keys are names
  pub other : IsSome (named (cache_of old)) → (result ≡ 103) × (told ≡ before)

-- a peek by name: what a look would be answered on an open cache of names, and else nothing, which the number returned tells
pub record IsNamePeek (key : Text) (now : ℕ) (old new : Handle) (before told : Answer) (result : ℕ) : Type 0 where
  -- no fault
  pub number : IfAsked key old (λ a. result ≡ 0)
  -- what is told
  pub answer : IfAsked key old (λ a. told ≡ peek_of (pointwise nat_eq) word_of_name a.name now a.cache)
  -- the cache stays as it is, and its notices do
  pub same : cache_of new ≡ cache_of old
  -- nothing happens if the name is too long, the cache closed or its keys numbers
  pub unasked : IsNone (asked key old) → (result ≡ number_unasked key old) × (told ≡ before)
