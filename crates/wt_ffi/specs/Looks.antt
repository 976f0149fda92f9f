-- Several look-ups by number, made one after another.
use Rattle.std.specs.Prelude.{◌≡◌, ◌<◌, ◌+◌, ℕ, nat_lt, Bool, ◌||◌, if◌then◌else◌, List, [], ◌∷◌, IsTrue, IsFalse}
use Rattle.wt_core.specs.declared.calls.Call.{Call}
use Rattle.wt_core.specs.declared.calls.Call.TheVariants.{Look}
use Rattle.wt_ffi.specs.declared.steps.look_many.Looked.{Looked}
use Rattle.wt_ffi.specs.declared.token.Timed.{Timed}
use Rattle.wt_ffi.specs.Numbered.{after, number_after, answer_after, IsRefused, IsFree}
use Rattle.wt_ffi.specs.Open.{Open}

-- what several look-ups made: the cache after them, how many were made, and the number that the last of them returned
pub record Through : Type 0 where
  pub cache : Open ℕ
  pub made : ℕ
  pub number : ℕ

-- one look-up of several
abbrev pub look_of : Looked → Call ℕ Timed
look_of l = Look l.key l.now

-- whether a look-up with this answer is the last one: it was refused, or told a notice
abbrev pub is_last : Looked → Open ℕ → Bool
is_last l c = nat_lt 0 (number_after l.answer (look_of l) c) || nat_lt 0 l.answer.notices

-- what look-ups with these answers made of a cache: each is made up to the last one, and those behind it aren't
abbrev pub looked_through : List Looked → Open ℕ → Through
looked_through [] c = record { cache = c; made = 0; number = 0 }
looked_through (l ∷ ls) c =
    let one = after l.answer (look_of l) c in
    if is_last l c
    then record { cache = one; made = 1; number = number_after l.answer (look_of l) c }
    else let rest = looked_through ls one in record { cache = rest.cache; made = 1 + rest.made; number = rest.number }

-- the answer of a look-up of this cache
pub record IsAnswered (asked told : Looked) (c : Open ℕ) : Type 0 where
  -- the key and the moment stay
  pub key : told.key ≡ asked.key
  pub now : told.now ≡ asked.now
  -- what is told of the look-up
  pub answer : told.answer ≡ answer_after told.answer (look_of asked) c
  -- what the state refuses is refused whatever the memory does
  pub refusal : IsRefused (look_of asked) c → 0 < told.answer.kind
  -- a look-up that takes no memory isn't refused any
  pub memory : IsFree (look_of asked) c → 0 < told.answer.kind

-- each look-up that was made has its answer, and those behind the last one are as they were
abbrev pub AreAnswered : List Looked → List Looked → Open ℕ → Type 0
AreAnswered [] ls c = ls ≡ []
AreAnswered (asked ∷ ks) [] c = (asked ∷ ks) ≡ []
AreAnswered (asked ∷ ks) (told ∷ ls) c =
    IsAnswered asked told c × (IsTrue (is_last told c) → ls ≡ ks) × (IsFalse (is_last told c) → AreAnswered ks ls (after told.answer (look_of told) c))
