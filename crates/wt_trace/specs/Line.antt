-- The grammar of a line.
use Rattle.std.specs.Prelude.{◌≡◌, ◌↔◌, ℕ, ◌==◌, if◌then◌else◌, List, [], ◌∷◌, ◌++◌, Option, None, Some, option_and_then}
use Rattle.std.specs.Option.{option_map}
use Rattle.std.specs.List.{before_first, after_first, find}
use Rattle.wt_trace.specs.declared.trace.line.Line.{Line}
use Rattle.wt_trace.specs.declared.trace.line.Act.{Act}
use Rattle.wt_trace.specs.declared.trace.line.Act.TheVariants.{Look, Put, Seek, Get, Land, Drop, Forget, Clean, Clear}
use Rattle.wt_trace.specs.Keys.{IsNumber, number_of}

module _ {K : Type 0} where
  -- the letters L, P, S, G, E, D, F, C, X
  abbrev pub letter_of : Act K → ℕ
  letter_of (Look k) = 76
  letter_of (Put k) = 80
  letter_of (Seek k) = 83
  letter_of (Get k) = 71
  letter_of (Land k) = 69
  letter_of (Drop k) = 68
  letter_of (Forget k) = 70
  letter_of Clean = 67
  letter_of Clear = 88

  -- the key that a line names, if it names one
  abbrev pub key_of : Act K → Option K
  key_of (Look k) = Some k
  key_of (Put k) = Some k
  key_of (Seek k) = Some k
  key_of (Get k) = Some k
  key_of (Land k) = Some k
  key_of (Drop k) = Some k
  key_of (Forget k) = Some k
  key_of Clean = None
  key_of Clear = None

  -- the key that a line looks up, if it looks one up
  abbrev pub looked_up : Act K → Option K
  looked_up (Look k) = Some k
  looked_up (Seek k) = Some k
  looked_up (Get k) = Some k
  looked_up _ = None

-- ---- the relation

module _ {K : Type 0} (IsKey : List ℕ → K → Type 0) where
  -- a letter, and if there is a key a space and the key
  abbrev pub IsAsked : ℕ → Option K → List ℕ → Type 0
  IsAsked letter (Some k) bytes = (key : List ℕ) × IsKey key k × (bytes ≡ letter ∷ 32 ∷ key)
  IsAsked letter None bytes = bytes ≡ letter ∷ []

  -- a moment, a space, and what is asked for
  abbrev pub IsLine : List ℕ → Line K → Type 0
  IsLine bytes l = (moment act : List ℕ) × IsNumber moment l.moment × IsAsked (letter_of l.act) (key_of l.act) act × (bytes ≡ moment ++ 32 ∷ act)

-- ---- the reading, which computes

module _ {K : Type 0} where
  -- the one of these that has the letter
  abbrev pub lettered : ℕ → List (Act K) → Option (Act K)
  lettered letter acts = find (λ a. letter == letter_of a) acts

  -- what can be asked of a key
  abbrev pub keyed : K → List (Act K)
  keyed k = Look k ∷ Put k ∷ Seek k ∷ Get k ∷ Land k ∷ Drop k ∷ Forget k ∷ []

  module _ (read : List ℕ → Option K) where
    -- what the bytes ask for, if they ask for something
    abbrev pub act_of : List ℕ → Option (Act K)
    act_of [] = None
    act_of (letter ∷ []) = lettered letter (Clean ∷ Clear ∷ [])
    act_of (letter ∷ space ∷ key) = if space == 32 then option_and_then (λ k. lettered letter (keyed k)) (read key) else None

    -- the line that the bytes spell, if they spell one
    abbrev pub line_of : List ℕ → Option (Line K)
    line_of bytes = option_and_then
        (λ moment. option_map (λ act. record { moment = moment; act = act }) (act_of (after_first (λ b. b == 32) bytes)))
        (number_of (before_first (λ b. b == 32) bytes))

-- the reading of a key is its relation
abbrev pub ReadsKeys : {K : Type 0} → (List ℕ → K → Type 0) → (List ℕ → Option K) → Type 0
ReadsKeys {K} IsKey read = (bytes : List ℕ) (k : K) → (read bytes ≡ Some k) ↔ IsKey bytes k

-- and so of a line
abbrev pub ReadsLines : {K : Type 0} → (List ℕ → K → Type 0) → (List ℕ → Option K) → Type 0
ReadsLines {K} IsKey read = (bytes : List ℕ) (l : Line K) → (line_of read bytes ≡ Some l) ↔ IsLine IsKey bytes l
