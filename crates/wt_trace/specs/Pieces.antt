-- A text in pieces that stand one after another.
use Rattle.std.specs.Prelude.{ℕ, ◌≤◌, List, [], ◌∷◌, slice_range}
use Rattle.std.specs.List.{flat_map}

-- the text of pieces
abbrev pub whole : List (List ℕ) → List ℕ
whole pieces = flat_map (λ piece. piece) pieces

-- the pieces from start on that end at these places
abbrev pub pieces : List ℕ → ℕ → List ℕ → List (List ℕ)
pieces text start [] = []
pieces text start (end ∷ ends) = slice_range text start end ∷ pieces text end ends

-- places that don't fall, from start on, up to the length of a text
abbrev pub AreEnds : ℕ → ℕ → List ℕ → Type 0
AreEnds len start [] = Unit {0}
AreEnds len start (end ∷ ends) = (start ≤ end) × (end ≤ len) × AreEnds len end ends

-- where the last piece ends
abbrev pub last_end : ℕ → List ℕ → ℕ
last_end start [] = start
last_end start (end ∷ ends) = last_end end ends
