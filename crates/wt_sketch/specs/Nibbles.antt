-- Sixteen counters in a word.
use Rattle.std.specs.Prelude.{ℕ, zero, suc, ◌/◌, ◌%◌, List, [], ◌∷◌, ◌++◌}

-- the lowest n numbers of four bits, the lowest first
unfoldable pub nibbles : ℕ → ℕ → List ℕ
nibbles zero w = []
nibbles (suc n) w = w % 16 ∷ nibbles n (w / 16)

-- the counters of the words, one word after another
unfoldable pub unpacked : List ℕ → List ℕ
unpacked [] = []
unpacked (w ∷ ws) = nibbles 16 w ++ unpacked ws
