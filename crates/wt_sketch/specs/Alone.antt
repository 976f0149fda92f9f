-- What a counter for one word alone would show.
use Rattle.std.specs.Prelude.{ℕ, ◌+◌, ◌*◌, ◌==◌, ◌&&◌, nat_lt, Bool, if◌then◌else◌, List, [], ◌∷◌}
use Rattle.wt_sketch.specs.Sketch.{Counters, rose, half, places_in, counted_word}

-- whether counting the word halves everything
abbrev pub halves : Counters → ℕ → Bool
halves s word = rose (places_in s word) s && (s.additions + 1 == 10 * s.entries)

-- the number after one word more: raised up to 15 if the word is the key's, halved if the sketch halves
abbrev pub alone_next : ℕ → ℕ → Counters → ℕ → ℕ
alone_next key n s word =
    let raised : ℕ = if (word == key) && nat_lt n 15 then n + 1 else n in
    if halves s word then half raised else raised

-- one counter for one word alone, n so far
unfoldable pub alone_from : ℕ → ℕ → Counters → List ℕ → ℕ
alone_from key n s [] = n
alone_from key n s (word ∷ words) = alone_from key (alone_next key n s word) (counted_word s word) words

-- one counter for one word alone, from nothing
abbrev pub alone : ℕ → Counters → List ℕ → ℕ
alone key s words = alone_from key 0 s words
