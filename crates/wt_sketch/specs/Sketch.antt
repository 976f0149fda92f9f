-- The frequency sketch, as four rows of counters.
use Rattle.std.specs.Prelude.{ℕ, ◌+◌, ◌*◌, ◌/◌, ◌^◌, ◌==◌, ◌||◌, nat_lt, min, Bool, if◌then◌else◌, List, [], ◌∷◌, map, get_or, set, replicate}
use Rattle.std.specs.List.{fold}
use Rattle.wt_keys.specs.Hash.{bits_for, places}

-- what is seen of a sketch: four rows of counters from 0 to 15, and the additions since the last halving
pub record Counters : Type 0 where
  pub entries : ℕ
  pub additions : ℕ
  pub row_0 : List ℕ
  pub row_1 : List ℕ
  pub row_2 : List ℕ
  pub row_3 : List ℕ

-- a row that counted nothing: the least power of two, from 64 on, that is not below the entries
abbrev pub new_row : ℕ → List ℕ
new_row entries = replicate (2 ^ bits_for entries) 0

-- a sketch that counted nothing
abbrev pub nothing_counted : ℕ → Counters
nothing_counted entries = record { entries = entries; additions = 0; row_0 = new_row entries; row_1 = new_row entries; row_2 = new_row entries; row_3 = new_row entries }

-- the rows by number
abbrev pub row_of : Counters → ℕ → List ℕ
row_of s i = get_or (s.row_0 ∷ s.row_1 ∷ s.row_2 ∷ s.row_3 ∷ []) i []

-- the i-th of a list of numbers
abbrev pub at : List ℕ → ℕ → ℕ
at xs i = get_or xs i 0

-- a half, rounding down
abbrev pub half : ℕ → ℕ
half n = n / 2

-- the least of the counters at four places
abbrev pub estimate : List ℕ → Counters → ℕ
estimate ps s = min (min (at s.row_0 (at ps 0)) (at s.row_1 (at ps 1))) (min (at s.row_2 (at ps 2)) (at s.row_3 (at ps 3)))

-- whether the counter at a place is below 15
abbrev pub rises : ℕ → List ℕ → Bool
rises p row = nat_lt (at row p) 15

-- a row with the counter at a place raised, if it can rise
abbrev pub raised : ℕ → List ℕ → List ℕ
raised p row = if rises p row then set row p (at row p + 1) else row

-- whether one of the counters at four places can rise
abbrev pub rose : List ℕ → Counters → Bool
rose ps s = rises (at ps 0) s.row_0 || (rises (at ps 1) s.row_1 || (rises (at ps 2) s.row_2 || rises (at ps 3) s.row_3))

-- each of the four raised, and one addition more
abbrev pub with_addition : List ℕ → Counters → Counters
with_addition ps s = record {
  entries = s.entries;
  additions = s.additions + 1;
  row_0 = raised (at ps 0) s.row_0;
  row_1 = raised (at ps 1) s.row_1;
  row_2 = raised (at ps 2) s.row_2;
  row_3 = raised (at ps 3) s.row_3;
}

-- everything halved, rounding down
abbrev pub halved : Counters → Counters
halved s = record {
  entries = s.entries;
  additions = half s.additions;
  row_0 = map half s.row_0;
  row_1 = map half s.row_1;
  row_2 = map half s.row_2;
  row_3 = map half s.row_3;
}

-- the reset of TinyLFU: at ten times the entries everything is halved
abbrev pub aged : Counters → Counters
aged s = if s.additions == 10 * s.entries then halved s else s

-- one occurrence counted: an addition only if a counter rises
unfoldable pub counted : List ℕ → Counters → Counters
counted ps s = if rose ps s then aged (with_addition ps s) else s

-- the places of a word in this sketch
abbrev pub places_in : Counters → ℕ → List ℕ
places_in s word = places word (bits_for s.entries)

-- how often a word was counted, by the sketch
unfoldable pub estimate_of : Counters → ℕ → ℕ
estimate_of s word = estimate (places_in s word) s

-- one occurrence of a word counted
unfoldable pub counted_word : Counters → ℕ → Counters
counted_word s word = counted (places_in s word) s

-- the words counted, one after another
abbrev pub counted_words : Counters → List ℕ → Counters
counted_words s words = fold counted_word s words
