-- Worked examples of the sketch, computed by the definitions alone.
use Rattle.std.proofs.Common.{◌≡◌, ℕ, zero, suc, List, [], ◌∷◌, ◌++◌, false, map, refl}
use Rattle.std.specs.Prelude.{replicate, get_or}
use Rattle.wt_keys.specs.Hash.{bits_for, bits_from}
use Rattle.wt_sketch.specs.Nibbles.{nibbles}
use Rattle.wt_sketch.specs.Sketch.{Counters, half, nothing_counted, counted, counted_words, counted_word, estimate_of, rose, places_in, row_of}
use Rattle.wt_sketch.specs.Alone.{alone, alone_from}

abbrev twenty : Counters
twenty = counted_words (nothing_counted 2) (replicate 20 1)

abbrev five_more : Counters
five_more = counted_words twenty (replicate 5 2)

-- a counter stops at 15, and at 20 additions all are halved
pub counters_stop_and_are_halved : estimate_of twenty 1 ∷ twenty.additions ∷ estimate_of five_more 1 ∷ estimate_of
    five_more 2 ∷ five_more.additions ∷ [] ≡ 15 ∷ 15 ∷ 7 ∷ 2 ∷ 10 ∷ []
unfolding counted counted_word estimate_of bits_for bits_from
counters_stop_and_are_halved = refl

pub a_full_counter_does_not_rise : rose (places_in twenty 1) twenty ≡ false
unfolding counted counted_word bits_for bits_from
a_full_counter_does_not_rise = refl

-- the exact counts of the two, stopped and halved alike
pub alone_counts_one_word : alone 1 (nothing_counted 2) (replicate 20 1 ++ replicate 5 2) ∷ alone 2 (nothing_counted 2)
    (replicate 20 1 ++ replicate 5 2) ∷ [] ≡ 7 ∷ 2 ∷ []
unfolding counted counted_word alone_from bits_for bits_from
alone_counts_one_word = refl

-- four places counted, so many times
abbrev times : List ℕ → ℕ → Counters → Counters
times ps zero s = s
times ps (suc n) s = times ps n (counted ps s)

-- one entry: ten additions halve; neighbours in a row are kept apart
abbrev neighbours : Counters
neighbours = times (14 ∷ 14 ∷ 14 ∷ 14 ∷ []) 3 (times (15 ∷ 15 ∷ 15 ∷ 15 ∷ []) 7 (nothing_counted 1))

pub neighbours_are_kept_apart : neighbours.additions ∷ map (λ place. get_or (row_of neighbours 2) place 0)
    (15 ∷ 14 ∷ 13 ∷ 16 ∷ []) ≡ 5 ∷ 3 ∷ 1 ∷ 0 ∷ 0 ∷ []
unfolding counted bits_for bits_from
neighbours_are_kept_apart = refl

-- sixteen counters to a word: 15, 1, 0 become 7, 0, 0, and sixteen full counters become 7 each
pub sixteen_counters_are_halved : nibbles 16 0x07 ∷ nibbles 16 0x7777777777777777 ∷ []
    ≡ map half (nibbles 16 0x1F) ∷ map half (nibbles 16 0xFFFFFFFFFFFFFFFF) ∷ []
unfolding nibbles
sixteen_counters_are_halved = refl
