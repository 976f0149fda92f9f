-- Worked examples of hash rows and words, computed by the definitions alone.
use Rattle.std.proofs.Common.{◌≡◌, [], ◌∷◌, map, codes, refl}
use Rattle.wt_keys.specs.Hash.{places, bits_for, bits_from, shard_of, word_of_name}

pub places_of_three_words : map (λ word. places word 6) (1 ∷ 2 ∷ 0 ∷ [])
    ≡ (39 ∷ 47 ∷ 37 ∷ 53 ∷ []) ∷ (15 ∷ 31 ∷ 10 ∷ 43 ∷ []) ∷ (0 ∷ 0 ∷ 0 ∷ 0 ∷ []) ∷ []
places_of_three_words = refl

pub shards_among_four : map (λ word. shard_of word 4) (1 ∷ 2 ∷ 3 ∷ 4 ∷ 5 ∷ 6 ∷ []) ≡ 3 ∷ 2 ∷ 1 ∷ 0 ∷ 3 ∷ 2 ∷ []
shards_among_four = refl

-- the higher of the two bits
pub shards_among_two : map (λ word. shard_of word 2) (1 ∷ 2 ∷ 3 ∷ 4 ∷ 5 ∷ 6 ∷ []) ≡ 1 ∷ 1 ∷ 0 ∷ 0 ∷ 1 ∷ 1 ∷ []
shards_among_two = refl

pub one_shard : map (λ word. shard_of word 1) (1 ∷ 18446744073709551615 ∷ []) ≡ 0 ∷ 0 ∷ []
one_shard = refl

pub widths : map bits_for (1 ∷ 64 ∷ 65 ∷ 128 ∷ 129 ∷ 65536 ∷ []) ≡ 6 ∷ 6 ∷ 7 ∷ 7 ∷ 8 ∷ 16 ∷ []
unfolding bits_for bits_from
widths = refl

pub words_of_names : map word_of_name ([] ∷ codes "a" ∷ codes "foobar" ∷ [])
    ≡ 0xCBF29CE484222325 ∷ 0xAF63DC4C8601EC8C ∷ 0x85944171F73967E8 ∷ []
words_of_names = refl
