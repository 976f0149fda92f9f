-- Hash rows: what is made of a key's word, a number below 2^64.
use Rattle.std.specs.Prelude.{ℕ, zero, suc, ◌+◌, ◌-◌, ◌*◌, ◌/◌, ◌%◌, ◌^◌, nat_le, if◌then◌else◌, List, [], ◌∷◌, map, bit_xor}
use Rattle.std.specs.List.{fold}

-- the product of a factor and a word, in 64 bits
abbrev pub mixed : ℕ → ℕ → ℕ
mixed factor word = (factor * word) % 2 ^ 64

-- the place of a word in a row of 2^bits counters: the highest bits of the product
abbrev pub place : ℕ → ℕ → ℕ → ℕ
place factor word bits = mixed factor word / 2 ^ (64 - bits)

-- the factors of the four rows, ours
abbrev pub row_factors : List ℕ
row_factors = 0x9E3779B97F4A7C15 ∷ 0xBF58476D1CE4E5B9 ∷ 0x94D049BB133111EB ∷ 0xD6E8FEB86659FD93 ∷ []

-- the four places of a word
abbrev pub places : ℕ → ℕ → List ℕ
places word bits = map (λ factor. place factor word bits) row_factors

-- the first of n numbers of bits, from `bits` on, that gives a place for each entry
unfoldable pub bits_from : ℕ → ℕ → ℕ → ℕ
bits_from zero bits entries = bits
bits_from (suc n) bits entries = if nat_le entries (2 ^ bits) then bits else bits_from n (bits + 1) entries

-- the bits of a place: the width of a row is the least power of two, from 64 on, that is not below the entries
unfoldable pub bits_for : ℕ → ℕ
bits_for entries = bits_from 10 6 entries

-- the shard of a word among 1, 2 or 4: the highest bits of the product with a factor of its own
abbrev pub shard_of : ℕ → ℕ → ℕ
shard_of word shards = mixed 0xC2B2AE3D27D4EB4F word / (2 ^ 64 / shards)

-- an FNV-1a hash with a byte more
abbrev pub with_byte : ℕ → ℕ → ℕ
with_byte word byte = mixed 0x100000001B3 (bit_xor word byte)

-- the word of a name: FNV-1a of 64 bits
abbrev pub word_of_name : List ℕ → ℕ
word_of_name bytes = fold with_byte 0xCBF29CE484222325 bytes
