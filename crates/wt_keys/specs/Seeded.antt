-- Keys with a word that is made under a secret seed.
use Rattle.std.specs.Prelude.{◌≡◌, ℕ, Bool}
use Rattle.std.specs.Hash.{HashWrites}
use Rattle.std.specs.Hash.DefaultHasher as sip
use Rattle.std.specs.List.{fold}
use Rattle.std.specs.RandomState.{initial_hasher}
use Rattle.wt_keys.specs.declared.seeded.Seed.{Seed}
use Rattle.wt_keys.specs.declared.seeded.Seeded.{Seeded}

-- the key that a seeded key was made from
abbrev pub key_of : {K : Type 0} → Seeded K → K
key_of s = s.key

-- the word of a seeded key
abbrev pub word_of : {K : Type 0} → Seeded K → ℕ
word_of s = s.word

-- SipHash-1-3 under the seed's bits of what a key feeds a hasher
abbrev pub seeded_word : Seed → HashWrites → ℕ
seeded_word seed writes = sip.finish (fold sip.write (initial_hasher seed.state) writes)

-- a key with its word under a seed, if it feeds a hasher as told
abbrev pub seeded : {K : Type 0} → (K → HashWrites) → Seed → K → Seeded K
seeded hash_input seed key = record { word = seeded_word seed (hash_input key); key = key }

-- a test of seeded keys finds those of one seed equal exactly if a test of keys finds the keys so
abbrev pub TellsKeysApart : {K : Type 0} → (Seeded K → Seeded K → Bool) → (K → K → Bool) → (K → HashWrites) → Type 0
TellsKeysApart {K} seeded_eq eq hash_input = (seed : Seed) (one other : K) → seeded_eq (seeded hash_input seed one) (seeded hash_input seed other) ≡ eq one other
