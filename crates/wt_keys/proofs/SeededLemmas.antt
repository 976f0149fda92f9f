-- Keys of one seed are equal exactly where the keys are.
use Rattle.std.proofs.Common.{◌≡◌, ℕ, Bool, true, ◌&&◌, nat_eq, ap}
use Rattle.std.proofs.lemmas.Bool.{eq-eqb}
use Rattle.std.specs.Cmp.{both_ways, second_so}
use Rattle.std.specs.Hash.{HashWrites}
use Rattle.wt_keys.specs.Seeded.{seeded_word, TellsKeysApart}

pub tells_keys_apart : {K : Type 0} (eq : K → K → Bool) → ((a b : K) → eq a b ≡ true → a ≡ b)
    → (hash_input : K → HashWrites) → TellsKeysApart (λ a b. nat_eq a.word b.word && eq a.key b.key) eq hash_input
tells_keys_apart eq same hash_input =
    λ seed one other.
    let word : ℕ = seeded_word seed (hash_input one) in
    let next : ℕ = seeded_word seed (hash_input other) in
    both_ways (nat_eq word next && eq one other) (eq one other) (second_so (nat_eq word next) (eq one other))
    (λ e i. eq-eqb word next (ap (λ k. seeded_word seed (hash_input k)) (same one other e)) i && e i)
