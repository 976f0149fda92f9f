-- Numbers of four bits in a word.
use Rattle.std.proofs.Common.{◌≡◌, ℕ, zero, suc, ◌+◌, ◌-◌, ◌*◌, ◌/◌, ◌%◌, ◌^◌, ◌<◌, ◌≤◌, List, [], ◌∷◌, ◌++◌, map, length, get_or, set, refl, sym, ap, ◌∙◌, arith, bit_and, mul_comm, inl, inr, true, nat_lt, replicate, length-append}
use native.Mathlib.Nat.{pow-suc, div-div-eq-div-mul}
use lib.Bits.{and_block, and_mask}
use lib.Pow.{pow-add}
use Rattle.std.proofs.Math.Nat.{mod-eq_of_lt, pow-le-pow_right}
use Rattle.std.proofs.lemmas.Bool.{cases_lt}
use Rattle.std.proofs.lemmas.List.{get_or_append_left, get_or-append_right, set-append_left, set-append_right, map-append, replicate-append-replicate, length-replicate}
use Rattle.std.proofs.lemmas.List.Elements.{All-append}
use Rattle.std.specs.List.{All}
use Rattle.wt_keys.specs.Hash.{bits_for}
use Rattle.wt_sketch.specs.Lawful.{IsRow}
use Rattle.wt_sketch.specs.Nibbles.{nibbles, unpacked}
use Rattle.wt_sketch.specs.Sketch.{at, half, raised}

pub sevens : ℕ → ℕ
sevens zero = 0
sevens (suc n) = sevens n * 16 + 7

-- a word put together again
nibbles-cat : (n a b : ℕ) → b < 16 → nibbles (suc n) (a * 16 + b) ≡ b ∷ nibbles n a
unfolding nibbles
nibbles-cat n a b h = let x : (a * 16 + b) % 16 ≡ b = omega arith in let y : (a * 16 + b) / 16 ≡ a = omega arith in rw (x, y)

halved-word : (n a b : ℕ) → b < 16 → bit_and ((a * 16 + b) / 2) (sevens (suc n)) ≡ bit_and (a / 2) (sevens n) * 16 + b / 2
unfolding sevens
halved-word n a b h =
    let low : ℕ = (a % 2) * 8 + b / 2 in
    let s : (a * 16 + b) / 2 ≡ (a / 2) * 16 + ((a % 2) * 8 + b / 2) = omega arith in
    let block = and_block 4 (a / 2) (sevens n) ((a % 2) * 8 + b / 2) 7 (omega arith) (omega arith) in
    let m = and_mask ((a % 2) * 8 + b / 2) 3 in
    let t : ((a % 2) * 8 + b / 2) % 8 ≡ b / 2 = omega arith in
    rw s (block ∙ ap (λ z. bit_and (a / 2) (sevens n) * 16 + z) (m ∙ t))

pub halved : (n w : ℕ) → nibbles n (bit_and (w / 2) (sevens n)) ≡ map half (nibbles n w)
unfolding nibbles
halved zero w = refl
halved (suc n) w =
    let split : w ≡ (w / 16) * 16 + w % 16 = omega arith in
    let a : bit_and (w / 2) (sevens (suc n)) ≡ bit_and ((w / 16) / 2) (sevens n) * 16 + (w % 16) / 2 =
    ap (λ z. bit_and (z / 2) (sevens (suc n))) split ∙ halved-word n (w / 16) (w % 16) (omega arith) in
    rw a (nibbles-cat n (bit_and ((w / 16) / 2) (sevens n)) ((w % 16) / 2) (omega arith) ∙ ap (λ ds. (w % 16) / 2 ∷ ds) (halved n (w / 16)))

pub sevens_16 : sevens 16 ≡ 8608480567731124087
unfolding sevens
sevens_16 = refl

pow16 : (i : ℕ) → 16 ^ suc i ≡ 16 ^ i * 16
pow16 i = pow-suc 16 i

-- one number raised
pub raised_digit : (n i w : ℕ) → i < n → get_or (nibbles n w) i 0 < 15
    → nibbles n (w + 16 ^ i) ≡ set (nibbles n w) i (get_or (nibbles n w) i 0 + 1)
unfolding nibbles
raised_digit zero i w h r = absurd (omega arith)
raised_digit (suc n) zero w h r = let x : (w + 1) % 16 ≡ w % 16 + 1 = omega arith in
    let y : (w + 1) / 16 ≡ w / 16 = omega arith in rw (x, y)
raised_digit (suc n) (suc i) w h r =
    let p : 16 ^ suc i ≡ 16 ^ i * 16 = pow16 i in
    let x : (w + 16 ^ suc i) % 16 ≡ w % 16 = omega (arith, p) in
    let y : (w + 16 ^ suc i) / 16 ≡ w / 16 + 16 ^ i = omega (arith, p) in
    rw (x, y) (ap (λ ds. w % 16 ∷ ds) (raised_digit n i (w / 16) (omega arith) r))

-- one number read
pub read : (n i w : ℕ) → i < n → get_or (nibbles n w) i 0 ≡ w / 16 ^ i % 16
unfolding nibbles
read zero i w h = absurd (omega arith)
read (suc n) zero w h = let x : w / 1 ≡ w = omega arith in rw x
read (suc n) (suc i) w h = let p = pow16 i in
    let d : w / 16 ^ suc i ≡ w / 16 / 16 ^ i = ap (λ m. w / m) p ∙ ap (λ m. w / m) (mul_comm (16 ^ i) 16)
    ∙ sym (div-div-eq-div-mul w 16 (16 ^ i)) in rw d (read n i (w / 16) (omega arith))

-- a raised number fits beside the others
pub fits : (n i w : ℕ) → i < n → w < 16 ^ n → get_or (nibbles n w) i 0 < 15 → w + 16 ^ i < 16 ^ n
unfolding nibbles
fits zero i w h b r = absurd (omega arith)
fits (suc n) zero w h b r =
    let p : 16 ^ suc n ≡ 16 ^ n * 16 = pow16 n in
    omega (arith, p)
fits (suc n) (suc i) w h b r =
    let p : 16 ^ suc n ≡ 16 ^ n * 16 = pow16 n in
    let q : 16 ^ suc i ≡ 16 ^ i * 16 = pow16 i in
    let below : w / 16 + 16 ^ i < 16 ^ n = fits n i (w / 16) (omega arith) (omega (arith, p)) r in
    omega (arith, p, q)

pub length-nibbles : (n w : ℕ) → length (nibbles n w) ≡ n
unfolding nibbles
length-nibbles zero w = refl
length-nibbles (suc n) w = ap suc (length-nibbles n (w / 16))

pub length-unpacked : (ws : List ℕ) → length (unpacked ws) ≡ 16 * length ws
unfolding unpacked
length-unpacked [] = refl
length-unpacked (w ∷ ws) =
    let here = length-nibbles 16 w in
    let rest : length (unpacked ws) ≡ 16 * length ws = length-unpacked ws in
    length-append (nibbles 16 w) (unpacked ws) ∙ omega (arith, here, rest)

pub at_unpacked : (ws : List ℕ) (p : ℕ) → p < 16 * length ws → at (unpacked ws) p ≡ at (nibbles 16 (at ws (p / 16))) (p % 16)
unfolding unpacked
at_unpacked [] p h = absurd (omega arith)
at_unpacked (w ∷ ws) p h =
    elim (cases_lt p 16) [
      | inl low ↦
          let word : p / 16 ≡ 0 = omega arith in
          let digit : p % 16 ≡ p = omega arith in
          rw (word, digit) (get_or_append_left (nibbles 16 w) (unpacked ws) 0 p (rw (length-nibbles 16 w) low))
      | inr high ↦
          let word : p / 16 ≡ suc ((p - 16) / 16) = omega arith in
          let digit : p % 16 ≡ (p - 16) % 16 = omega arith in
          rw (word, digit) (get_or-append_right (nibbles 16 w) (unpacked ws) 16 p 0 (length-nibbles 16 w) high
          ∙ at_unpacked ws (p - 16) (omega arith))
    ]

pub set_unpacked : (ws : List ℕ) (p v x : ℕ) → p < 16 * length ws
    → nibbles 16 x ≡ set (nibbles 16 (at ws (p / 16))) (p % 16) v → unpacked (set ws (p / 16) x) ≡ set (unpacked ws) p v
unfolding unpacked
set_unpacked [] p v x h e = absurd (omega arith)
set_unpacked (w ∷ ws) p v x h e =
    elim (cases_lt p 16) [
      | inl low ↦
          let word : p / 16 ≡ 0 = omega arith in
          let digit : p % 16 ≡ p = omega arith in
          let f : nibbles 16 x ≡ set (nibbles 16 w) p v = rw (word, digit) at e in
          rw word (ap (λ ds. ds ++ unpacked ws) f ∙ sym (set-append_left (nibbles 16 w) (unpacked ws) p v (rw (length-nibbles 16 w) low)))
      | inr high ↦
          let word : p / 16 ≡ suc ((p - 16) / 16) = omega arith in
          let digit : p % 16 ≡ (p - 16) % 16 = omega arith in
          let f : nibbles 16 x ≡ set (nibbles 16 (at ws ((p - 16) / 16))) ((p - 16) % 16) v = rw (word, digit) at e in
          rw word (ap (λ ds. nibbles 16 w ++ ds) (set_unpacked ws (p - 16) v x (omega arith) f)
          ∙ sym (set-append_right (nibbles 16 w) (unpacked ws) 16 p v (length-nibbles 16 w) high))
    ]

sixteen : (i : ℕ) → 2 ^ (4 * i) ≡ 16 ^ i
sixteen zero = refl
sixteen (suc i) =
    let more : 4 * suc i ≡ 4 * i + 4 = omega arith in
    ap (λ n. 2 ^ n) more ∙ pow-add 2 (4 * i) 4 ∙ ap (λ n. n * 16) (sixteen i) ∙ sym (pow16 i)

-- the counter read by a shift
pub read_counter : (ws : List ℕ) (p : ℕ) → p < 16 * length ws → at ws (p / 16) / 2 ^ (4 * (p % 16)) % 16 ≡ at (unpacked ws) p
read_counter ws p h =
    let shift : 2 ^ (4 * (p % 16)) ≡ 16 ^ (p % 16) = sixteen (p % 16) in
    rw shift (sym (at_unpacked ws p h ∙ read 16 (p % 16) (at ws (p / 16)) (omega arith)))

-- one in the counter's place
pub shifted_one : (i : ℕ) → i < 16 → 1 * 2 ^ (4 * i) % 18446744073709551616 ≡ 16 ^ i
shifted_one i h =
    let exponent : 4 * i ≤ 60 = omega arith in
    let small : 2 ^ (4 * i) ≤ 2 ^ 60 = pow-le-pow_right {n = 2} (omega arith) exponent in
    let one : 1 * 2 ^ (4 * i) ≡ 2 ^ (4 * i) = omega arith in
    rw one (mod-eq_of_lt (omega arith) ∙ sixteen i)

pub raise_word : (ws : List ℕ) (p : ℕ) → p < 16 * length ws → at (unpacked ws) p < 15
    → unpacked (set ws (p / 16) (at ws (p / 16) + 1 * 2 ^ (4 * (p % 16)) % 18446744073709551616))
    ≡ raised p (unpacked ws)
raise_word ws p h low =
    let one = shifted_one (p % 16) (omega arith) in
    let here : at (unpacked ws) p ≡ at (nibbles 16 (at ws (p / 16))) (p % 16) = at_unpacked ws p h in
    let rising : nat_lt (at (unpacked ws) p) 15 ≡ true = grind arith in
    let word : nibbles 16 (at ws (p / 16) + 16 ^ (p % 16)) ≡ set (nibbles 16 (at ws (p / 16))) (p % 16) (at (unpacked ws) p + 1) =
    raised_digit 16 (p % 16) (at ws (p / 16)) (omega arith) (rw here at low)
    ∙ ap (λ n. set (nibbles 16 (at ws (p / 16))) (p % 16) (n + 1)) (sym here) in
    rw (one, rising) (set_unpacked ws p (at (unpacked ws) p + 1) (at ws (p / 16) + 16 ^ (p % 16)) h word)

pub raise_fits : (ws : List ℕ) (p : ℕ) → p < 16 * length ws → at (unpacked ws) p < 15 → at ws (p / 16) < 2 ^ 64
    → at ws (p / 16) + 1 * 2 ^ (4 * (p % 16)) % 18446744073709551616 < 2 ^ 64
raise_fits ws p h low word =
    let one = shifted_one (p % 16) (omega arith) in
    let here : at (unpacked ws) p ≡ at (nibbles 16 (at ws (p / 16))) (p % 16) = at_unpacked ws p h in
    rw one (fits 16 (p % 16) (at ws (p / 16)) (omega arith) word (rw here at low))

-- rows of which each word is the other's, halved
pub halved_words : (ws xs : List ℕ) → length xs ≡ length ws
    → ((k : ℕ) → k < length ws → nibbles 16 (at xs k) ≡ map half (nibbles 16 (at ws k)))
    → unpacked xs ≡ map half (unpacked ws)
unfolding unpacked
halved_words [] [] e h = refl
halved_words [] (x ∷ xs) e h = absurd (omega arith)
halved_words (w ∷ ws) [] e h = absurd (omega arith)
halved_words (w ∷ ws) (x ∷ xs) e h =
    let first : nibbles 16 x ≡ map half (nibbles 16 w) = h 0 (omega arith) in
    let rest : unpacked xs ≡ map half (unpacked ws) = halved_words ws xs (omega arith) (λ k b. h (suc k) (omega arith)) in
    rw (first, rest) (sym (map-append half (nibbles 16 w) (unpacked ws)))

no_counts : nibbles 16 0 ≡ replicate 16 0
unfolding nibbles
no_counts = refl

pub unpacked-replicate : (n : ℕ) → unpacked (replicate n 0) ≡ replicate (n * 16) 0
unfolding unpacked
unpacked-replicate zero = refl
unpacked-replicate (suc n) =
    let more : suc n * 16 ≡ 16 + n * 16 = omega arith in
    rw (more, no_counts, unpacked-replicate n) (replicate-append-replicate 16 (n * 16) 0)

-- the words of a row
pub words_fit : (b : ℕ) → 6 ≤ b → b ≤ 16 → (1 * 2 ^ (b - 4) % 18446744073709551616) * 16 ≡ 2 ^ b
words_fit b low high =
    let small : 2 ^ (b - 4) ≤ 2 ^ 12 = (let h : b - 4 ≤ 12 = omega arith in pow-le-pow_right {n = 2} (omega arith) h) in
    let one : 1 * 2 ^ (b - 4) ≡ 2 ^ (b - 4) = omega arith in
    let below : 2 ^ (b - 4) < 18446744073709551616 = omega arith in
    let whole : b - 4 + 4 ≡ b = omega arith in
    rw (one, mod-eq_of_lt below) (sym (pow-add 2 (b - 4) 4) ∙ ap (λ n. 2 ^ n) whole)

pub zero_row : (items : List ℕ) (b : ℕ) → 6 ≤ b → b ≤ 16 → items ≡ replicate (1 * 2 ^ (b - 4) % 18446744073709551616) 0
    → (16 * length items ≡ 2 ^ b) × (unpacked items ≡ replicate (2 ^ b) 0)
zero_row items b low high e =
    let fit = words_fit b low high in
    let len : length items ≡ 1 * 2 ^ (b - 4) % 18446744073709551616 = ap length e ∙ length-replicate _ _ in (
      omega (arith, fit, len),
      ap unpacked e ∙ unpacked-replicate _ ∙ ap (λ n. replicate n 0) fit,
    )

-- ---- every counter is at most 15
all_more : (P : ℕ → Type 0) (x : ℕ) (xs : List ℕ) → P x → All P xs → All P (x ∷ xs)
all_more P x xs first rest zero d inside = first
all_more P x xs first rest (suc k) d inside = rest k d (omega arith)

small_nibbles : (n w : ℕ) → All (λ c. c ≤ 15) (nibbles n w)
unfolding nibbles
small_nibbles zero w = λ k d inside. absurd (omega arith)
small_nibbles (suc n) w = all_more (λ c. c ≤ 15) (w % 16) (nibbles n (w / 16)) (omega arith) (small_nibbles n (w / 16))

small_counters : (ws : List ℕ) → All (λ c. c ≤ 15) (unpacked ws)
unfolding unpacked
small_counters [] = λ k d inside. absurd (omega arith)
small_counters (w ∷ ws) = All-append (λ c. c ≤ 15) (nibbles 16 w) (unpacked ws) (small_nibbles 16 w) (small_counters ws)

pub is_row : (entries bits : ℕ) (ws : List ℕ) → bits ≡ bits_for entries → 16 * length ws ≡ 2 ^ bits → IsRow entries (unpacked ws)
is_row entries bits ws wide fits = (length-unpacked ws ∙ fits ∙ ap (λ b. 2 ^ b) wide, small_counters ws)
