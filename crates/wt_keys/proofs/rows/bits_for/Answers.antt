use Rattle.std.proofs.Common.{◌≡◌, ℕ, suc, ◌+◌, ◌-◌, ◌*◌, ◌^◌, ◌<◌, ◌≤◌, ◌%◌, max, nat_le, true, false, arith, ap, sym, inl, inr, ◌∙◌}
use Rattle.std.proofs.lemmas.Grind.{common_steps}
use Rattle.std.proofs.lemmas.Bool.{cases_lt}
use Rattle.wt_keys.specs.Hash.{bits_from}
use Rattle.wt_keys.proofs.Powers.{powers_rise, next_bits, found_bits, from_six}
use Rattle.wt_keys.proofs.rows.bits_for.Invariants.{IsSeeking}
use Rattle.wt_keys.proofs.rows.bits_for.Goals as goal

wider : (entries b : ℕ) → entries ≤ 65536 → IsSeeking entries b → 1 * 2 ^ b % 4294967296 < entries → IsSeeking entries (b + 1)
wider entries b small was test =
    let fits : 2 ^ b ≤ 2 ^ 16 = powers_rise b 16 was.range.1 in
    let narrow : 2 ^ b < entries = omega arith in
    let below : b < 16 = grind (arith, powers_rise) in
    let no_more : nat_le entries (2 ^ b) ≡ false = grind (arith, common_steps) in
    let same : b + 1 - 1 ≡ b = omega arith in
    let here : 16 - b ≡ suc (16 - (b + 1)) = omega arith in
    record {
      range = (omega arith, omega arith);
      rest = sym (next_bits (16 - (b + 1)) b entries no_more) ∙ ap (λ n. bits_from n b entries) (sym here) ∙ was.rest;
      narrow = λ _. rw (ap (λ n. 2 ^ n) same) narrow;
    }

least : (entries b c : ℕ) → IsSeeking entries b → max 64 entries ≤ 2 ^ c → b ≤ c
least entries b c was wide =
    elim (cases_lt c b) [
      | inr enough ↦ enough
      | inl less ↦
          elim (cases_lt 6 b) [
            | inr first ↦ let low : 2 ^ c ≤ 32 = powers_rise c 5 (omega arith) in absurd (omega arith)
            | inl later ↦
                let before : 2 ^ c ≤ 2 ^ (b - 1) = powers_rise c (b - 1) (omega arith) in
                let narrow : 2 ^ (b - 1) < entries = was.narrow later in
                absurd (omega arith)
          ]
    ]

pub loop-bits-preserved : goal.loop-bits-preserved
loop-bits-preserved c = wider _ _ (omega arith) c.loop-bits.invariant c.loop-bits-test.true

pub returns-clause-least : goal.returns-clause-least
returns-clause-least c = λ b h. least _ _ b c.loop-bits.invariant h

enough : (entries b : ℕ) → IsSeeking entries b → entries ≤ 1 * 2 ^ b % 4294967296 → (entries ≤ 2 ^ b) × (64 ≤ 2 ^ b)
enough entries b was test =
    let fits : 2 ^ b ≤ 2 ^ 16 = powers_rise b 16 was.range.1 in
    let first : 2 ^ 6 ≤ 2 ^ b = powers_rise 6 b was.range.0 in
    (omega arith, omega arith)

pub loop-bits-init : goal.loop-bits-init
loop-bits-init c = record { range = (omega arith, omega arith); rest = from_six _; narrow = λ h. absurd (omega arith) }

pub returns-clause-value : goal.returns-clause-value
returns-clause-value c =
    let h : (c.args.entries ≤ 2 ^ c.loop-bits.bits)
    × (64 ≤ 2 ^ c.loop-bits.bits) = enough _ _ c.loop-bits.invariant c.loop-bits-test.false in
    let t : nat_le c.args.entries (2 ^ c.loop-bits.bits) ≡ true = grind (arith, common_steps) in
    sym (found_bits (16 - c.loop-bits.bits) c.loop-bits.bits c.args.entries t) ∙ c.loop-bits.invariant.rest

pub returns-clause-wide : goal.returns-clause-wide
returns-clause-wide c =
    let h : (c.args.entries ≤ 2 ^ c.loop-bits.bits)
    × (64 ≤ 2 ^ c.loop-bits.bits) = enough _ _ c.loop-bits.invariant c.loop-bits-test.false in
    omega arith
