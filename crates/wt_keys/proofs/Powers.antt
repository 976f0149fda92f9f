-- Powers of two, for places and widths.
use Rattle.std.proofs.Common.{◌≡◌, ℕ, zero, suc, ◌+◌, ◌-◌, ◌*◌, ◌/◌, ◌^◌, ◌<◌, ◌≤◌, false, nat_le, true, refl, sym, ap, ◌∙◌, arith}
use lib.Pow.{pow-add}
use Rattle.std.proofs.Math.Nat.{div-lt_iff_lt-mul, pow-le-pow_right}
use Rattle.wt_keys.specs.Hash.{bits_from, bits_for}

-- the highest k bits of 64
pub highest : (x k : ℕ) → k ≤ 64 → x < 2 ^ 64 → x / 2 ^ (64 - k) < 2 ^ k
highest x k h below =
    let whole : k + (64 - k) ≡ 64 = omega arith in
    let split : 2 ^ k * 2 ^ (64 - k) ≡ 2 ^ 64 = sym (pow-add 2 k (64 - k)) ∙ ap (λ n. 2 ^ n) whole in
    let positive : 0 < 2 ^ (64 - k) = omega (arith, pow-le-pow_right {n = 2} (omega arith) {i = 0} {j = 64 - k} (omega arith)) in
    (div-lt_iff_lt-mul positive).1 (rw split below)

pub powers_rise : (i j : ℕ) → i ≤ j → 2 ^ i ≤ 2 ^ j
powers_rise i j h = pow-le-pow_right {n = 2} (omega arith) h

pub next_bits : (n b entries : ℕ) → nat_le entries (2 ^ b) ≡ false → bits_from (suc n) b entries ≡ bits_from n (b + 1) entries
unfolding bits_from
next_bits n b entries f = rw f refl

pub found_bits : (n b entries : ℕ) → nat_le entries (2 ^ b) ≡ true → bits_from n b entries ≡ b
unfolding bits_from
found_bits zero b entries f = refl
found_bits (suc n) b entries f = rw f refl

pub from_six : (entries : ℕ) → bits_from 10 6 entries ≡ bits_for entries
unfolding bits_for
from_six entries = refl
