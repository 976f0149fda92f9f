use Rattle.std.proofs.Common.{◌≡◌, ◌^◌, ◌≤◌, replicate, arith, ap, ◌∙◌}
use Rattle.wt_keys.specs.Hash.{bits_for}
use Rattle.wt_sketch.specs.Nibbles.{unpacked}
use Rattle.wt_sketch.proofs.Packed.{zero_row}
use Rattle.wt_sketch.proofs.sketch.Sketch.new.Goals as goal

pub invariant_of-result : goal.invariant_of-result
invariant_of-result c =
    let low : 6 ≤ c.bits_for-bits.result = omega arith in
    let high : c.bits_for-bits.result ≤ 16 = omega arith in
    record {
      range = (omega arith, omega arith);
      wide = c.bits_for-bits.ensures.value;
      bits_range = (low, high);
      young = omega arith;
      in_0 = (zero_row _ _ low high (c.in_ok-vec.ensures.items_if_clones_equal (λ y e. e))).0;
      in_1 = (zero_row _ _ low high (c.in_ok-vec-2.ensures.items_if_clones_equal (λ y e. e))).0;
      in_2 = (zero_row _ _ low high (c.in_ok-vec-3.ensures.items_if_clones_equal (λ y e. e))).0;
      in_3 = (zero_row _ _ low high (c.in_ok-vec-4.ensures.items_if_clones_equal (λ y e. e))).0;
    }

pub returns-clause-ok : goal.returns-clause-ok
returns-clause-ok c =
    let low : 6 ≤ c.bits_for-bits.result = omega arith in
    let high : c.bits_for-bits.result ≤ 16 = omega arith in
    let width : replicate (2 ^ c.bits_for-bits.result) 0 ≡ replicate (2 ^ bits_for c.args.entries) 0 =
    ap (λ b. replicate (2 ^ b) 0) c.bits_for-bits.ensures.value in
    let row_0 : unpacked c.in_ok-vec.field-0.items ≡ replicate (2 ^ bits_for c.args.entries) 0 =
    (zero_row _ _ low high (c.in_ok-vec.ensures.items_if_clones_equal (λ y e. e))).1 ∙ width in
    let row_1 : unpacked c.in_ok-vec-2.field-0.items ≡ replicate (2 ^ bits_for c.args.entries) 0 =
    (zero_row _ _ low high (c.in_ok-vec-2.ensures.items_if_clones_equal (λ y e. e))).1 ∙ width in
    let row_2 : unpacked c.in_ok-vec-3.field-0.items ≡ replicate (2 ^ bits_for c.args.entries) 0 =
    (zero_row _ _ low high (c.in_ok-vec-3.ensures.items_if_clones_equal (λ y e. e))).1 ∙ width in
    let row_3 : unpacked c.in_ok-vec-4.field-0.items ≡ replicate (2 ^ bits_for c.args.entries) 0 =
    (zero_row _ _ low high (c.in_ok-vec-4.ensures.items_if_clones_equal (λ y e. e))).1 ∙ width in
    rw (row_0, row_1, row_2, row_3)
