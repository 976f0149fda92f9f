use Rattle.std.proofs.Common.{◌≡◌, ◌+◌, length, arith}
use Rattle.std.proofs.Math.Seq.{take-length}
use Rattle.std.proofs.lemmas.Str.Parse.{digit_at}
use Rattle.wt_trace.proofs.Numbers.{one_more, too_large, digit_range, no_digit}
use Rattle.wt_trace.proofs.trace.digits.value_of.Goals as goal

pub returns-then-not-is_ascii_digit-clause-none : goal.returns-then-not-is_ascii_digit-clause-none
returns-then-not-is_ascii_digit-clause-none c =
    λ _ all. absurd (no_digit _ _ c.if-not-is_ascii_digit.true c.is_ascii_digit.ensures.value
    (digit_at c.args.digits.now c.loop-b.b-index all (omega arith)))

pub returns-in_err-checked_mul-clause-none : goal.returns-in_err-checked_mul-clause-none
returns-in_err-checked_mul-clause-none c = λ _ _.
    let more = one_more c.args.digits.now c.loop-b.b-index c.loop-b.n
    (omega arith) c.loop-b.invariant.digits c.loop-b.invariant.value
    (digit_range _ _ c.if-not-is_ascii_digit.false c.is_ascii_digit.ensures.value) in
    too_large c.args.digits.now (c.loop-b.b-index + 1) _ (omega (arith, more.1, c.in_err-checked_mul.ensures))

pub returns-in_err-n-clause-none : goal.returns-in_err-n-clause-none
returns-in_err-n-clause-none c = λ _ _.
    let more = one_more c.args.digits.now c.loop-b.b-index c.loop-b.n
    (omega arith) c.loop-b.invariant.digits c.loop-b.invariant.value
    (digit_range _ _ c.if-not-is_ascii_digit.false c.is_ascii_digit.ensures.value) in
    too_large c.args.digits.now (c.loop-b.b-index + 1) _
    (omega (arith, more.1, c.in_err-n.ensures, c.in_ok-checked_mul.ensures, c.from.ensures))

pub loop-b-preserved : goal.loop-b-preserved
loop-b-preserved c =
    let more = one_more c.args.digits.now c.loop-b.b-index c.loop-b.n
    (omega arith) c.loop-b.invariant.digits c.loop-b.invariant.value
    (digit_range _ _ c.if-not-is_ascii_digit.false c.is_ascii_digit.ensures.value) in
    record {
      digits = more.0;
      value =
          omega (arith, more.1, c.in_ok-n.ensures, c.in_ok-checked_mul.ensures, c.from.ensures);
      fits =
          omega (arith, c.in_ok-n.ensures);
    }

pub returns-clause-some : goal.returns-clause-some
returns-clause-some c =
    let e : c.loop-b.b-index ≡ length c.args.digits.now = omega arith in
    let i = c.loop-b.invariant in
    let whole = rw (e, take-length) at i.digits in
    let value = rw (e, take-length) at i.value in
    (whole, value, i.fits)
