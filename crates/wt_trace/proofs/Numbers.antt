-- What is and isn't a number.
use Rattle.std.proofs.Common.{◌≡◌, ℕ, ◌+◌, ◌-◌, ◌*◌, ◌<◌, ◌≤◌, ◌^◌, List, length, Option, Some, None, IfSome, IsNone, Bool, true, false, take, get_or, arith, rules, sym, refl}
use Rattle.std.proofs.lemmas.Str.Parse.{IsNumeralModel, numerals_by_value, tells_all_ascii_digits, digits_value-take-le}
use Rattle.std.proofs.lemmas.Str.{digit_value_digit}
use Rattle.std.proofs.lemmas.Int.Digits.{digits_more, digits_value_more}
use Rattle.std.proofs.lemmas.Bool.Decides.{nat_tests}
use Rattle.std.specs.Str.{all_ascii_digits}
use Rattle.std.specs.Int.{IsInRange}
use Rattle.std.specs.Char.{is_ascii_digit}
use Rattle.std.specs.Str.Parse.{digits_value, AllDigits}
use Rattle.wt_trace.specs.Keys.{number_of}

own : IsNumeralModel (λ ds. all_ascii_digits ds ≡ true) (digits_value 10)
own = numerals_by_value _ tells_all_ascii_digits

-- one digit more
pub one_more : (ds : List ℕ) (i n : ℕ) → i < length ds → AllDigits 10 (take i ds)
    → n ≡ digits_value 10 (take i ds) → IsInRange 48 57 (get_or ds i 0) → AllDigits 10 (take (i + 1) ds)
    × (n * 10 + (get_or ds i 0 - 48) ≡ digits_value 10 (take (i + 1) ds))
one_more ds i n lt all is range =
    let d = digit_value_digit (get_or ds i 0) range in
    (digits_more 10 ds i lt all (omega (arith, range)), omega (arith, digits_value_more 10 ds i lt))

-- what is too large already stays so
pub too_large : (ds : List ℕ) (i m : ℕ) → m ≤ digits_value 10 (take i ds) → m ≤ digits_value 10 ds
too_large ds i m h = omega (arith, digits_value-take-le 10 ds i (omega arith))

-- the number from the value
pub number_some : (ds : List ℕ) (n : ℕ) → 0 < length ds → length ds ≤ 20 → AllDigits 10 ds
    → n ≡ digits_value 10 ds → n < 2 ^ 64 → number_of ds ≡ Some n
number_some ds n some few all is fits = let e = own.from ds all in grind (arith, nat_tests)

pub number_none : (ds : List ℕ) → (AllDigits 10 ds → 2 ^ 64 ≤ digits_value 10 ds) → number_of ds ≡ None
number_none ds large = elim (all_ascii_digits ds) as (λ b. all_ascii_digits ds ≡ b → number_of ds ≡ None) [
  | true ↦ λ e. let l = large (own.to ds e) in grind (arith, nat_tests)
  | false ↦ λ e. rw e refl
] refl

pub number_is : (ds : List ℕ) (o : Option ℕ) → 0 < length ds → length ds ≤ 20
    → IfSome o (λ n. AllDigits 10 ds × (n ≡ digits_value 10 ds) × (n < 2 ^ 64))
    → (IsNone o → AllDigits 10 ds → 2 ^ 64 ≤ digits_value 10 ds) → o ≡ number_of ds
number_is ds None some few is large = sym (number_none ds (large (search rules)))
number_is ds (Some n) some few is large = sym (number_some ds n some few is.0 is.1 is.2)

pub digit_range : (b : ℕ) (t : Bool) → t ≡ true → t ≡ is_ascii_digit b → IsInRange 48 57 b
digit_range b t e is = grind (arith, nat_tests)

pub no_digit : (b : ℕ) (t : Bool) → t ≡ false → t ≡ is_ascii_digit b → IsInRange 48 57 b → ⊥
no_digit b t e is r = grind (arith, nat_tests)
