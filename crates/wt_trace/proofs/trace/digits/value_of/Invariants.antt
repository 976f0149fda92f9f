use Rattle.std.proofs.Common.{◌≡◌, ◌<◌, ◌^◌, take}
use Rattle.std.specs.Str.Parse.{digits_value, AllDigits}
use Rattle.wt_trace.proofs.trace.digits.value_of.Given as goal

abbrev pub invariant-loop-b : goal.invariant-loop-b
invariant-loop-b l = record {
  digits : AllDigits 10 (take l.b-index l.digits);
  value : l.n ≡ digits_value 10 (take l.b-index l.digits);
  fits : l.n < 2 ^ 64;
}
