-- What options in their ranges are.
use Rattle.std.proofs.Common.{◌≡◌, ◌<◌, ◌≤◌, None, Some, Option, Bool, true, false, not, if◌then◌else◌, arith, refl}
use Rattle.std.proofs.lemmas.Bool.Decides.{nat_tests}
use Rattle.wt_regions.specs.Lawful.{is_zero}
use Rattle.wt_keys.specs.declared.fault.Field.{Field}
use Rattle.wt_keys.specs.declared.fault.Field.TheVariants.{Shards, Entries, Window, Bound, Modulus, AfterWrite, AfterAccess, Refresh, FailMod, Flights}
use Rattle.wt_trace.specs.Options.{option_fault, later_fault, ring_of, window_of, is_outside, is_shard_count}
use Rattle.wt_trace.specs.declared.options.Options.{Options}

-- where no fault is told, none of a later test is
otherwise : (b : Bool) (f : Field) (rest : Option Field) → (if b then Some f else rest) ≡ None → rest ≡ None
otherwise true f rest none = absurd (cc)
otherwise false f rest none = none

-- a field that isn't told is in its range
in_range : (b : Bool) (f : Field) (rest : Option Field) → (if b then Some f else rest) ≡ None → b ≡ false
in_range true f rest none = absurd (cc)
in_range false f rest none = refl

-- what is left of the tests from the modulus on
from_modulus : (o : Options) → option_fault o ≡ None
    → (if is_outside 1 1000000 o.modulus then Some Modulus else if is_zero o.write then Some AfterWrite else if
    is_zero o.access then Some AfterAccess else if is_zero o.refresh then Some Refresh else if is_zero
    o.fail_mod then Some FailMod else later_fault o) ≡ None
from_modulus o none =
    let a = otherwise (not (is_shard_count o.shards)) Shards _ none in
    let b = otherwise (is_outside 1 65536 o.entries) Entries _ a in
    let c = otherwise (is_outside 1 o.entries (window_of o)) Window _ b in
    otherwise (is_outside 1 281474976710656 o.weight) Bound _ c

-- and from the divisor of failing keys on
from_divisor : (o : Options) → option_fault o ≡ None → (if is_zero o.fail_mod then Some FailMod else later_fault o) ≡ None
from_divisor o none =
    let e = otherwise (is_outside 1 1000000 o.modulus) Modulus _ (from_modulus o none) in
    let f = otherwise (is_zero o.write) AfterWrite _ e in
    let g = otherwise (is_zero o.access) AfterAccess _ f in
    otherwise (is_zero o.refresh) Refresh _ g

pub later_none : (o : Options) → option_fault o ≡ None → later_fault o ≡ None
later_none o none = otherwise (is_zero o.fail_mod) FailMod (later_fault o) (from_divisor o none)

pub modulus_fits : (o : Options) → option_fault o ≡ None → (0 < o.modulus) × (o.modulus ≤ 1000000)
modulus_fits o none =
    let is = in_range (is_outside 1 1000000 o.modulus) Modulus _ (from_modulus o none) in
    (grind (arith, nat_tests, is), grind (arith, nat_tests, is))

pub divisor_fits : (o : Options) → option_fault o ≡ None → is_zero o.fail_mod ≡ false
divisor_fits o none = in_range (is_zero o.fail_mod) FailMod (later_fault o) (from_divisor o none)

pub entries_few : (o : Options) → option_fault o ≡ None → o.entries ≤ 65536
entries_few o none =
    let is = in_range (is_outside 1 65536 o.entries) Entries _ (otherwise (not (is_shard_count o.shards)) Shards _ none) in
    grind (arith, nat_tests, is)

pub flights_few : (o : Options) → option_fault o ≡ None → o.flights ≤ 4096
flights_few o none = let is = in_range (is_outside 1 4096 o.flights) Flights _ (later_none o none) in grind (arith, nat_tests, is)

pub ring_few : (o : Options) → option_fault o ≡ None → ring_of o ≤ 65536
ring_few o none = let later = later_none o none in grind (arith, nat_tests)

pub shards_few : (o : Options) → option_fault o ≡ None → o.shards ≤ 4
shards_few o none = let is = in_range (not (is_shard_count o.shards)) Shards _ none in grind (arith, nat_tests)
