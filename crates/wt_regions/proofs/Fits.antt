-- Limits in which no field is out of its range.
use Rattle.std.proofs.Common.{◌≡◌, ℕ, ◌≤◌, Bool, true, false, cond, ◌||◌, Option, Some, None, arith, rules, refl}
use Rattle.std.specs.Prelude.{nat_lt}
use Rattle.wt_keys.specs.declared.fault.Field.{Field}
use Rattle.wt_keys.specs.declared.fault.Field.TheVariants.{Entries, Window, Bound}
use Rattle.wt_regions.specs.declared.caps.Caps.{Caps}
use Rattle.wt_regions.specs.Lawful.{IsFit, caps_fault}

not_under : (a b : ℕ) → nat_lt a b ≡ false → b ≤ a
not_under a b h = search (rules, arith)

neither : (a b : Bool) (f : Field) (rest : Option Field) → cond (a || b) (Some f) rest ≡ None → (a ≡ false) × (b ≡ false) × (rest ≡ None)
neither true b f rest h = cc
neither false true f rest h = cc
neither false false f rest h = (refl, refl, h)

pub fit_of : (c : Caps) → caps_fault c ≡ None → IsFit c
fit_of c h =
    let e = neither (nat_lt c.entries 1) (nat_lt 65536 c.entries) Entries _ h in
    let w = neither (nat_lt c.window 1) (nat_lt c.entries c.window) Window _ e.2 in
    let b = neither (nat_lt c.bound 1) (nat_lt 281474976710656 c.bound) Bound _ w.2 in
    record {
      some_window = not_under c.window 1 w.0;
      window = not_under c.entries c.window w.1;
      entries = not_under 65536 c.entries e.1;
      bound = not_under 281474976710656 c.bound b.1;
    }
