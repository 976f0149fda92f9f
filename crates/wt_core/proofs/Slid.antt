-- What a slide keeps of the limits, and how many entries there are.
use Rattle.std.proofs.Common.{◌≡◌, Bool, true, false, cond, refl, ap, sym, ◌∙◌, arith}
use Rattle.std.specs.Prelude.{nat_lt}
use Rattle.std.proofs.lemmas.List.Sorted.{length_permutation}
use Rattle.wt_regions.specs.declared.caps.Caps.{Caps}
use Rattle.wt_regions.specs.Lists.{Lists, all_entries}
use Rattle.wt_regions.specs.Slide.{KeepsAllButWindow, narrowed, widened, slid}
use Rattle.wt_regions.proofs.Slides.{slid-moves}
use Rattle.wt_core.proofs.Balance.{size, length-all}

-- limits that stay have kept all but the window's
pub all-kept : (old new : Caps) → new ≡ old → KeepsAllButWindow old new
all-kept old new same = same ∙ ap (λ w. record old { window = w }) (sym (ap (λ (c : Caps). c.window) same))

-- one change after another
pub kept-next : (a b c : Caps) → KeepsAllButWindow a b → KeepsAllButWindow b c → KeepsAllButWindow a c
kept-next a b c one two = two ∙ ap (λ (x : Caps). record x { window = c.window }) one

module _ {K V : Type 0} (r : Lists K V) where
  wider-caps : (x : Bool) → KeepsAllButWindow r.caps (cond x (widened r) r).caps
  wider-caps true = refl
  wider-caps false = refl

  narrower-caps : (x : Bool) → KeepsAllButWindow r.caps (cond x (narrowed r) r).caps
  narrower-caps true = refl
  narrower-caps false = refl

pub slid-caps : {K V : Type 0} (wider : Bool) (r : Lists K V) → KeepsAllButWindow r.caps (slid wider r).caps
slid-caps true r = wider-caps r (nat_lt r.caps.window r.caps.entries)
slid-caps false r = narrower-caps r (nat_lt 1 r.caps.window)

pub slid-size : {K V : Type 0} (wider : Bool) (r : Lists K V) → size (slid wider r) ≡ size r
slid-size wider r =
    let moved = length_permutation (all_entries r) (all_entries (slid wider r)) (slid-moves r wider) in
    omega (arith, moved, length-all r, length-all (slid wider r))
