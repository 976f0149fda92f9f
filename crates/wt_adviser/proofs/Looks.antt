-- A small cache that misses.
use Rattle.std.proofs.Common.{◌≡◌, ℕ, Bool, false, refl, sym, ap, ◌∙◌}
use Rattle.wt_sketch.specs.Sketch.{Counters}
use Rattle.wt_regions.specs.declared.touch.Found.{Found}
use Rattle.wt_regions.specs.declared.touch.Found.TheVariants as found
use Rattle.wt_regions.specs.Lists.{Lists, found_at, is_hit}
use Rattle.wt_regions.specs.Moves.{storing}
use Rattle.wt_adviser.specs.declared.mark.Mark.{Mark}
use Rattle.wt_adviser.specs.Small.{looked, looked_by, mark, mark_measure}

module _ {K : Type 0} (eq : K → K → Bool) (word : K → ℕ) (s : Counters) (k : K) (r : Lists K Mark) where
  missed-by : (f : Found Mark) → is_hit f ≡ false → (storing word s k eq mark_measure mark 0 0 r).0 ≡ looked_by eq word s k f r
  missed-by (found.Hit m) h = absurd (cc)
  missed-by found.Absent h = refl
  missed-by found.Expired h = refl

  -- what isn't found is stored
  pub missed-stored : (f : Found Mark) → f ≡ found_at eq k 0 r → is_hit f ≡ false
      → (storing word s k eq mark_measure mark 0 0 r).0 ≡ looked eq word s k r
  missed-stored f is h = missed-by (found_at eq k 0 r) (ap is_hit (sym is) ∙ h)
