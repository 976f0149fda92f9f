use Rattle.std.proofs.Common.{refl}
use Rattle.wt_regions.proofs.caches.Caches.new.Goals as goal

pub invariant_of-result : goal.invariant_of-result
invariant_of-result g c =
    rw (c.in_ok-window.ensures, c.in_ok-probation.ensures, c.in_ok-protected.ensures, c.main_cap.ensures, c.protected_cap.ensures)
    (c.requires, refl, refl, refl)
