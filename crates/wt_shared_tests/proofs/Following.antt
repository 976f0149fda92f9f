-- The number of a call that follows another one.
use Rattle.std.proofs.Common.{◌≡◌, ◌<◌, ℕ, List, [], ◌∷◌, ◌++◌, length, ap, arith, length-append}
use mathlib.Core.List.{IsPrefix}

-- a call behind all those of another caller has a number above theirs
pub follows : {C : Type 0} (theirs seen between mine : List C) (call : C) (n m : ℕ) → n ≡ length theirs → IsPrefix theirs seen
    → mine ≡ (seen ++ between) ++ call ∷ [] → m ≡ length mine → n < m
follows theirs seen between mine call n m count before calls number =
    omega (arith, count, number, ap length before.1, length-append theirs before.0, ap length calls, length-append (seen ++ between) (call ∷ []), length-append seen between)
