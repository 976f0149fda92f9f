-- Names are equal to themselves.
use Rattle.std.proofs.Common.{IsTrue, ℕ, List, nat_eq}
use Rattle.std.specs.Cmp.Lexicographic.{pointwise, nat_list_eq_equiv}

-- a name is equal to itself
pub itself : (name : List ℕ) → IsTrue (pointwise nat_eq name name)
itself name = nat_list_eq_equiv.refl name
