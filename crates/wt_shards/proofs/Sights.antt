-- What a sight shows.
use Rattle.std.proofs.Common.{◌≡◌, List, Option, None, refl, sym, subst}
use mathlib.Core.List.{IsPrefix}
use Rattle.wt_core.specs.declared.calls.Call.{Call}
use Rattle.wt_shards.specs.Passes.{shown_of}

-- what isn't shown is a beginning of anything
pub none-shown : {K V : Type 0} (shown : Option (List (Call K V))) (seen : List (Call K V)) → shown ≡ None → IsPrefix (shown_of shown) seen
none-shown {K} {V} shown seen none = subst (λ (s : Option (List (Call K V))). IsPrefix (shown_of s) seen) (sym none) (seen, refl)
