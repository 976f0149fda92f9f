-- Passes that move by landings.
use Rattle.std.proofs.Common.{◌≡◌, ℕ, ◌+◌, ◌≤◌, false, List, [], ◌∷◌, ◌++◌, refl, sym, ap, ◌∙◌, arith, length-append}
use Rattle.wt_shards.specs.Passes.{PassCounts, with_step}
use Rattle.wt_cache.specs.Moves.{landed_at, HasLanded}

-- landings after landings
pub landed-append : (is js : List ℕ) (p : PassCounts) → landed_at (is ++ js) p ≡ landed_at js (landed_at is p)
landed-append [] js p = refl
landed-append (i ∷ is) js p = landed-append is js (with_step i false p)

pub landed_none : (n : ℕ) (p : PassCounts) → HasLanded n p p
landed_none n p = record { homes = []; few = omega arith; moved = refl }

pub landed_one : (i n : ℕ) (p q : PassCounts) → q ≡ with_step i false p → 1 ≤ n → HasLanded n p q
landed_one i n p q is le = record { homes = i ∷ []; few = le; moved = is }

pub landed_both : (m n k : ℕ) (p q r : PassCounts) → HasLanded m p q → HasLanded n q r → m + n ≤ k → HasLanded k p r
landed_both m n k p q r a b le = record {
  homes = a.homes ++ b.homes;
  few = (let f = a.few in let g = b.few in omega (arith, f, g, le, length-append a.homes b.homes));
  moved = b.moved ∙ ap (landed_at b.homes) a.moved ∙ sym (landed-append a.homes b.homes p);
}
