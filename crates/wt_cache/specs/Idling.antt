-- What is seen of the passes that came back to their lender.
use Rattle.std.specs.Prelude.{◌≡◌, ℕ, ◌+◌, Bool, true, List, [], ◌∷◌, ◌++◌, if◌then◌else◌, Option, MatchOption}
use Rattle.wt_shards.specs.Passes.{Seen}
use Rattle.wt_cache.specs.declared.idle.Loan.{Loan}

-- what is seen of the passes that came back: those that no caller has, how many came back, each counted once, and how many of them are lent again
pub record Idling (K V : Type 0) : Type 0 where
  pub passes : List (Seen K V)
  pub came : ℕ
  pub lent : ℕ

module _ {K V : Type 0} where
  -- no pass came back yet
  abbrev pub none_back : Idling K V
  none_back = record { passes = []; came = 0; lent = 0 }

  -- this pass comes back: it stands behind the others, and is counted, or was before
  abbrev pub IsBack : Bool → Seen K V → Idling K V → Idling K V → Type 0
  IsBack again pass old new =
      (new.passes ≡ old.passes ++ pass ∷ [])
      × (new.came ≡ old.came + (if again then 0 else 1))
      × (new.lent + (if again then 1 else 0) ≡ old.lent)

  -- the last pass is lent again, if there is one, and the loan says so
  abbrev pub IsLentAgain : Option (Seen K V × Loan) → Idling K V → Idling K V → Type 0
  IsLentAgain found old new = MatchOption found (new ≡ old)
      (λ lent. (lent.1.again ≡ true) × IsBack true lent.0 new old)
