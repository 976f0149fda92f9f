-- The newest load beside the older ones.
use Rattle.std.specs.Prelude.{◌≡◌, ℕ, ◌+◌, ◌<◌, ◌≤◌, IsTrue, IsNone, IfSome, Bool, List, [], ◌∷◌, ◌++◌, length, Option, Some, None}
use Rattle.wt_flights.specs.declared.row.Row.{Row}
use Rattle.wt_flights.specs.Rows.{Flights, adopted, current_of}

module _ {K : Type 0} where
  -- the rows, with the newest one at the end
  abbrev pub with_newest : Option (Row K) → List (Row K) → List (Row K)
  with_newest None rows = rows
  with_newest (Some r) rows = rows ++ r ∷ []

  -- the older ones after the newest one was moved over to them
  abbrev pub settled : Option (Row K) → Flights K → Flights K
  settled None t = t
  settled (Some r) t = adopted r t

  -- the table of both
  abbrev pub beside : Option (Row K) → ℕ → Flights K → Flights K
  beside newest next older = record { limit = older.limit; next = next; rows = with_newest newest older.rows }

  -- the newest load has the id before the next one, after all older ids, and a place; no older load of its key is current while it is
  pub record IsNewest (eq : K → K → Bool) (next : ℕ) (older : Flights K) (r : Row K) : Type 0 where
    pub last : r.id + 1 ≡ next
    pub after : older.next ≤ r.id
    pub room : length older.rows < older.limit
    pub only : IsTrue r.current → IsNone (current_of eq r.key older)

  -- what holds of the two at all times
  pub record IsBeside (eq : K → K → Bool) (newest : Option (Row K)) (next : ℕ) (older : Flights K) : Type 0 where
    pub below : older.next ≤ next
    pub placed : IfSome newest (IsNewest eq next older)
