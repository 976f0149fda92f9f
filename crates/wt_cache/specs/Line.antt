-- The rule of the job line.
use Rattle.std.specs.Prelude.{◌≡◌, ◌⊎◌, ℕ, ◌+◌, ◌<◌, ◌≤◌, List, [], ◌∷◌, ◌++◌, length, drop, map, eqb, ltb, cond, Option, MatchOption, Result, MatchResult}
use mathlib.Core.Option.{some}
use lib.ListN.{get_elem?}
use Rattle.wt_cache.specs.declared.line_view.LineView.{LineView}
use Rattle.wt_flights.specs.Outcomes.{Leading}
use Rattle.wt_keys.specs.declared.fault.Fault.{Fault}
use Rattle.wt_keys.specs.declared.fault.Fault.TheVariants.{LineFull, LineClosed}

module _ {K : Type 0} where
  -- a job's name: its lead's id and key
  abbrev pub name : Leading K → ℕ × K
  name l = (l.id, l.key)

  -- what a line pass put and what it took, as pairs of a number and a name
  abbrev pub line_view : List (ℕ × (ℕ × K)) → List (ℕ × (ℕ × K)) → LineView K
  line_view puts takes = record { puts = puts; takes = takes }

  -- a pass put one load more, of this lead's name
  abbrev pub HasPutOne : Leading K → LineView K → LineView K → Type 0
  HasPutOne lead old new = (n : ℕ) × (new ≡ line_view (old.puts ++ (n, name lead) ∷ []) old.takes)

  -- a pass took one load more, of this lead's name
  abbrev pub HasTakenOne : Leading K → LineView K → LineView K → Type 0
  HasTakenOne lead old new = (n : ℕ) × (new ≡ line_view old.puts (old.takes ++ (n, name lead) ∷ []))

  -- a put by this pass: of this load, or of none, and then what is handed back has this lead
  abbrev pub IsPut : {T E : Type 0} → Result T E → (E → Leading K) → Leading K → LineView K → LineView K → Type 0
  IsPut result lead_of lead old new = MatchResult result (λ _. HasPutOne lead old new) (λ back. (lead_of back ≡ lead) × (new ≡ old))

  -- a take by this pass: of this load, or of none
  abbrev pub IsTake : Option (Leading K) → LineView K → LineView K → Type 0
  IsTake taken old new = MatchOption taken (new ≡ old) (λ lead. HasTakenOne lead old new)

  -- how often a number stands in pairs
  abbrev pub times : ℕ → List (ℕ × (ℕ × K)) → ℕ
  times i [] = 0
  times i (p ∷ ps) = cond (eqb i p.0) 1 0 + times i ps

  -- a number of each line pass, added up
  abbrev pub total : (LineView K → ℕ) → List (LineView K) → ℕ
  total f [] = 0
  total f (v ∷ vs) = f v + total f vs

  -- each pair has the name that stands at its number
  abbrev pub AllNamed : List (ℕ × K) → List (ℕ × (ℕ × K)) → Type 0
  AllNamed log ps = (j : ℕ) (p : ℕ × (ℕ × K)) → get_elem? ps j ≡ some p → get_elem? log p.0 ≡ some p.1

-- no line is made with `capacity` places: it has 1 to 4,096
abbrev pub IsNoCapacity : ℕ → Type 0
IsNoCapacity capacity = (capacity < 1) ⊎ (4096 < capacity)

-- why a load isn't put into the line: that is full, or closed
abbrev pub IsPostFault : Fault → Type 0
IsPostFault f = (f ≡ LineFull) ⊎ (f ≡ LineClosed)

-- 1 for each number below n, and else 0
abbrev pub once_below : ℕ → ℕ → ℕ
once_below i n = cond (ltb i n) 1 0

-- the rule of the line: the names of the puts stand in the log, in the order of their numbers. Those from `taken` on are in the line. Over
-- all passes the numbers of the puts are those below the length of the log, each once, and those of the takes the ones below `taken`
pub record Numbered {K : Type 0} (items : List (Leading K)) (views : List (LineView K)) : Type 0 where
  pub log : List (ℕ × K)
  pub taken : ℕ
  pub within : taken ≤ length log
  pub line : drop taken log ≡ map name items
  pub puts_once : (i : ℕ) → total (λ v. times i v.puts) views ≡ once_below i (length log)
  pub takes_once : (i : ℕ) → total (λ v. times i v.takes) views ≡ once_below i taken
  pub puts_named : (pass : ℕ) (v : LineView K) → get_elem? views pass ≡ some v → AllNamed log v.puts
  pub takes_named : (pass : ℕ) (v : LineView K) → get_elem? views pass ≡ some v → AllNamed log v.takes
