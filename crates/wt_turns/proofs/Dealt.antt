-- The turns of a thread, a line at a time.
use Rattle.std.proofs.Common.{◌≡◌, ℕ, ◌+◌, ◌-◌, ◌<◌, ◌≤◌, ◌%◌, Bool, true, false, List, [], ◌∷◌, length, get_or, Ok, Err, Result, IsOk, refl, sym, subst, arith}
use Rattle.std.proofs.lemmas.Bool.Decides.{nat_tests}
use Rattle.wt_cache.specs.Cached.{Cached}
use Rattle.wt_turns.specs.Turns.{AreDone, AreTurns, HasHandled, IsDone, IsTurn, is_turn, unmade}
use Rattle.wt_turns.specs.declared.by_turn.turns.RunFault.{RunFault}
use Rattle.wt_trace.specs.Stops.{AreAsked}
use Rattle.wt_trace.specs.Keys.{Keys}
use Rattle.wt_trace.specs.declared.trace.line.Line.{Line}
use Rattle.wt_trace.specs.declared.options.Options.{Options}
use Rattle.wt_shards.specs.Passes.{Seen}
use Rattle.wt_trace.specs.declared.shard.version.Version.{Version}

-- a line of the thread's own
pub own_turn : {P : Type 0} (own : Bool) (passed : Type 0) (acted : P → P → Type 0) (old new : P) → own ≡ true
    → passed → acted old new → IsTurn own passed acted old new
own_turn own passed acted old new is asked done = subst (λ b. IsTurn b passed acted old new) (sym is) (asked, done)

-- another thread's
pub other_turn : {P : Type 0} (own : Bool) (passed : Type 0) (acted : P → P → Type 0) (old : P) → own ≡ false
    → IsTurn own passed acted old old
other_turn own passed acted old is = subst (λ b. IsTurn b passed acted old old) (sym is) refl

module _ {K P : Type 0} (own : ℕ → Bool) (passed : ℕ → Type 0) (acted : ℕ → Line K → P → P → Type 0) (n : ℕ) where
  -- a line before those that are left
  pub turn_before : (line : Line K) (rest after : List (Line K)) (old next : P) → rest ≡ line ∷ after
      → IsTurn (own n) (passed n) (acted n line) old next
      → (end : P) → AreTurns own passed acted (n + 1) after next end → AreTurns own passed acted n rest old end
  turn_before line rest after old next is turn end later =
      subst (λ (ls : List (Line K)). AreTurns own passed acted n ls old end) (sym is) (next, turn, later)

  -- no line is left
  pub no_turn : (rest : List (Line K)) (p : P) → length rest ≡ 0 → AreTurns own passed acted n rest p p
  no_turn [] p none = refl
  no_turn (l ∷ ls) p none = absurd (omega arith)

-- who did a line of its own was let through
let_through : {P : Type 0} (own : Bool) (passed : Type 0) (acted : P → P → Type 0) (old new : P) → own ≡ true
    → IsTurn own passed acted old new → passed
let_through true passed acted old new is (asked, done) = asked
let_through false passed acted old new is turn = absurd (cc)

-- some thread's turns with these lines
abbrev HasTurns : {K P : Type 0} → (ℕ → Bool) → (ℕ → Type 0) → (ℕ → Line K → P → P → Type 0) → ℕ → List (Line K) → Type 0
HasTurns own passed acted n ls = (old : _) × (end : _) × AreTurns own passed acted n ls old end

module _ {K P : Type 0} (threads : ℕ) (passed : ℕ → Type 0) (acted : ℕ → Line K → P → P → Type 0) (some : 1 ≤ threads) where
  -- each line is a thread's, so where all did their turns each was let through
  all_asked : (n : ℕ) (ls : List (Line K)) → 1 ≤ n
      → ((t : ℕ) → t < threads → HasTurns (is_turn threads t) passed acted n ls)
      → AreAsked (λ _. true) passed n ls
  all_asked n [] from turns = tt
  all_asked n (l ∷ ls) from turns =
      let t : ℕ = (n - 1) % threads in
      let here = turns t (omega arith) in
      let own : is_turn threads t n ≡ true = grind (arith, nat_tests) in
      let later : (u : ℕ) → u < threads → HasTurns (is_turn threads u) passed acted (n + 1) ls =
      λ u within. let there = turns u within in (there.2.0, there.1, there.2.2) in (
        (λ _. let_through (is_turn threads t n) (passed n) (acted n l) here.0 here.2.0 own here.2.1),
        all_asked (n + 1) ls (omega arith) later,
      )

-- what a thread handed back that didn't stop
ok_done : {K : Type 0} (keys : Keys K) (o : Options) (c : Cached) (answers : ℕ → Bool → Type 0) (first : ℕ)
    (lines : List (Line K)) (threads t : ℕ) (r : Result (Seen K (Version K)) RunFault)
    → IsOk r → IsDone keys o c answers first lines threads t r
    → HasTurns (is_turn threads t) (λ n. answers n true) (HasHandled keys o c) first lines
ok_done keys o c answers first lines threads t (Ok pass) ok done = (_, pass, done.turns)
ok_done keys o c answers first lines threads t (Err fault) ok done = absurd (cc)

-- where no thread stopped each line was let through
pub done_asked : {K : Type 0} (keys : Keys K) (o : Options) (c : Cached) (answers : ℕ → Bool → Type 0)
    (first : ℕ) (lines : List (Line K)) (threads : ℕ) (ran : List (Result (Seen K (Version K)) RunFault))
    → 1 ≤ first → 1 ≤ threads → AreDone keys o c answers first lines threads ran
    → ((t : ℕ) → t < threads → IsOk (get_or ran t unmade))
    → AreAsked (λ _. true) (λ n. answers n true) first lines
done_asked keys o c answers first lines threads ran from some done ok =
    all_asked threads (λ n. answers n true) (HasHandled keys o c) some first lines from
    (λ t within. ok_done keys o c answers first lines threads t (get_or ran t unmade) (ok t within) (done t within))
