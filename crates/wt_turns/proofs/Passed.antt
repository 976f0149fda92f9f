-- That the lines of a trace were let through, passed on.
use Rattle.std.proofs.Common.{◌≡◌, ℕ, Bool, true, List, drop, Result, Ok, Err, OnOk, sym, subst}
use Rattle.wt_trace.specs.Keys.{names}
use Rattle.wt_trace.specs.Stops.{AreAsked}
use Rattle.wt_trace.specs.Trace.{trace_from}
use Rattle.wt_turns.specs.ByTurn.{let_through_by}

-- what holds whatever comes
pub always : {X E A : Type 0} (r : Result X E) → A → OnOk r A
always (Ok x) a = a
always (Err e) a = tt

-- what follows from what holds on success
pub on_ok : {X E A B : Type 0} (r : Result X E) → (A → B) → OnOk r A → OnOk r B
on_ok (Ok x) f a = f a
on_ok (Err e) f a = tt

-- behind a header
pub behind_header : (passed : ℕ → Type 0) (b : Bool) (lines rest : List (List ℕ)) → b ≡ true
    → drop 1 lines ≡ rest → AreAsked (λ _. true) passed 2 (trace_from names.read 2 rest).lines
    → let_through_by b passed lines
behind_header passed b lines rest is behind asked =
    subst (λ c. let_through_by c passed lines) (sym is)
    (subst (λ (ls : List (List ℕ)). AreAsked (λ _. true) passed 2 (trace_from names.read 2 ls).lines)
    (sym behind) asked)
