-- What is wrong with a trace that is replayed turn by turn.
use Rattle.std.proofs.Common.{◌≡◌, ℕ, List, Option, None, Some, Result, Ok, Err, IfErr, false, refl, sym, subst}
use Rattle.std.specs.Io.KnownBytes.{Keeps}
use Rattle.std.specs.Option.{option_map, option_or}
use Rattle.std.specs.Result.{IsErrAnd}
use Rattle.wt_turns.specs.ByTurn.{IsTurnFault, Turned, faulty, fault_in, first_open, turn_fault}
use Rattle.wt_trace.specs.Replayed.{Gave, is_config_fault}
use Rattle.wt_trace.specs.Report.{IsVerdict}
use Rattle.wt_trace.specs.Trace.{Trace}
use Rattle.wt_trace.specs.declared.fault.ReplayFault.{ReplayFault}
use Rattle.wt_trace.specs.declared.fault.ReplayFault.TheVariants.{Cache, BadLine, LineTooLong, TooManyLines, ReadFault, WriteFault, GateShut}

-- the fault of a verdict is one of a line
told : (shut : ℕ → Type 0) (f : ReplayFault) → IsVerdict (Err f) → IsTurnFault shut (Some f) f
told shut (BadLine n) is = refl
told shut (LineTooLong n) is = refl
told shut TooManyLines is = refl
told shut (Cache fault) is = absurd is
told shut ReadFault is = absurd is
told shut WriteFault is = absurd is
told shut (GateShut n) is = absurd is

-- where all lines before it may be done, the verdict's fault is what is wrong
pub faulty_verdict : {K : Type 0} (shut : ℕ → Type 0) (n : ℕ) (t : Trace K) (f : ReplayFault)
    → first_open n t.lines ≡ None → t.verdict ≡ Err f → IsVerdict t.verdict → IsTurnFault shut (faulty n t) f
faulty_verdict shut n t f none err is =
    let whole : faulty n t ≡ Some f = λ i. option_or (option_map BadLine (none i)) (fault_in (err i)) in
    subst (λ (w : Option ReplayFault). IsTurnFault shut w f) (sym whole) (told shut f (subst IsVerdict err is))

-- what isn't there
pub not_there : {X : Type 0} (o : Option X) → ((x : X) → o ≡ Some x → ⊥) → o ≡ None
not_there None none = refl
not_there (Some x) none = absurd (none x refl)

module _ (shut : ℕ → Type 0) (bytes : List ℕ) where
  -- a run that ends so wrote nothing, and the fault of a line is what is wrong with the trace
  turned_fault : (r s w x : Option (List ℕ)) → Gave r s bytes → Keeps w x → (f : ReplayFault)
      → IsTurnFault shut (turn_fault bytes) f → Turned r s w x (Err f)
  turned_fault r s w x gave keeps (BadLine n) is = (bytes, gave, is, keeps)
  turned_fault r s w x gave keeps (LineTooLong n) is = (bytes, gave, is, keeps)
  turned_fault r s w x gave keeps TooManyLines is = (bytes, gave, is, keeps)
  turned_fault r s w x gave keeps ReadFault is = absurd is
  turned_fault r s w x gave keeps WriteFault is = absurd is
  turned_fault r s w x gave keeps (Cache fault) is = keeps
  turned_fault r s w x gave keeps (GateShut n) is = keeps

  -- and so where it is passed on
  pub turned_on : (r s w x : Option (List ℕ)) → Gave r s bytes → Keeps w x
      → (o : Result (Unit {0}) ReplayFault) (e : ReplayFault) → IsErrAnd o (λ f. f ≡ e)
      → IsTurnFault shut (turn_fault bytes) e → Turned r s w x o
  turned_on r s w x gave keeps (Ok u) e is holds = absurd is
  turned_on r s w x gave keeps (Err f) e is holds =
      turned_fault r s w x gave keeps f (subst (IsTurnFault shut (turn_fault bytes)) (sym is) holds)

  -- no such fault is one of the options
  no_config : (f : ReplayFault) → IsTurnFault shut (turn_fault bytes) f → is_config_fault f ≡ false
  no_config (BadLine n) is = refl
  no_config (LineTooLong n) is = refl
  no_config TooManyLines is = refl
  no_config ReadFault is = refl
  no_config WriteFault is = refl
  no_config (Cache fault) is = is
  no_config (GateShut n) is = refl

  pub no_config_on : (o : Result (Unit {0}) ReplayFault) (e : ReplayFault) → IsErrAnd o (λ f. f ≡ e)
      → IsTurnFault shut (turn_fault bytes) e → IfErr o (λ f. is_config_fault f ≡ false)
  no_config_on (Ok u) e is holds = tt
  no_config_on (Err f) e is holds = subst (λ g. is_config_fault g ≡ false) (sym is) (no_config e holds)
