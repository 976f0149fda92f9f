-- Why a call ended.
use Rattle.std.proofs.Common.{◌≡◌, ℕ, Bool, false, List, [], ◌∷◌, length, arith, Option, Result, Ok, Err, IfErr, inl, sym, subst, refl}
use Rattle.std.specs.Prelude.{Vec}
use Rattle.std.specs.Result.{IsErrAnd}
use Rattle.wt_keys.specs.declared.fault.Fault.TheVariants.{NoMemory}
use Rattle.wt_trace.specs.Answers.{ShardAnswers}
use Rattle.wt_trace.specs.Contract.{AreOfShards, IsOfShard, IsPartOf}
use Rattle.wt_trace.specs.Keys.{Keys}
use Rattle.wt_trace.specs.Stops.{IsStop, AreAsked}
use Rattle.wt_trace.specs.declared.options.Options.{Options}
use Rattle.wt_trace.specs.declared.trace.line.Act.{Act}
use Rattle.wt_trace.specs.declared.trace.line.Line.{Line}
use Rattle.wt_trace.specs.declared.fault.ReplayFault.{ReplayFault}
use Rattle.wt_trace.specs.declared.fault.ReplayFault.TheVariants.{Cache}

module _ {X : Type 0} (P : ReplayFault → Type 0) where
  -- what holds of a fault holds of the one that is passed on
  pub passed_on : (r : Result X ReplayFault) (e : ReplayFault) → IsErrAnd r (λ x. x ≡ e) → P e → IfErr r P
  passed_on (Ok x) e is holds = tt
  passed_on (Err x) e is holds = subst P (sym is) holds

-- no memory is a stop
pub no_memory : {X : Type 0} (stops : ℕ → Type 0) (r : Result X ReplayFault) → IsErrAnd r (λ x. x ≡ Cache NoMemory) → IfErr r (IsStop stops)
no_memory stops r is = passed_on (IsStop stops) r (Cache NoMemory) is (inl refl)

module _ {K : Type 0} (keys : Keys K) (o : Options) (gate : ℕ → Bool → Type 0) (first : ℕ) (lines : List (Line K)) where
  -- a shard that stops keeps its promise
  pub stopped : (shard : ℕ) (r : Result ShardAnswers ReplayFault) (e : ReplayFault) → IsErrAnd r (λ x. x ≡ e) → IsStop (λ n. gate n false) e
      → IsOfShard keys o gate first lines shard r
  stopped shard (Ok x) e is holds = absurd is
  stopped shard (Err x) e is holds = record { answers = tt; asked = tt; err = subst (IsStop (λ n. gate n false)) (sym is) holds }

  -- so does a thread
  pub stopped_part : (threads t : ℕ) (r : Result (List (Option ShardAnswers)) ReplayFault) (e : ReplayFault) → IsErrAnd r (λ x. x ≡ e)
      → IsStop (λ n. gate n false) e → IsPartOf keys o gate first lines threads t r
  stopped_part threads t (Ok x) e is holds = absurd is
  stopped_part threads t (Err x) e is holds = record { answers = tt; err = subst (IsStop (λ n. gate n false)) (sym is) holds; asked = tt }

  -- and so do all of them
  pub stopped_all : {Z : Type 0} (r : Result (Vec ShardAnswers Z) ReplayFault) (e : ReplayFault) → IsErrAnd r (λ x. x ≡ e)
      → IsStop (λ n. gate n false) e → AreOfShards keys o gate first lines r
  stopped_all (Ok x) e is holds = absurd is
  stopped_all (Err x) e is holds = record { answers = tt; asked = tt; err = subst (IsStop (λ n. gate n false)) (sym is) holds }

-- of no line nothing was to be asked
pub none_left : {K : Type 0} (belongs : Act K → Bool) (passed : ℕ → Type 0) (n : ℕ) (ls : List (Line K)) → length ls ≡ 0
    → AreAsked belongs passed n ls
none_left belongs passed n [] none = tt
none_left belongs passed n (l ∷ ls) none = absurd (omega arith)
