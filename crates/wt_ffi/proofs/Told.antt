-- What a step tells, whatever its call: one that succeeded, and one that the state refused.
use Rattle.std.proofs.Common.{◌≡◌, ◌≢◌, ◌-◌, ℕ, [], ◌==◌, Bool, false, if◌then◌else◌, length, Option, Some, None, Result, Ok, Err, is_ok, refl, sym, ap, ◌∙◌, true≢false, arith}
use Rattle.wt_keys.specs.declared.fault.Fault.{Fault}
use Rattle.wt_keys.specs.declared.fault.Fault.TheVariants as fault
use Rattle.wt_ffi.specs.Tokens.{timed_measure}
use Rattle.wt_regions.specs.Notices.{NoticeList, appended, emptied}
use Rattle.wt_core.specs.declared.calls.Call.{Call}
use Rattle.wt_core.specs.declared.calls.Reply.{Reply}
use Rattle.wt_core.specs.declared.calls.Reply.TheVariants.{Hit, Absent, HitLead, Join, Lead, Kept, Loose, Failed, Gone, Stored, Dropped, Cleared, Forgot, Cleaned, Slid, Refused}
use Rattle.wt_core.specs.Contract.{FailsBy}
use Rattle.wt_core.specs.Run.{taken_if}
use Rattle.wt_core.specs.State.{Made}
use Rattle.wt_core.specs.Step.{step, refusal_of}
use Rattle.wt_ffi.specs.declared.answer.Answer.{Answer}
use Rattle.wt_ffi.specs.declared.token.Timed.{Timed}
use Rattle.wt_ffi.specs.Calls.{after, answer_after, answer_of, called, made_of, number_after, number_of, quiet, plain}
use Rattle.wt_ffi.specs.Open.{Open}

-- a call that succeeds wasn't refused
pub unrefused : (o : Option Fault) (reply : Reply Timed) → FailsBy {R = Reply Timed} o (Ok reply) → o ≡ None
unrefused None reply h = refl
unrefused (Some fault) reply h = absurd (true≢false (ap (λ (r : Result (Reply Timed) Fault). is_ok r) h))

-- no answer of a reply has kind 0
pub kind-answer_of : (reply : Reply Timed) (n : ℕ) → ((answer_of reply n).kind == 0) ≡ false
kind-answer_of (Hit v) n = refl
kind-answer_of Absent n = refl
kind-answer_of (HitLead v id) n = refl
kind-answer_of (Join id) n = refl
kind-answer_of (Lead id) n = refl
kind-answer_of (Kept sharers) n = refl
kind-answer_of (Loose sharers) n = refl
kind-answer_of (Failed sharers) n = refl
kind-answer_of Gone n = refl
kind-answer_of Stored n = refl
kind-answer_of (Dropped was) n = refl
kind-answer_of Cleared n = refl
kind-answer_of (Forgot was) n = refl
kind-answer_of Cleaned n = refl
kind-answer_of (Refused f) n = refl
kind-answer_of (Slid moved) n = refl

module _ {K : Type 0} (eq : K → K → Bool) (word : K → ℕ) (call : Call K Timed) (old new : Open K)
    (reply : Reply Timed) (told : Answer) where
  -- what the step makes
  abbrev stepped_of : Made K Timed
  stepped_of = step eq word timed_measure old.core call

  abbrev Unrefused : Type 0
  Unrefused = FailsBy {R = Reply Timed} (refusal_of eq word timed_measure old.core call) (Ok reply)

  -- it is what the call makes
  pub made-step : Unrefused → made_of eq word call old ≡ stepped_of
  made-step un = ap (λ (o : Option Fault). taken_if eq word timed_measure o old.core call) (unrefused _ reply un)

  pub kind-told : (n : ℕ) → told ≡ answer_of reply n → (told.kind == 0) ≡ false
  kind-told n is = ap (λ (a : Answer). a.kind == 0) is ∙ kind-answer_of reply n

  pub state-told : Unrefused → (n : ℕ) → told ≡ answer_of reply n → new.core ≡ stepped_of.state
      → (before : NoticeList K Timed) → before ≡ emptied old.notices
      → new.notices ≡ appended stepped_of.notices before → new ≡ after eq word told.kind call old
  state-told un n is core before none notices =
      (λ i. record { core = core i; notices = (notices ∙ ap (λ (t : NoticeList K Timed). appended stepped_of.notices t) none) i })
      ∙ ap (λ (m : Made K Timed). record { core = m.state; notices = appended m.notices (emptied old.notices) }) (sym (made-step un))
      ∙ ap (λ (b : Bool). if b then quiet old else called eq word call old) (sym (kind-told n is))

  pub number-told : Unrefused → (n : ℕ) → told ≡ answer_of reply n → reply ≡ stepped_of.reply
      → number_of reply ≡ number_after eq word told.kind call old
  number-told un n is replies =
      ap number_of (replies ∙ ap (λ (m : Made K Timed). m.reply) (sym (made-step un)))
      ∙ ap (λ (b : Bool). if b then 1 else number_of (made_of eq word call old).reply) (sym (kind-told n is))

  pub answer-told : Unrefused → (n : ℕ) → told ≡ answer_of reply n → reply ≡ stepped_of.reply
      → n ≡ length stepped_of.notices → told ≡ answer_after eq word told.kind call old
  answer-told un n is replies count =
      is ∙ ap (λ (m : ℕ). answer_of reply m) count ∙ ap (λ (r : Reply Timed). answer_of r (length stepped_of.notices)) replies
      ∙ ap (λ (m : Made K Timed). answer_of m.reply (length m.notices)) (sym (made-step un))
      ∙ ap (λ (b : Bool). if b then plain 0 1 0 else answer_of (made_of eq word call old).reply
      (length (made_of eq word call old).notices)) (sym (kind-told n is))

-- a call that fails for another fault than want of memory was refused for it
pub refused : (o : Option Fault) (f : Fault) → f ≢ fault.NoMemory → FailsBy {R = Reply Timed} o (Err f) → o ≡ Some f
refused None f other h = absurd (other h)
refused (Some g) f other h = cc

-- no notices put behind none take no room
pub appended-none : {K : Type 0} → (t : NoticeList K Timed) → emptied t ≡ appended [] (emptied t)
appended-none t =
    let same : (emptied t).room ≡ (emptied t).room - 0 = omega arith in
    λ i. record { list = []; room = same i }

module _ {K : Type 0} (eq : K → K → Bool) (word : K → ℕ) (call : Call K Timed) (old new : Open K) (f : Fault)
    (told : Answer) (other : f ≢ fault.NoMemory)
    (fails : FailsBy {R = Reply Timed} (refusal_of eq word timed_measure old.core call) (Err f))
    (is : told ≡ answer_of (Refused f) 0) where
  -- what the refused call makes
  abbrev nothing_of : Made K Timed
  nothing_of = record { state = old.core; reply = Refused f; notices = [] }

  pub made-refused : made_of eq word call old ≡ nothing_of
  made-refused = ap (λ (o : Option Fault). taken_if eq word timed_measure o old.core call) (refused _ f other fails)

  pub kind-refused : (told.kind == 0) ≡ false
  kind-refused = ap (λ (a : Answer). a.kind == 0) is ∙ kind-answer_of (Refused f) 0

  pub state-refused : new.core ≡ old.core → new.notices ≡ emptied old.notices → new ≡ after eq word told.kind call old
  state-refused core notices =
      (λ i. record { core = core i; notices = notices i })
      ∙ (λ i. record { core = old.core; notices = appended-none old.notices i })
      ∙ ap (λ (m : Made K Timed). record { core = m.state; notices = appended m.notices (emptied old.notices) }) (sym made-refused)
      ∙ ap (λ (b : Bool). if b then quiet old else called eq word call old) (sym kind-refused)

  pub number-refused : number_of (Refused f) ≡ number_after eq word told.kind call old
  number-refused =
      ap (λ (m : Made K Timed). number_of m.reply) (sym made-refused)
      ∙ ap (λ (b : Bool). if b then 1 else number_of (made_of eq word call old).reply) (sym kind-refused)

  pub answer-refused : told ≡ answer_after eq word told.kind call old
  answer-refused =
      is ∙ ap (λ (m : Made K Timed). answer_of m.reply (length m.notices)) (sym made-refused)
      ∙ ap (λ (b : Bool). if b then plain 0 1 0 else answer_of (made_of eq word call old).reply
      (length (made_of eq word call old).notices)) (sym kind-refused)
