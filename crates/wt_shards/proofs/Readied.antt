-- A call of a shard where some of the records that have to go for it have gone already.
use Rattle.std.proofs.Common.{◌≡◌, ℕ, zero, suc, ◌+◌, ◌≤◌, Bool, List, [], ◌∷◌, take, drop, length, Option, Some, None, Result, Ok, Err, inl, inr, refl, sym, ap, ◌∙◌, arith, subst}
use Rattle.std.specs.Prelude.{◌⊎◌, IfOk, OnErr, MatchOption}
use Rattle.std.proofs.lemmas.List.{length-drop}
use Rattle.std.proofs.Math.Seq.{take-add}
use Rattle.wt_keys.specs.declared.fault.Fault.{Fault}
use Rattle.wt_flights.specs.Outcomes.{Leading}
use Rattle.wt_regions.specs.Notices.{NoticeList}
use Rattle.wt_regions.specs.declared.weighs.Measure.{Measure}
use Rattle.wt_core.specs.declared.calls.Call.{Call}
use Rattle.wt_core.specs.declared.calls.Reply.{Reply}
use Rattle.wt_core.specs.State.{State}
use Rattle.wt_core.specs.Run.{run}
use Rattle.wt_core.specs.Step.{refusal_of}
use Rattle.wt_shards.specs.declared.shade.Shade.{Shade}
use Rattle.wt_shards.specs.Audited.{Audited, IsCaughtUp, IsReadied, excess, moved, recorded, shard_step}
use Rattle.wt_shards.specs.Contract.{IsShardCall, Owned, owned}
use Rattle.wt_shards.specs.Counts.{ShardCounts}
use Rattle.wt_shards.specs.Members.{Members}
use Rattle.wt_shards.specs.Outline.{shade_measure}
use Rattle.wt_shards.proofs.Runs.{run-append}

drop-none : {X : Type 0} (n : ℕ) → drop {A = X} n [] ≡ []
drop-none zero = refl
drop-none (suc n) = refl

drop-add : {X : Type 0} (n m : ℕ) (xs : List X) → drop m (drop n xs) ≡ drop (n + m) xs
drop-add zero m xs = let same : m ≡ 0 + m = omega arith in ap (λ k. drop k xs) same
drop-add (suc n) m [] = drop-none m ∙ sym (drop-none (suc n + m))
drop-add (suc n) m (x ∷ xs) = let one : suc (n + m) ≡ suc n + m = omega arith in drop-add n m xs ∙ ap (λ k. drop k (x ∷ xs)) one

if-ok : {A E : Type 0} {P Q : A → Type 0} (r : Result A E) → ((x : A) → P x → Q x) → IfOk r P → IfOk r Q
if-ok (Ok x) f p = f x p
if-ok (Err e) f p = tt

on-err : {A E P Q : Type 0} (r : Result A E) → (P → Q) → OnErr r P → OnErr r Q
on-err (Ok x) f p = tt
on-err (Err e) f p = f p

unrefused : {A : Type 0} (X : Type 0) (P Q : A → Type 0) (o : Option A) → o ≡ None → MatchOption o X P → MatchOption o X Q
unrefused X P Q None none m = m
unrefused X P Q (Some a) none m = absurd (cc)

module _ {K V : Type 0} (eq : K → K → Bool) (word : K → ℕ) (measure : V → Measure) where
  pub moved-moved : (n m : ℕ) (s : Audited K V) → moved eq word measure m (moved eq word measure n s) ≡ moved eq word measure (n + m) s
  moved-moved n m s =
      let lagging : run eq word shade_measure (run eq word shade_measure s.lagging (take n s.records)) (take m (drop n s.records))
      ≡ run eq word shade_measure s.lagging (take (n + m) s.records) =
      sym (run-append eq word shade_measure s.lagging (take n s.records) (take m (drop n s.records)))
      ∙ ap (run eq word shade_measure s.lagging) (sym (take-add n m s.records)) in
      λ i. record s { lagging = lagging i; records = drop-add n m s.records i }

  module _ (c : Call K V) (n : ℕ) (s : Audited K V) (few : n ≤ excess eq word measure c s) (there : n ≤ length s.records) where
    left-over : n + excess eq word measure c (moved eq word measure n s) ≡ excess eq word measure c s
    left-over = omega (arith, few, there, length-drop n s.records)

    step-behind : (new : List (Leading K)) → shard_step eq word measure c new (moved eq word measure n s) ≡ shard_step eq word measure c new s
    step-behind new = ap (recorded eq word measure c new)
        (moved-moved n (excess eq word measure c (moved eq word measure n s)) s ∙ ap (λ k. moved eq word measure k s) left-over)

    caught-behind : (t : Audited K V) → IsCaughtUp eq word measure c (moved eq word measure n s) t → IsCaughtUp eq word measure c s t
    caught-behind t up = let least = up.1 in (n + up.0, omega (arith, least, left-over), up.2 ∙ moved-moved n up.0 s)

module _ {K V R : Type 0} (members : Members K V) (copied : Bool) (entries : ℕ) (c : Call K V) (to_reply : R → Reply V)
    (opens : R → List (Leading K)) (counts : ShardCounts) (list : NoticeList K V) (new : Owned K V) (result : Result R Fault) where
  abbrev IsCall : Audited K V → Type 0
  IsCall s = IsShardCall members copied entries c to_reply opens (owned s counts list) new result

  behind : (old : Audited K V) (n : ℕ) → n ≤ excess members.eq members.word members.measure c old → n ≤ length old.records
      → refusal_of members.eq members.word members.measure old.core c ≡ None
      → IsCall (moved members.eq members.word members.measure n old) → IsCall old
  behind old n few there allowed call = record {
    state = if-ok result (λ r is. is ∙ step-behind members.eq members.word members.measure c n old few there (opens r)) call.state;
    answer = call.answer;
    notices = call.notices;
    moved = call.moved;
    later = call.later;
    allowed = call.allowed;
    refusal = unrefused _ _ _ (refusal_of members.eq members.word members.measure old.core c) allowed call.refusal;
    faults = call.faults;
    none_succeeds = λ ok takes alone none. call.none_succeeds ok takes alone
        (omega (arith, none, left-over members.eq members.word members.measure c n old few there));
    told = call.told;
    err = on-err result (λ left. (caught-behind members.eq members.word members.measure c n old few there new.shard left.0, left.1, left.2)) call.err;
  }

  -- the call as it is from where the records hadn't gone, if the state doesn't refuse it or none has
  pub call-behind : (old mid : Audited K V) → IsReadied members.eq members.word members.measure c old mid
      → (mid ≡ old) ⊎ (refusal_of members.eq members.word members.measure old.core c ≡ None) → IsCall mid → IsCall old
  call-behind old mid readied (inl still) call = subst IsCall still call
  call-behind old mid readied (inr allowed) call = behind old readied.0 readied.1 readied.2 allowed (subst IsCall readied.3 call)
