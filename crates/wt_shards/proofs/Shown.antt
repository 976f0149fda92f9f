-- A peek shows the shard's history, and what a look behind it would be answered.
use Rattle.std.proofs.Common.{◌≡◌, ℕ, Bool, true, List, [], ◌∷◌, ◌++◌, length, Option, Some, None, ap, sym, subst, ◌∙◌, arith, append_assoc, length-append}
use Rattle.std.specs.Cmp.{IsEquivalence}
use Rattle.wt_regions.specs.declared.weighs.Measure.{Measure}
use mathlib.Core.List.{IsPrefix}
use Rattle.wt_core.specs.declared.calls.Call.{Call}
use Rattle.wt_core.specs.declared.calls.Call.TheVariants.{Look, Put}
use Rattle.wt_core.specs.declared.calls.Reply.{Reply}
use Rattle.wt_core.specs.State.{State}
use Rattle.wt_core.specs.Peeks.{look_reply}
use Rattle.wt_core.specs.Step.{step}
use Rattle.wt_shards.specs.Asked.{ReplyAnswers}
use Rattle.wt_shards.specs.Brought.{IsFresh}
use Rattle.wt_shards.specs.History.{state_after}
use Rattle.wt_shards.specs.Members.{members_by}
use Rattle.wt_shards.specs.Place.{Place}
use Rattle.wt_shards.specs.Peeks.{FindsOwnPut, FindsYoung, FoundAnswers, FoundOnly, IsPeek}
use Rattle.wt_shards.specs.Served.{HitsOnly, IsBroughtYoung}
use Rattle.wt_shards.specs.StateAt.{IsStateAt}
use Rattle.wt_shards.proofs.Fresh.{reads-own-put}
use Rattle.wt_shards.proofs.Young.{serves-young}

-- what holds of a hit holds of what was found
pub found-only : {V : Type 0} (P : V → Type 0) (found : Option V) → HitsOnly P (look_reply found) → FoundOnly P found
found-only P (Some v) h = h
found-only P None h = tt

module _ {K V : Type 0} where
  -- what may stand for the key as a reply may do so as what was found
  pub found-answers : (answers : V → K → Bool) (k : K) (found : Option V)
      → ReplyAnswers answers k (look_reply found) → FoundAnswers answers k found
  found-answers answers k (Some v) h = h
  found-answers answers k None h = tt

module _ {K V : Type 0} (eq : K → K → Bool) (word : K → ℕ) (measure : V → Measure) (answers : V → K → Bool) (p : Place) where
  -- what was found on the state after all calls, of which the caller had seen a beginning, is found behind them
  pub peek-behind : (k : K) (now : ℕ) (s : State K V) (calls front new : List (Call K V)) (found : Option V)
      → s ≡ state_after eq word measure p.config calls → s.step ≡ length calls
      → IsStateAt (members_by eq word measure answers) p s → IsPrefix front calls → new ≡ calls
      → look_reply found ≡ (step eq word measure s (Look k now)).reply
      → IsPeek (members_by eq word measure answers) p k now front new found
  peek-behind k now s calls front new found is all_made lawful seen shown that =
      let at : s ≡ state_after eq word measure p.config new = is ∙ ap (λ w. state_after eq word measure p.config w) (sym shown) in
      record {
        between = seen.0;
        seen = shown ∙ sym seen.1;
        lawful = subst (IsStateAt (members_by eq word measure answers) p) at lawful;
        all_made = ap (λ (x : State K V). x.step) (sym at) ∙ all_made ∙ ap length (sym shown);
        replied = subst (λ (x : State K V). look_reply found ≡ (step eq word measure x (Look k now)).reply) at that;
      }

  -- a peek behind a put that its caller has seen
  pub finds-own-put : (same : (a b : K) → eq a b ≡ true → a ≡ b) → IsEquivalence eq
      → FindsOwnPut (members_by eq word measure answers) p
  finds-own-put same laws k v now later me mine met last told number b l found put seen peek =
      let before : List (Call K V) = me ++ put.placed.between in
      let between : List (Call K V) = seen.0 ++ peek.between in
      let one : List (Call K V) = Put k v now ∷ [] in
      let start : met ≡ (before ++ one) ++ seen.0 = sym seen.1 ∙ ap (λ w. w ++ seen.0) put.placed.place in
      let whole : last ≡ before ++ Put k v now ∷ between = peek.seen ∙ (ap (λ w. w ++ peek.between) start
      ∙ (append_assoc (before ++ one) seen.0 peek.between ∙ append_assoc before one between)) in
      let law = reads-own-put eq same word measure p.config laws before between k v now later
      put.placed.lawful.lawful.lawful put.placed.allowed in
      let is : (step eq word measure (state_after eq word measure p.config (before ++ Put k v now ∷ between)) (Look k later)).reply
      ≡ look_reply found =
      ap (λ w. (step eq word measure (state_after eq word measure p.config w) (Look k later)).reply) (sym whole) ∙ sym peek.replied in
      record {
        before = before;
        between = between;
        place = whole;
        numbered = omega (arith, put.numbered, ap length put.placed.place, length-append before one);
        reads = found-only (IsFresh eq word measure p.config before (Put k v now) between k) found
            (subst (λ (r : Reply V). HitsOnly (IsFresh eq word measure p.config before (Put k v now) between k) r) is law);
      }

  -- a peek finds only what was brought not too long ago
  pub finds-young : (same : (a b : K) → eq a b ≡ true → a ≡ b) → FindsYoung (members_by eq word measure answers) p
  finds-young same k now old new found peek =
      found-only (IsBroughtYoung eq word measure p.config new k now) found
      (subst (λ (r : Reply V). HitsOnly (IsBroughtYoung eq word measure p.config new k now) r) (sym peek.replied)
      (serves-young eq same word measure p.config new k now).0)
