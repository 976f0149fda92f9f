-- A call at the end of the history, and what its caller sees of it.
use Rattle.std.proofs.Common.{◌≡◌, ◌≤◌, ℕ, ◌+◌, Bool, List, [], ◌∷◌, ◌++◌, length, Option, Some, None, is_some, IfSome, IsSome, Result, Ok, Err, refl, ap, sym, subst, ◌∙◌, arith, length-append}
use mathlib.Core.List.{IsPrefix}
use Rattle.wt_regions.specs.declared.notices.Notice.{Notice}
use Rattle.wt_regions.specs.declared.weighs.Measure.{Measure}
use Rattle.wt_core.specs.declared.calls.Call.{Call}
use Rattle.wt_core.specs.declared.calls.Reply.{Reply}
use Rattle.wt_core.specs.Landings.{TakesNone}
use Rattle.wt_core.specs.Lawful.{IsLawful}
use Rattle.wt_core.specs.Run.{run, taken}
use Rattle.wt_core.specs.State.{State, opening}
use Rattle.wt_core.specs.Step.{refusal_of}
use Rattle.wt_history.specs.Logged.{Logged}
use Rattle.wt_shared.specs.declared.kept.Kept.{Kept}
use Rattle.wt_shared.specs.declared.known.Known.{Known}
use Rattle.wt_shared.specs.declared.unmade.Unmade.{Unmade}
use Rattle.wt_shared.specs.declared.unmade.Unmade.TheVariants.{Busy, NoMemory, Lost}
use Rattle.wt_shared.specs.Shared.{Adds, Becomes, IsAdded, IsKept, IsPlaced, left_by, state_after, with_call}

module _ {K V : Type 0} (eq : K → K → Bool) (word : K → ℕ) (measure : V → Measure) where
  -- the sequential cache after one call more
  pub run_snoc : (s : State K V) (calls : List (Call K V)) (c : Call K V)
      → run eq word measure s (calls ++ c ∷ []) ≡ (taken eq word measure (run eq word measure s calls) c).state
  run_snoc s [] c = refl
  run_snoc s (b ∷ more) c = run_snoc (taken eq word measure s b).state more c

  module _ (copied : Bool) where
    -- a call that was made is the last of the history
    pub added-one : (known : Known K V) (call : Call K V) (old new : Kept K V) (reply : Reply V) → IsKept eq word measure known old
        → new.core ≡ (taken eq word measure old.core call).state → reply ≡ (taken eq word measure old.core call).reply
        → new.notices.list ≡ (taken eq word measure old.core call).notices
        → known.config.entries ≤ new.notices.room + length new.notices.list
        → new.core.regions.caps.entries ≡ old.core.regions.caps.entries
        → new.log.entries ≡ old.log.entries ++ call ∷ [] → new.log.book ≡ old.log.book → new.count ≡ old.count + 1
        → IsPrefix known.seen.entries old.log.entries → IsLawful eq measure old.core
        → IsAdded eq word measure copied known call old new (Some reply)
    added-one known call old new reply kept core told left room caps calls book count before lawful = record {
      kept = record {
        book = book ∙ kept.book;
        count = omega (arith, count, kept.count, ap length calls, length-append old.log.entries (call ∷ []));
        state = core ∙ ap (λ (s : State K V). (taken eq word measure s call).state) kept.state
            ∙ sym (run_snoc (opening known.config) old.log.entries call)
            ∙ ap (state_after eq word measure known.config) (sym calls);
        entries = caps ∙ kept.entries;
        room = room;
      };
      before = before;
      calls = calls;
      answer = told;
      left = left;
      refusal = λ refused. refl;
      memory = λ free. refl;
      lawful = lawful;
    }

    -- what is added stands in the history of its caller
    placed : (known known' : Known K V) (n n' : ℕ) (left left' : List (Notice K V)) (call : Call K V) (old new : Kept K V) (reply : Option (Reply V))
        → IsKept eq word measure known old → IsAdded eq word measure copied known call old new reply
        → known'.config ≡ known.config → known'.seen ≡ new.log → n' ≡ new.count → left' ≡ new.notices.list
        → IsPlaced eq word measure copied call (record { known = known; number = n; left = left }) (record { known = known'; number = n'; left = left' }) reply
    placed known known' n n' left left' call old new reply kept added config seen count is =
        let between = added.before.0 in
        let calls = known.seen.entries ++ between in
        let at : old.core ≡ state_after eq word measure known.config calls =
        kept.state ∙ ap (state_after eq word measure known.config) (sym added.before.1) in
        record {
          between = between;
          calls = ap (λ (t : Logged (Call K V)). t.entries) seen ∙ added.calls
              ∙ ap (λ (w : List (Call K V)). with_call (is_some reply) w call) (sym added.before.1);
          number = count ∙ added.kept.count ∙ ap (λ (t : Logged (Call K V)). length t.entries) (sym seen);
          answer = subst (λ (s : State K V). IfSome reply (λ r. r ≡ (taken eq word measure s call).reply)) at added.answer;
          left = is ∙ added.left ∙ ap (λ (s : State K V). left_by (is_some reply) (taken eq word measure s call)) at;
          refusal = subst (λ (s : State K V). IsSome (refusal_of eq word measure s call) → IsSome reply) at added.refusal;
          memory = subst (λ (s : State K V). TakesNone copied eq measure s call → IsSome reply) at added.memory;
          lawful = subst (IsLawful eq measure) at added.lawful;
          config = config;
          book = ap (λ (t : Logged (Call K V)). t.book) seen ∙ added.kept.book;
        }

    -- the same, by what the step returned
    pub becomes : (known known' : Known K V) (n n' : ℕ) (left left' : List (Notice K V)) (call : Call K V) (old new : Kept K V) (made : Result (Reply V) Unmade)
        → IsKept eq word measure known old → Adds eq word measure copied made known call old new
        → known'.config ≡ known.config → known'.seen ≡ new.log → n' ≡ new.count → left' ≡ new.notices.list
        → Becomes eq word measure copied made call (record { known = known; number = n; left = left }) (record { known = known'; number = n'; left = left' })
    becomes known known' n n' left left' call old new (Ok reply) kept added config seen count is =
        placed known known' n n' left left' call old new (Some reply) kept added config seen count is
    becomes known known' n n' left left' call old new (Err NoMemory) kept added config seen count is =
        placed known known' n n' left left' call old new None kept added config seen count is
    becomes known known' n n' left left' call old new (Err Busy) kept added config seen count is = absurd added
    becomes known known' n n' left left' call old new (Err Lost) kept added config seen count is = tt
