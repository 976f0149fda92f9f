-- A served value was used not too long ago.
use Rattle.std.proofs.Common.{◌≡◌, ℕ, Bool, true, false, cond, List, [], ◌∷◌, ◌++◌, Option, Some, None, inl, inr, refl, sym, subst, ◌∙◌, append_assoc}
use Rattle.std.specs.Prelude.{max, ◌||◌}
use Rattle.std.specs.List.{All}
use Rattle.std.proofs.lemmas.List.Elements.{All-nil}
use Rattle.wt_keys.specs.declared.fault.Fault.{Fault}
use Rattle.wt_regions.specs.declared.caps.Caps.{Caps}
use Rattle.wt_regions.specs.declared.touch.Found.{Found}
use Rattle.wt_regions.specs.declared.touch.Found.TheVariants as found
use Rattle.wt_regions.specs.declared.weighs.Measure.{Measure}
use Rattle.wt_regions.specs.Lists.{Entry, all_entries, gone_by, outlived}
use Rattle.wt_core.specs.declared.calls.Call.{Call}
use Rattle.wt_core.specs.declared.calls.Call.TheVariants.{Look, Seek, Land, Put, DropKey, Clear, Forget, Clean, Slide}
use Rattle.wt_core.specs.declared.calls.Land.TheVariants as land
use Rattle.wt_core.specs.declared.calls.Reply.{Reply}
use Rattle.wt_core.specs.declared.calls.Reply.TheVariants.{Hit, HitLead}
use Rattle.wt_core.specs.declared.config.Config.{Config}
use Rattle.wt_core.specs.State.{State, found as found_in, opening, stepped}
use Rattle.wt_core.specs.Run.{run, taken_if}
use Rattle.wt_core.specs.Seek.{met, refreshes}
use Rattle.wt_core.specs.Step.{looked, refusal_of, sought, step}
use Rattle.wt_core.proofs.StepBounds.{caps-run}
use Rattle.wt_shards.specs.History.{state_after}
use Rattle.wt_shards.specs.Members.{members_by}
use Rattle.wt_shards.specs.Place.{Place}
use Rattle.wt_shards.specs.Served.{HitsOnly}
use Rattle.wt_shards.specs.Used.{FindsUsed, IsHitOf, IsUsedBy, IsUsedLately, ReadsUsed, ServesUsed}
use Rattle.wt_shards.proofs.Entries.{Keeps, first_false, found-there, held-has, kept-step, second_false}
use Rattle.wt_shards.proofs.Served.{found-look, found-seek, moment_of, state-next}
use Rattle.wt_shards.proofs.Shown.{found-only}
use Rattle.wt_shards.proofs.Young.{latest-after, read-at}

module _ {K V : Type 0} (eq : K → K → Bool) (same : (a b : K) → eq a b ≡ true → a ≡ b) (word : K → ℕ) (measure : V → Measure) where
  -- what a look and a seek find they hit
  looked-hit : (s : State K V) (k : K) (v : V) (f : Found V) → f ≡ found.Hit v → IsHitOf v (looked eq k f s).reply
  looked-hit s k v (found.Hit w) is = cc
  looked-hit s k v found.Absent is = cc
  looked-hit s k v found.Expired is = cc

  sought-hit : (s : State K V) (k : K) (v : V) (f : Found V) → f ≡ found.Hit v → IsHitOf v (sought eq k (met eq k f s) s).reply
  sought-hit s k v (found.Hit w) is = let own : w ≡ v = cc in
      elim (refreshes eq k s) as (λ b. IsHitOf v (sought eq k (cond b (HitLead w s.flights.next) (Hit w)) s).reply) [
        | true ↦ own
        | false ↦ own
      ]
  sought-hit s k v found.Absent is = cc
  sought-hit s k v found.Expired is = cc

  module _ (config : Config) where
    abbrev after : List (Call K V) → State K V
    after calls = state_after eq word measure config calls

    module _ (calls : List (Call K V)) where
      -- a call of the history used it, and the latest moment right after that call is this one
      record IsUsedAt (k : K) (v : V) (accessed : ℕ) : Type 0 where
        before : List (Call K V)
        call : Call K V
        behind : List (Call K V)
        place : calls ≡ before ++ call ∷ behind
        allowed : refusal_of eq word measure (after before) call ≡ None
        use_of : IsUsedBy eq word measure config before call k v
        moment : accessed ≡ (after (before ++ call ∷ [])).latest

      abbrev IsUsedEntry : Entry K V → Type 0
      IsUsedEntry e = IsUsedAt e.0 e.1.value e.1.accessed

      -- a call that stores or uses an entry, uses it
      module _ (before : List (Call K V)) (c : Call K V) (behind : List (Call K V)) (place : calls ≡ before ++ c ∷ behind)
          (allowed : refusal_of eq word measure (after before) c ≡ None) where
        used-now : (k : K) (v : V) → IsUsedBy eq word measure config before c k v
            → IsUsedAt k v (max (after before).latest (moment_of c))
        used-now k v use_of = record {
          before = before;
          call = c;
          behind = behind;
          place = place;
          allowed = allowed;
          use_of = use_of;
          moment = latest-after eq same word measure config before c allowed;
        }

      keeps : (before : List (Call K V)) (c : Call K V) (behind : List (Call K V)) → calls ≡ before ++ c ∷ behind
          → refusal_of eq word measure (after before) c ≡ None
          → Keeps IsUsedEntry eq same word measure (after before) c
      keeps before (Look k now) behind place allowed = λ v is e was key value.
          used-now before (Look k now) behind place allowed e.0 e.1.value (inr (
            same k e.0 key,
            subst (λ w. IsHitOf w (step eq word measure (after before) (Look k now)).reply) (sym value)
                (looked-hit (stepped now (after before)) k v (found_in eq k (stepped now (after before))) is),
          ))
      keeps before (Seek k now) behind place allowed = λ v is e was key value.
          used-now before (Seek k now) behind place allowed e.0 e.1.value (inr (
            same k e.0 key,
            subst (λ w. IsHitOf w (step eq word measure (after before) (Seek k now)).reply) (sym value)
                (sought-hit (stepped now (after before)) k v (found_in eq k (stepped now (after before))) is),
          ))
      keeps before (Land id k (land.Keep v) now) behind place allowed = λ stored.
          used-now before (Land id k (land.Keep v) now) behind place allowed k v (inl (refl, refl, stored))
      keeps before (Land id k land.Loose now) behind place allowed = tt
      keeps before (Land id k land.Failed now) behind place allowed = tt
      keeps before (Put k v now) behind place allowed = used-now before (Put k v now) behind place allowed k v (inl (refl, refl))
      keeps before (DropKey k now) behind place allowed = tt
      keeps before (Clear now) behind place allowed = tt
      keeps before (Forget k now) behind place allowed = tt
      keeps before (Clean now) behind place allowed = tt
      keeps before (Slide wider now) behind place allowed = tt

      kept-taken : (s : State K V) (c : Call K V) (o : Option Fault) → refusal_of eq word measure s c ≡ o
          → (refusal_of eq word measure s c ≡ None → Keeps IsUsedEntry eq same word measure s c)
          → All IsUsedEntry (all_entries s.regions)
          → All IsUsedEntry (all_entries (taken_if eq word measure o s c).state.regions)
      kept-taken s c (Some f) is one all = all
      kept-taken s c None is one all = kept-step IsUsedEntry eq same word measure s c (one is) all

      used-from : (before cs : List (Call K V)) → calls ≡ before ++ cs → All IsUsedEntry (all_entries (after before).regions)
          → All IsUsedEntry (all_entries (run eq word measure (after before) cs).regions)
      used-from before [] place all = all
      used-from before (c ∷ cs) place all =
          let next = state-next eq word measure config [] before c in
          subst (λ (t : State K V). All IsUsedEntry (all_entries (run eq word measure t cs).regions)) next
          (used-from (before ++ c ∷ []) cs (place ∙ sym (append_assoc before (c ∷ []) cs))
          (subst (λ (t : State K V). All IsUsedEntry (all_entries t.regions)) (sym next)
          (kept-taken (after before) c (refusal_of eq word measure (after before) c) refl (keeps before c cs place) all)))

      all-used : All IsUsedEntry (all_entries (after calls).regions)
      all-used = used-from [] calls refl (All-nil IsUsedEntry)

      module _ (k : K) (now : ℕ) where
        found-used : (v : V) → found_in eq k (stepped now (after calls)) ≡ found.Hit v
            → IsUsedLately eq word measure config calls k now v
        found-used v is =
            let last : ℕ = max (after calls).latest now in
            let there = found-there eq k last (after calls).regions v is in
            let has : IsUsedAt k there.entry.value there.entry.accessed =
            held-has IsUsedEntry eq same k (after calls).regions there.entry there.held all-used in
            let caps : Caps = (after calls).regions.caps in
            let written : Bool = gone_by caps.after_write there.entry.written last in
            let accessed : Bool = gone_by caps.after_access there.entry.accessed last in
            let lately : accessed ≡ false = second_false written accessed
            (first_false (written || accessed) (outlived there.entry.life there.entry.written last) there.alive) in
            let own : gone_by config.after_access there.entry.accessed last ≡ false =
            subst (λ (c : Caps). gone_by c.after_access there.entry.accessed last ≡ false)
            (caps-run eq word measure (opening config) calls) lately in
            record {
              before = has.before;
              call = has.call;
              after = has.behind;
              place = has.place;
              allowed = has.allowed;
              used = subst (λ w. IsUsedBy eq word measure config has.before has.call k w) there.value has.use_of;
              lately = subst (λ n. gone_by config.after_access n last ≡ false) has.moment own;
            }

    pub serves-used : ServesUsed eq word measure config
    serves-used calls k now = (
      found-look eq same word measure (after calls) k now (IsUsedLately eq word measure config calls k now) (found-used calls k now),
      found-seek eq same word measure (after calls) k now (IsUsedLately eq word measure config calls k now) (found-used calls k now),
    )

  -- a look or a seek that was made hits only what was used not too long ago
  pub reads-used : (answers : V → K → Bool) (p : Place) → ReadsUsed (members_by eq word measure answers) p
  reads-used answers p k now read old new found number before list made at =
      let calls : List (Call K V) = old ++ made.placed.between in
      record {
        calls = calls;
        place = made.placed.place;
        reads = subst (λ (r : Reply V). HitsOnly (IsUsedLately eq word measure p.config calls k now) r) (sym made.replied)
            (read-at eq same word measure (state_after eq word measure p.config calls) k now
            (IsUsedLately eq word measure p.config calls k now) (serves-used p.config calls k now) read at);
      }

  -- a peek finds only what was used not too long ago
  pub finds-used : (answers : V → K → Bool) (p : Place) → FindsUsed (members_by eq word measure answers) p
  finds-used answers p k now old new found peek =
      found-only (IsUsedLately eq word measure p.config new k now) found
      (subst (λ (r : Reply V). HitsOnly (IsUsedLately eq word measure p.config new k now) r) (sym peek.replied)
      (serves-used p.config new k now).0)
