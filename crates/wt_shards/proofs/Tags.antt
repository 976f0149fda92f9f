-- The tags of a shard's history are the landings of the loads that it opened.
use Rattle.std.proofs.Common.{◌≡◌, ℕ, ◌+◌, Bool, true, false, cond, List, [], ◌∷◌, ◌++◌, length, Option, Some, None, slice_get, refl, sym, ap, subst, ◌∙◌, append-nil, length-append, true≢false, arith}
use Rattle.std.specs.Prelude.{◌==◌, IsSomeAnd}
use Rattle.std.specs.List.{AllByRecursion, find}
use Rattle.std.specs.Option.{option_map_or, option_to_list}
use mathlib.Core.List.{IsPrefix}
use Rattle.circular_buffer.proofs.Places.{slice_get-last}
use Rattle.wt_regions.specs.declared.touch.Found.{Found}
use Rattle.wt_regions.specs.declared.touch.Found.TheVariants as found
use Rattle.wt_regions.specs.declared.weighs.Measure.{Measure}
use Rattle.wt_flights.specs.declared.row.Row.{Row}
use Rattle.wt_flights.specs.Outcomes.{Known, Leading, ticket_of}
use Rattle.wt_flights.specs.Rows.{Flights, current_of, landed, row_of}
use Rattle.wt_core.specs.declared.calls.Call.{Call}
use Rattle.wt_core.specs.declared.calls.Call.TheVariants.{Look, Seek, Land, Put, DropKey, Clear, Forget, Clean, Slide}
use Rattle.wt_core.specs.declared.calls.Reply.{Reply}
use Rattle.wt_core.specs.declared.calls.Reply.TheVariants as reply
use Rattle.wt_core.specs.State.{State, found as found_in, stepped}
use Rattle.wt_core.specs.Seek.{met, refreshes, seek_reply}
use Rattle.wt_core.specs.Step.{step}
use Rattle.wt_core.proofs.Occurrences.{each-filter, each-push, each-weaker, find-all}
use Rattle.wt_history.proofs.Fronts.{prefix_get}
use Rattle.wt_shards.specs.Asked.{is_seek}
use Rattle.wt_shards.specs.Audited.{still_open}
use Rattle.wt_shards.specs.Landings.{AreTagged, IsLandingOf, IsOfItsLoad, tag_of}
use Rattle.wt_shards.specs.Sought.{IsKept, IsLedBy, IsOfLandings, opened_by, reply_of}
use Rattle.wt_shards.specs.declared.sought.Sought.{Sought}
use Rattle.wt_shards.specs.declared.sought.Sought.TheVariants.{Hit, HitLead, Join, Lead}
use Rattle.wt_shards.proofs.Numbers.{flights_after, flights_sought, step-to}
use Rattle.wt_shards.proofs.Seeks.{sought-reply}

-- ---- tags that grow
landing-later : (tags more : List ℕ) (id landing : ℕ) → IsLandingOf tags id landing → IsLandingOf (tags ++ more) id landing
landing-later tags more id landing h = (h.0, h.1, prefix_get tags (tags ++ more) h.0 landing (more, refl) h.2)

landing-last : (tags : List ℕ) (id next landing : ℕ) → length tags + 1 ≡ next → id ≡ next → IsLandingOf (tags ++ landing ∷ []) id landing
landing-last tags id next landing long is = (length tags, is ∙ sym long, slice_get-last tags landing (length tags) refl)

module _ {K : Type 0} where
  all-later : (tags more : List ℕ) (ls : List (Leading K)) → AllByRecursion (λ (l : Leading K). IsLandingOf tags l.id l.landing) ls
      → AllByRecursion (λ (l : Leading K). IsLandingOf (tags ++ more) l.id l.landing) ls
  all-later tags more ls h = each-weaker (λ (l : Leading K). IsLandingOf tags l.id l.landing)
      (λ (l : Leading K). IsLandingOf (tags ++ more) l.id l.landing) (λ l one. landing-later tags more l.id l.landing one) ls h

  -- one load more is opened
  tagged-opened : (tags : List ℕ) (next : ℕ) (ls : List (Leading K)) (lead : Leading K) → AreTagged tags next ls → lead.id ≡ next
      → AreTagged (tags ++ lead.landing ∷ []) (next + 1) (ls ++ lead ∷ [])
  tagged-opened tags next ls lead h is = (
    (let long = h.0 in let n = length-append tags (lead.landing ∷ []) in omega (arith, long, n)),
    each-push (λ (l : Leading K). IsLandingOf (tags ++ lead.landing ∷ []) l.id l.landing) ls lead
        (all-later tags (lead.landing ∷ []) ls h.1) (landing-last tags lead.id next lead.landing h.0 is),
  )

  -- none is opened
  tagged-same : (tags : List ℕ) (next after : ℕ) (ls : List (Leading K)) → AreTagged tags next ls → after ≡ next
      → AreTagged (tags ++ []) after (ls ++ [])
  tagged-same tags next after ls h is =
      subst (λ (w : List ℕ). AreTagged w after (ls ++ [])) (sym (append-nil tags))
      (subst (λ (w : List (Leading K)). AreTagged tags after w) (sym (append-nil ls)) (h.0 ∙ sym is, h.1))

module _ {K V : Type 0} (eq : K → K → Bool) (word : K → ℕ) (measure : V → Measure) where
  -- ---- a call that isn't a seek
  landed-next : (t : Flights K) (id : ℕ) (o : Option (Row K)) → (option_map_or (λ row. landed id t) o t).next ≡ t.next
  landed-next t id None = refl
  landed-next t id (Some row) = refl

  after-next : (s : State K V) (c : Call K V) → is_seek c ≡ false → (flights_after eq s c).next ≡ s.flights.next
  after-next s (Look k now) plain = refl
  after-next s (Seek k now) plain = absurd (true≢false plain)
  after-next s (Land id k what now) plain = landed-next s.flights id (row_of eq k id s.flights)
  after-next s (Put k v now) plain = refl
  after-next s (DropKey k now) plain = refl
  after-next s (Clear now) plain = refl
  after-next s (Forget k now) plain = refl
  after-next s (Clean now) plain = refl
  after-next s (Slide wider now) plain = refl

  open-tagged : (tags : List ℕ) (c : Call K V) (ls : List (Leading K)) → AllByRecursion (λ (l : Leading K). IsLandingOf tags l.id l.landing) ls
      → AllByRecursion (λ (l : Leading K). IsLandingOf tags l.id l.landing) (still_open eq c ls)
  open-tagged tags (Look k now) ls h = h
  open-tagged tags (Seek k now) ls h = h
  open-tagged tags (Land id k what now) ls h = each-filter _ (λ (l : Leading K). IsLandingOf tags l.id l.landing) ls h
  open-tagged tags (Put k v now) ls h = h
  open-tagged tags (DropKey k now) ls h = h
  open-tagged tags (Clear now) ls h = h
  open-tagged tags (Forget k now) ls h = h
  open-tagged tags (Clean now) ls h = h
  open-tagged tags (Slide wider now) ls h = h

  pub plain-tagged : (s : State K V) (c : Call K V) (tags : List ℕ) (ls : List (Leading K)) → is_seek c ≡ false
      → AreTagged tags s.flights.next ls
      → AreTagged (tags ++ []) (step eq word measure s c).state.flights.next (still_open eq c ls ++ [])
  plain-tagged s c tags ls plain h =
      tagged-same tags s.flights.next _ (still_open eq c ls) (h.0, open-tagged tags c ls h.1)
      (ap (λ (t : Flights K). t.next) (step-to eq word measure s c).flights ∙ after-next s c plain)

  -- ---- a seek
  module _ (k : K) (now : ℕ) (s : State K V) where
    abbrev answer : Reply V
    answer = (step eq word measure s (Seek k now)).reply

    abbrev after : ℕ
    after = (step eq word measure s (Seek k now)).state.flights.next

    -- a load that is opened gets the next id
    abbrev IsNext : Reply V → Type 0
    IsNext (reply.Lead id) = id ≡ s.flights.next
    IsNext (reply.HitLead v id) = id ≡ s.flights.next
    IsNext r = Unit {0}

    miss-next : (o : Option ℕ) → IsNext (option_map_or reply.Join o (reply.Lead s.flights.next))
    miss-next None = refl
    miss-next (Some id) = tt

    hit-next : (v : V) (b : Bool) → IsNext (cond b (reply.HitLead v s.flights.next) (reply.Hit v))
    hit-next v true = refl
    hit-next v false = tt

    met-next : (f : Found V) → IsNext (met eq k f (stepped now s))
    met-next (found.Hit v) = hit-next v (refreshes eq k (stepped now s))
    met-next found.Absent = miss-next (current_of eq k s.flights)
    met-next found.Expired = miss-next (current_of eq k s.flights)

    answer-is : answer ≡ seek_reply eq k (stepped now s)
    answer-is = sought-reply eq k (seek_reply eq k (stepped now s)) (stepped now s)

    answer-next : IsNext answer
    answer-next = subst IsNext (sym answer-is) (met-next (found_in eq k (stepped now s)))

    after-is : (r : Reply V) → r ≡ answer → after ≡ (flights_sought eq k r s.flights).next
    after-is r is = ap (λ (t : Flights K). t.next) (step-to eq word measure s (Seek k now)).flights
        ∙ ap (λ (x : Reply V). (flights_sought eq k x s.flights).next) (sym answer-is ∙ sym is)

    module _ (tags : List ℕ) (ls : List (Leading K)) (h : AreTagged tags s.flights.next ls) where
      pub seek-tagged : (r : Sought K V) → reply_of r ≡ answer
          → AreTagged (tags ++ option_to_list (tag_of r)) after (ls ++ opened_by r)
      seek-tagged (Hit v) is = tagged-same tags s.flights.next after ls h (after-is (reply.Hit v) is)
      seek-tagged (HitLead v lead ticket) is =
          subst (λ (n : ℕ). AreTagged (tags ++ lead.landing ∷ []) n (ls ++ lead ∷ [])) (sym (after-is (reply.HitLead v lead.id) is))
          (tagged-opened tags s.flights.next ls lead h (subst IsNext (sym is) answer-next))
      seek-tagged (Join ticket) is = tagged-same tags s.flights.next after ls h (after-is (reply.Join ticket.id) is)
      seek-tagged (Lead lead ticket) is =
          subst (λ (n : ℕ). AreTagged (tags ++ lead.landing ∷ []) n (ls ++ lead ∷ [])) (sym (after-is (reply.Lead lead.id) is))
          (tagged-opened tags s.flights.next ls lead h (subst IsNext (sym is) answer-next))

      led-shared : (lead : Leading K) (ticket : Known K V) → lead.id ≡ s.flights.next → IsLedBy k now lead ticket
          → IsLandingOf (tags ++ lead.landing ∷ []) ticket.id ticket.landing
      led-shared lead ticket is led =
          subst (λ (t : Known K V). IsLandingOf (tags ++ lead.landing ∷ []) t.id t.landing) (sym led.2)
          (landing-last tags lead.id s.flights.next lead.landing h.0 is)

      joined-shared : (ticket : Known K V) → IsKept k (ls ++ []) ticket → IsLandingOf (tags ++ []) ticket.id ticket.landing
      joined-shared ticket kept = at_found (find (λ (l : Leading K). l.id == ticket.id) ls) refl
          (subst (λ (w : List (Leading K)). IsSomeAnd (find (λ (l : Leading K). l.id == ticket.id) w) (λ l. ticket ≡ ticket_of l None)) (append-nil ls) kept.1)
        where
          at_found : (o : Option (Leading K)) → find (λ (l : Leading K). l.id == ticket.id) ls ≡ o
              → IsSomeAnd o (λ l. ticket ≡ ticket_of l None) → IsLandingOf (tags ++ []) ticket.id ticket.landing
          at_found None is there = absurd there
          at_found (Some l) is there =
              subst (λ (t : Known K V). IsLandingOf (tags ++ []) t.id t.landing) (sym there)
              (landing-later tags [] l.id l.landing
              (find-all (λ (x : Leading K). x.id == ticket.id) (λ (x : Leading K). IsLandingOf tags x.id x.landing) ls l is h.1))

      pub seek-shared : (r : Sought K V) → reply_of r ≡ answer → IsOfLandings k now (ls ++ opened_by r) r
          → IsOfItsLoad (tags ++ option_to_list (tag_of r)) r
      seek-shared (Hit v) is kept = tt
      seek-shared (HitLead v lead ticket) is kept = led-shared lead ticket (subst IsNext (sym is) answer-next) kept
      seek-shared (Join ticket) is kept = joined-shared ticket kept
      seek-shared (Lead lead ticket) is kept = led-shared lead ticket (subst IsNext (sym is) answer-next) kept
