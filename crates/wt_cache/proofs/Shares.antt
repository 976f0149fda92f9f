-- A caller's share of a load: its ticket knows the value, and is of the landing of the load.
use Rattle.std.proofs.Common.{◌≡◌, ℕ, Bool, true, false, List, Option, Some, None, refl, sym, ap, ◌∙◌, subst, inl, inr}
use Rattle.std.specs.Prelude.{Result, Ok, Err, IfOk, IfSome, IsErrAnd, IsSomeAnd}
use Rattle.std.specs.Option.{option_map}
use Rattle.wt_history.specs.Names.{Book}
use Rattle.wt_keys.specs.declared.fault.Fault.{Fault}
use Rattle.wt_flights.specs.Outcomes.{IsSameTicket, Known, Leading, ticket_of}
use Rattle.wt_flights.specs.declared.outcome.Outcome.{Outcome}
use Rattle.wt_flights.specs.declared.outcome.Outcome.TheVariants as outcome
use Rattle.wt_history.specs.Tags.{Known as Tagging}
use Rattle.wt_core.specs.declared.calls.Reply.{Reply}
use Rattle.wt_core.specs.declared.calls.Reply.TheVariants as reply
use Rattle.wt_shards.specs.Landings.{IsLandingOf}
use Rattle.wt_cache.specs.Loads.{IsTold, value_in}
use Rattle.wt_cache.specs.SharedGots.{IsShareOf, Share, SharesBy, share_of, told_by}
use Rattle.wt_cache.specs.declared.cache.get.Led.{Led}
use Rattle.wt_cache.specs.declared.shared_got.LoadShare.{LoadShare}

-- ---- a get that found its value shares no load
pub shares_hit : {V : Type 0} (book : Book) (v : V) (r : Reply V) → r ≡ reply.Hit v → SharesBy book r None
shares_hit {V} book v r is = subst (λ (x : Reply V). SharesBy book x None) (sym is) refl

pub shares_refresh : {V : Type 0} (book : Book) (v : V) (id : ℕ) (r : Reply V) → r ≡ reply.HitLead v id → SharesBy book r None
shares_refresh {V} book v id r is = subst (λ (x : Reply V). SharesBy book x None) (sym is) refl

-- a load that is shared is of the shard whose history this is
pub here_of : {V : Type 0} (book : Book) (r : Reply V) (share : Option Share) → SharesBy book r share → IfSome share (λ s. s.book ≡ book)
here_of {V} book r None h = tt
here_of {V} book (reply.Join id) (Some s) h = (let same : s ≡ record { book = book; id = id } = cc h in ap (λ (x : Share). x.book) same)
here_of {V} book (reply.Lead id) (Some s) h = ap (λ (x : Share). x.book) h
here_of {V} book r (Some s) h = absurd (cc h)

module _ {K V : Type 0} where
  -- what is told of a fault
  pub err_by : (P : Fault → Type 0) (r : Result (Led K V) Fault) → IsErrAnd r P → IsErrAnd (told_by r) P
  err_by P (Ok led) h = h
  err_by P (Err f) h = h

  -- an outcome that told this value
  value_told : (answers : V → K → Bool) (key : K) (v : V) (o : Outcome V) → IsTold answers key (Ok v) o → o ≡ outcome.Value v
  value_told answers key v (outcome.Value w) (inl is) = cc
  value_told answers key v (outcome.Failed code) (inl is) = absurd (cc is)
  value_told answers key v outcome.Abandoned (inl is) = absurd (cc is)
  value_told answers key v o (inr h) = absurd (cc (h.1))

  -- a ticket that told this value knows it
  pub known_told : (answers : V → K → Bool) (key : K) (v : V) (known : Option (Outcome V)) → IsSomeAnd known (IsTold answers key (Ok v))
      → known ≡ Some (outcome.Value v)
  known_told answers key v None h = absurd h
  known_told answers key v (Some o) h = ap (λ (x : Outcome V). Some x) (value_told answers key v o h)

  -- the ticket of a lead that waited
  pub waited_led : (answers : V → K → Bool) (key : K) (v : V) (lead : Leading K) (old new : Known K V) → old ≡ ticket_of lead None
      → IsSameTicket old new → IsSomeAnd new.known (IsTold answers key (Ok v)) → new ≡ ticket_of lead (Some (outcome.Value v))
  waited_led answers key v lead old new of_lead same told =
      same ∙ ap (λ (t : Known K V). record t { known = new.known }) of_lead
      ∙ ap (λ (o : Option (Outcome V)). ticket_of lead o) (known_told answers key v new.known told)

  -- a ticket that is polled, and knew its outcome
  pub polled_led : (lead : Leading K) (o p : Outcome V) (old new : Known K V) → IsSameTicket old new → new.known ≡ old.known
      → old ≡ ticket_of lead (Some o) → p ≡ o → new ≡ ticket_of lead (Some p)
  polled_led lead o p old new same kept of_lead is = same ∙ ap (λ (k : Option (Outcome V)). record old { known = k }) kept ∙ of_lead
      ∙ ap (λ (x : Outcome V). ticket_of lead (Some x)) (sym is)

  -- the ticket of a lead that published
  pub published_led : (lead : Leading K) (o : Outcome V) (ticket : Known K V) (r : Result (Led K V) Fault) → told_by r ≡ value_in o
      → IfOk r (λ led. led.ticket ≡ Some ticket) → ticket ≡ ticket_of lead (Some o)
      → IfOk r (λ led. IfSome led.ticket (λ t. t ≡ ticket_of lead (Some (outcome.Value led.value))))
  published_led lead o ticket (Err f) tells with_ticket of_lead = tt
  published_led lead (outcome.Value v) ticket (Ok led) tells with_ticket of_lead =
      let same : led.value ≡ v = cc tells in
      subst (λ (x : Option (Known K V)). IfSome x (λ t. t ≡ ticket_of lead (Some (outcome.Value led.value)))) (sym with_ticket)
      (of_lead ∙ ap (λ (x : V). ticket_of lead (Some (outcome.Value x))) (sym same))
  published_led lead (outcome.Failed code) ticket (Ok led) tells with_ticket of_lead = absurd (cc tells)
  published_led lead outcome.Abandoned ticket (Ok led) tells with_ticket of_lead = absurd (cc tells)

  -- ---- the share that a get keeps
  module _ (landings : Tagging) where
    abbrev pub with : Known K V → LoadShare K V
    with t = record { ticket = t; landings = landings }

    pub joined_share : (answers : V → K → Bool) (key : K) (v : V) (old new : Known K V) → IsLandingOf landings.tags old.id old.landing
        → IsSameTicket old new → IsSomeAnd new.known (IsTold answers key (Ok v)) → IsShareOf v (with new)
    joined_share answers key v old new own same told = (
      subst (λ (t : Known K V). IsLandingOf landings.tags t.id t.landing) (sym same) own,
      known_told answers key v new.known told,
    )

    pub led_share : (lead : Leading K) (v : V) (ticket : Known K V) (o : Option (Known K V)) → IsLandingOf landings.tags ticket.id ticket.landing
        → ticket ≡ ticket_of lead None → IfSome o (λ t. t ≡ ticket_of lead (Some (outcome.Value v))) → IfSome o (λ t. IsShareOf v (with t))
    led_share lead v ticket None own of_lead known = tt
    led_share lead v ticket (Some t) own of_lead known =
        subst (λ (x : Known K V). IsShareOf v (with x)) (sym known)
        (subst (λ (x : Known K V). IsLandingOf landings.tags x.id x.landing) of_lead own, refl)

    -- ---- and what it shares
    pub shares_join : (book : Book) (old new : Known K V) (r : Reply V) → r ≡ reply.Join old.id → landings.book ≡ book
        → IsSameTicket old new → SharesBy book r (Some (share_of (with new)))
    shares_join book old new r is here same =
        subst (λ (x : Reply V). SharesBy book x (Some (share_of (with new)))) (sym is)
        (ap (λ (b : Book). Some (record { book = b; id = new.id })) here
        ∙ ap (λ (t : Known K V). Some (record { book = book; id = t.id })) same)

    shares_if : (book : Book) (lead : Leading K) (v : V) (o : Option (Known K V)) → landings.book ≡ book
        → IfSome o (λ t. t ≡ ticket_of lead (Some (outcome.Value v)))
        → IfSome (option_map (λ t. share_of (with t)) o) (λ s. s ≡ record { book = book; id = lead.id })
    shares_if book lead v None here known = tt
    shares_if book lead v (Some t) here known =
        ap (λ (b : Book). record { book = b; id = t.id }) here ∙ ap (λ (x : Known K V). record { book = book; id = x.id }) known

    pub shares_lead : (book : Book) (lead : Leading K) (v : V) (o : Option (Known K V)) (r : Reply V) → r ≡ reply.Lead lead.id
        → landings.book ≡ book → IfSome o (λ t. t ≡ ticket_of lead (Some (outcome.Value v)))
        → SharesBy book r (option_map (λ t. share_of (with t)) o)
    shares_lead book lead v o r is here known =
        subst (λ (x : Reply V). SharesBy book x (option_map (λ t. share_of (with t)) o)) (sym is) (shares_if book lead v o here known)
