-- A key's current load was opened behind the write that forgot the one before it.
use Rattle.std.proofs.Common.{◌≡◌, ℕ, Bool, true, false, cond, not, ◌&&◌, List, [], ◌∷◌, ◌++◌, Option, Some, None, refl, sym, ap, subst, ◌∙◌, append_assoc, append-nil}
use Rattle.std.specs.Prelude.{◌==◌}
use Rattle.std.specs.List.{AllByRecursion}
use Rattle.std.specs.Option.{option_map, option_map_or}
use Rattle.std.proofs.lemmas.Bool.{eqb-true, eq-eqb}
use Rattle.wt_keys.specs.declared.fault.Fault.{Fault}
use Rattle.wt_regions.specs.declared.touch.Found.{Found}
use Rattle.wt_regions.specs.declared.touch.Found.TheVariants as found
use Rattle.wt_regions.specs.declared.weighs.Measure.{Measure}
use Rattle.wt_flights.specs.declared.row.Row.{Row}
use Rattle.wt_flights.specs.Rows.{Flights, begun, current_of, current_row, forgotten, forgotten_all, is_current, landed, not_current, one_more, row_of}
use Rattle.wt_core.specs.declared.calls.Call.{Call}
use Rattle.wt_core.specs.declared.calls.Call.TheVariants.{Look, Seek, Land, Put, DropKey, Clear, Forget, Clean, Slide}
use Rattle.wt_core.specs.declared.calls.Land.TheVariants as land
use Rattle.wt_core.specs.declared.calls.Reply.TheVariants.{Hit, HitLead, Join, Lead, Kept, Loose, Gone}
use Rattle.wt_core.specs.declared.config.Config.{Config}
use Rattle.wt_core.specs.Laws.{is_lead}
use Rattle.wt_core.specs.Run.{taken_if}
use Rattle.wt_core.specs.Seek.{met, refreshes}
use Rattle.wt_core.specs.Stale.{makes_stale}
use Rattle.wt_core.specs.State.{Made, State, found as found_in, made, stepped, with_flights, with_load}
use Rattle.wt_core.specs.Step.{is_kept, landing, own_expired, refusal_of, sought, step, storing}
use Rattle.wt_core.proofs.Occurrences.{each-filter, each-map, each-push, each-weaker, find-all, find-passes}
use Rattle.wt_shards.specs.Brought.{IsBroughtBy, IsLedIn, IsLoadedIn, IsStoredReply}
use Rattle.wt_shards.specs.Fresh.{JoinsOnly}
use Rattle.wt_shards.specs.History.{state_after}
use Rattle.wt_shards.proofs.Numbers.{flights_after, step-to}
use Rattle.wt_shards.proofs.Served.{state-next}

both_true : (a b : Bool) → a && b ≡ true → (a ≡ true) × (b ≡ true)
both_true true b h = (refl, h)
both_true false b h = absurd (cc)

not_both : (a b : Bool) → a && b ≡ false → a ≡ true → b ≡ true → ⊥
not_both true b h p q = cc
not_both false b h p q = cc

of_all : {X : Type 0} (P : X → Type 0) → ((x : X) → P x) → (xs : List X) → AllByRecursion P xs
of_all P all [] = tt
of_all P all (x ∷ xs) = (all x, of_all P all xs)

-- ---- a write forgets the key's load
module _ {K : Type 0} (eq : K → K → Bool) (k : K) where
  -- the row isn't the key's current one
  abbrev pub IsOut : Row K → Type 0
  IsOut r = r.current ≡ true → eq k r.key ≡ true → ⊥

  out_now : (r : Row K) (b : Bool) → is_current eq k r ≡ b → IsOut (cond b (not_current r) r)
  out_now r true e now is = cc
  out_now r false e now is = not_both r.current (eq k r.key) e now is

  out-forgotten : (t : Flights K) → AllByRecursion IsOut (forgotten eq k t).rows
  out-forgotten t = each-map (λ (r : Row K). Unit {0}) IsOut (λ r. cond (is_current eq k r) (not_current r) r)
      (λ r u. out_now r (is_current eq k r) refl) t.rows (of_all (λ (r : Row K). Unit {0}) (λ r. tt) t.rows)

  out-forgotten_all : (t : Flights K) → AllByRecursion IsOut (forgotten_all t).rows
  out-forgotten_all t = each-map (λ (r : Row K). Unit {0}) IsOut not_current (λ r u now is. cc) t.rows
      (of_all (λ (r : Row K). Unit {0}) (λ r. tt) t.rows)

module _ {K V : Type 0} (eq : K → K → Bool) (same : (a b : K) → eq a b ≡ true → a ≡ b) (word : K → ℕ) (measure : V → Measure) where
  pub write-forgets : (k : K) (s : State K V) (c : Call K V) → makes_stale eq k c ≡ true
      → AllByRecursion (IsOut eq k) (step eq word measure s c).state.flights.rows
  write-forgets k s (Look j now) is = absurd (cc)
  write-forgets k s (Seek j now) is = absurd (cc)
  write-forgets k s (Land id j what now) is = absurd (cc)
  write-forgets k s (Put j v now) is =
      subst (λ (x : K). AllByRecursion (IsOut eq k) (forgotten eq x s.flights).rows) (same k j is) (out-forgotten eq k s.flights)
  write-forgets k s (DropKey j now) is =
      subst (λ (x : K). AllByRecursion (IsOut eq k) (forgotten eq x s.flights).rows) (same k j is) (out-forgotten eq k s.flights)
  write-forgets k s (Clear now) is = out-forgotten_all eq k s.flights
  write-forgets k s (Forget j now) is =
      subst (λ (x : K). AllByRecursion (IsOut eq k) (forgotten eq x s.flights).rows) (same k j is) (out-forgotten eq k s.flights)
  write-forgets k s (Clean now) is = absurd (cc)
  write-forgets k s (Slide wider now) is = absurd (cc)

  module _ (s : State K V) (id : ℕ) (k : K) (v : V) (now : ℕ) where
    abbrev left : State K V
    left = with_flights (landed id s.flights) (stepped now s)

    kept_if : (row : Row K) (b : Bool) → is_kept measure row v left ≡ b
        → IsStoredReply (cond b (made (with_load left) (storing eq word measure k v left) (Kept row.sharers))
        (made (with_load left) (own_expired eq k left) (Loose row.sharers))).reply
        → row.current ≡ true
    kept_if row true e stored = (both_true row.current _ e).0
    kept_if row false e stored = absurd stored

    at_row : (o : Option (Row K)) → row_of eq k id s.flights ≡ o
        → IsStoredReply (option_map_or (λ row. landing eq word measure k row (land.Keep v) left) o
        (made (stepped now s) (own_expired eq k (stepped now s)) Gone)).reply
        → (row : Row K) × (row_of eq k id s.flights ≡ Some row) × (row.current ≡ true)
    at_row None is stored = absurd stored
    at_row (Some row) is stored = (row, is, kept_if row (is_kept measure row v left) refl stored)

    -- a landing that is stored is of a row that is current
    pub stored-current : IsStoredReply (step eq word measure s (Land id k (land.Keep v) now)).reply
        → (row : Row K) × (row_of eq k id s.flights ≡ Some row) × (row.current ≡ true)
    stored-current stored = at_row (row_of eq k id s.flights) refl stored

  -- ---- what is current behind `base` was opened behind it
  module _ (config : Config) (base : List (Call K V)) (k : K) where
    abbrev pub at : List (Call K V) → State K V
    at before = state_after eq word measure config (base ++ before)

    abbrev pub Leads : List (Call K V) → ℕ → Type 0
    Leads before id = IsLedIn eq word measure config base before k id

    -- if the row is the key's current one, its load was opened by one of these calls
    abbrev pub IsOpened : List (Call K V) → Row K → Type 0
    IsOpened before r = r.current ≡ true → eq k r.key ≡ true → Leads before r.id

    -- the key's current load, if there is one, was opened by one of these calls
    abbrev pub AllOpened : List (Call K V) → Type 0
    AllOpened before = AllByRecursion (IsOpened before) (at before).flights.rows

    module _ (before : List (Call K V)) (c : Call K V) where
      abbrev next : List (Call K V)
      next = before ++ c ∷ []

      led-later : (id : ℕ) → Leads before id → Leads next id
      led-later id h = record {
        before = h.before;
        moment = h.moment;
        after = h.after ++ c ∷ [];
        place = ap (λ w. w ++ c ∷ []) h.place ∙ append_assoc h.before (Seek k h.moment ∷ h.after) (c ∷ []);
        allowed = h.allowed;
        leads = h.leads;
      }

      opened-later : (rs : List (Row K)) → AllByRecursion (IsOpened before) rs → AllByRecursion (IsOpened next) rs
      opened-later rs h = each-weaker (IsOpened before) (IsOpened next) (λ r one now is. led-later r.id (one now is)) rs h

      more : (b : Bool) (r : Row K) → IsOpened next r → IsOpened next (cond b (one_more r) r)
      more true r h now is = h now is
      more false r h now is = h now is

      less : (b : Bool) (r : Row K) → IsOpened next r → IsOpened next (cond b (not_current r) r)
      less true r h now is = absurd (cc)
      less false r h now is = h now is

      forgets : (j : K) (t : Flights K) → AllByRecursion (IsOpened next) t.rows → AllByRecursion (IsOpened next) (forgotten eq j t).rows
      forgets j t h = each-map (IsOpened next) (IsOpened next) (λ r. cond (is_current eq j r) (not_current r) r)
          (λ r. less (is_current eq j r) r) t.rows h

      lands : (id : ℕ) (t : Flights K) (o : Option (Row K)) → AllByRecursion (IsOpened next) t.rows
          → AllByRecursion (IsOpened next) (option_map_or (λ row. landed id t) o t).rows
      lands id t None h = h
      lands id t (Some row) h = each-filter (λ (r : Row K). not (r.id == id)) (IsOpened next) t.rows h

      -- the call opens this load for the key
      abbrev Opens : State K V → K → Made K V → Type 0
      Opens s j m = is_lead s.flights.next m.reply ≡ true → eq k j ≡ true → Leads next s.flights.next

      begins : (s : State K V) (j : K) → (eq k j ≡ true → Leads next s.flights.next)
          → AllByRecursion (IsOpened next) s.flights.rows → AllByRecursion (IsOpened next) (begun j s.flights).rows
      begins s j new h = each-push (IsOpened next) s.flights.rows
          (record { id = s.flights.next; key = j; current = true; sharers = 1 }) h (λ now is. new is)

      module _ (s : State K V) (j : K) (now : ℕ) (h : AllByRecursion (IsOpened next) s.flights.rows) where
        own : s.flights.next == s.flights.next ≡ true
        own = eq-eqb s.flights.next s.flights.next refl

        seek-hits : (v : V) (b : Bool) → Opens s j (sought eq j (cond b (HitLead v s.flights.next) (Hit v)) (stepped now s))
            → AllByRecursion (IsOpened next) (sought eq j (cond b (HitLead v s.flights.next) (Hit v)) (stepped now s)).state.flights.rows
        seek-hits v true new = begins s j (new own) h
        seek-hits v false new = h

        seek-misses : (o : Option ℕ) → Opens s j (sought eq j (option_map_or Join o (Lead s.flights.next)) (stepped now s))
            → AllByRecursion (IsOpened next) (sought eq j (option_map_or Join o (Lead s.flights.next)) (stepped now s)).state.flights.rows
        seek-misses None new = begins s j (new own) h
        seek-misses (Some id) new = each-map (IsOpened next) (IsOpened next) (λ r. cond (is_current eq j r) (one_more r) r)
            (λ r. more (is_current eq j r) r) s.flights.rows h

        seeks : (f : Found V) → Opens s j (sought eq j (met eq j f (stepped now s)) (stepped now s))
            → AllByRecursion (IsOpened next) (sought eq j (met eq j f (stepped now s)) (stepped now s)).state.flights.rows
        seeks (found.Hit v) new = seek-hits v (refreshes eq j (stepped now s)) new
        seeks found.Absent new = seek-misses (current_of eq j s.flights) new
        seeks found.Expired new = seek-misses (current_of eq j s.flights) new

    -- a seek that opens a load stands there
    led-here : (before : List (Call K V)) (j : K) (now id : ℕ) → refusal_of eq word measure (at before) (Seek j now) ≡ None
        → is_lead id (step eq word measure (at before) (Seek j now)).reply ≡ true → eq k j ≡ true → Leads (before ++ Seek j now ∷ []) id
    led-here before j now id allowed leads is =
        subst (λ (x : K). IsLedIn eq word measure config base (before ++ Seek j now ∷ []) x id) (sym (same k j is)) (record {
          before = before;
          moment = now;
          after = [];
          place = refl;
          allowed = allowed;
          leads = leads;
        })

    opened-step : (before : List (Call K V)) (c : Call K V) → refusal_of eq word measure (at before) c ≡ None → AllOpened before
        → AllByRecursion (IsOpened (before ++ c ∷ [])) (step eq word measure (at before) c).state.flights.rows
    opened-step before c allowed h = at_call c allowed
      where
        kept : (c : Call K V) → AllByRecursion (IsOpened (before ++ c ∷ [])) (at before).flights.rows
        kept c = opened-later before c (at before).flights.rows h

        plain : (c : Call K V) → AllByRecursion (IsOpened (before ++ c ∷ [])) (flights_after eq (at before) c).rows
            → AllByRecursion (IsOpened (before ++ c ∷ [])) (step eq word measure (at before) c).state.flights.rows
        plain c there = subst (λ (t : Flights K). AllByRecursion (IsOpened (before ++ c ∷ [])) t.rows)
            (sym (step-to eq word measure (at before) c).flights) there

        at_call : (c : Call K V) → refusal_of eq word measure (at before) c ≡ None
            → AllByRecursion (IsOpened (before ++ c ∷ [])) (step eq word measure (at before) c).state.flights.rows
        at_call (Look j now) allowed = plain (Look j now) (kept (Look j now))
        at_call (Seek j now) allowed = seeks before (Seek j now) (at before) j now (kept (Seek j now))
            (found_in eq j (stepped now (at before)))
            (λ leads is. led-here before j now (at before).flights.next allowed leads is)
        at_call (Land id j what now) allowed = plain (Land id j what now)
            (lands before (Land id j what now) id (at before).flights (row_of eq j id (at before).flights) (kept (Land id j what now)))
        at_call (Put j v now) allowed = forgets before (Put j v now) j (at before).flights (kept (Put j v now))
        at_call (DropKey j now) allowed = forgets before (DropKey j now) j (at before).flights (kept (DropKey j now))
        at_call (Clear now) allowed = each-map (IsOpened (before ++ Clear now ∷ [])) (IsOpened (before ++ Clear now ∷ [])) not_current
            (λ r p now is. absurd (cc)) (at before).flights.rows (kept (Clear now))
        at_call (Forget j now) allowed = forgets before (Forget j now) j (at before).flights (kept (Forget j now))
        at_call (Clean now) allowed = kept (Clean now)
        at_call (Slide wider now) allowed = kept (Slide wider now)

    opened-taken : (before : List (Call K V)) (c : Call K V) (o : Option Fault) → refusal_of eq word measure (at before) c ≡ o
        → AllOpened before → AllByRecursion (IsOpened (before ++ c ∷ [])) (taken_if eq word measure o (at before) c).state.flights.rows
    opened-taken before c (Some fault) is h = opened-later before c (at before).flights.rows h
    opened-taken before c None is h = opened-step before c is h

    opened-next : (before : List (Call K V)) (c : Call K V) → AllOpened before → AllOpened (before ++ c ∷ [])
    opened-next before c h =
        subst (λ (t : State K V). AllByRecursion (IsOpened (before ++ c ∷ [])) t.flights.rows) (sym (state-next eq word measure config base before c))
        (opened-taken before c (refusal_of eq word measure (at before) c) refl h)

    opened-from : (cs before : List (Call K V)) → AllOpened before → AllOpened (before ++ cs)
    opened-from [] before h = subst AllOpened (sym (append-nil before)) h
    opened-from (c ∷ cs) before h = subst AllOpened (append_assoc before (c ∷ []) cs) (opened-from cs (before ++ c ∷ []) (opened-next before c h))

    -- if no load of the key is current behind `base`, then what is current later was opened between
    pub opened-behind : (calls : List (Call K V)) → AllOpened [] → AllOpened calls
    opened-behind calls h = opened-from calls [] h

    -- so a value that is stored was loaded by a load that was opened between
    pub brought-loaded : (before : List (Call K V)) (c : Call K V) (v : V) → AllOpened before
        → IsBroughtBy eq word measure config (base ++ before) c k v → IsLoadedIn eq word measure config base before c
    brought-loaded before (Land id j (land.Keep w) now) v h is =
        let found_row = stored-current (at before) id j w now is.2 in
        let row : Row K = found_row.0 in
        let passes = both_true (row.id == id) (eq j row.key)
        (find-passes (λ (r : Row K). (r.id == id) && eq j r.key) (at before).flights.rows row found_row.1) in
        let key : eq k row.key ≡ true = subst (λ (x : K). eq x row.key ≡ true) is.0 passes.1 in
        let led = find-all (λ (r : Row K). (r.id == id) && eq j r.key) (IsOpened before) (at before).flights.rows row found_row.1 h
        found_row.2 key in
        subst (λ n. IsLedIn eq word measure config base before j n) (eqb-true row.id id passes.0)
        (subst (λ (x : K). IsLedIn eq word measure config base before x row.id) (sym is.0) led)
    brought-loaded before (Land id j land.Loose now) v h is = absurd is
    brought-loaded before (Land id j land.Failed now) v h is = absurd is
    brought-loaded before (Put j w now) v h is = tt
    brought-loaded before (Look j now) v h is = absurd is
    brought-loaded before (Seek j now) v h is = absurd is
    brought-loaded before (DropKey j now) v h is = absurd is
    brought-loaded before (Clear now) v h is = absurd is
    brought-loaded before (Forget j now) v h is = absurd is
    brought-loaded before (Clean now) v h is = absurd is
    brought-loaded before (Slide wider now) v h is = absurd is

    -- and a load that is joined was opened between
    pub joins-opened : (between : List (Call K V)) (now : ℕ) → AllOpened between
        → JoinsOnly (Leads between) (step eq word measure (at between) (Seek k now)).reply
    joins-opened between now h = at_found (found_in eq k (stepped now (at between)))
      where
        at_row : (o : Option (Row K)) → current_row eq k (at between).flights ≡ o
            → JoinsOnly (Leads between)
            (sought eq k (option_map_or Join (option_map (λ (r : Row K). r.id) o) (Lead (at between).flights.next)) (stepped now (at between))).reply
        at_row None is = tt
        at_row (Some row) is =
            let passes = both_true row.current (eq k row.key) (find-passes (is_current eq k) (at between).flights.rows row is) in
            find-all (is_current eq k) (IsOpened between) (at between).flights.rows row is h passes.0 passes.1

        at_hit : (v : V) (b : Bool)
            → JoinsOnly (Leads between) (sought eq k (cond b (HitLead v (at between).flights.next) (Hit v)) (stepped now (at between))).reply
        at_hit v true = tt
        at_hit v false = tt

        at_found : (f : Found V) → JoinsOnly (Leads between) (sought eq k (met eq k f (stepped now (at between))) (stepped now (at between))).reply
        at_found (found.Hit v) = at_hit v (refreshes eq k (stepped now (at between)))
        at_found found.Absent = at_row (current_row eq k (at between).flights) refl
        at_found found.Expired = at_row (current_row eq k (at between).flights) refl
