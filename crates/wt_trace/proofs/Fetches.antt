-- A line of letter G leaves no flight of its own open.
use Rattle.std.proofs.Common.{◌≡◌, ℕ, ◌<◌, arith, Bool, true, false, List, [], ◌∷◌, map, Option, Some, None, refl, ap, ◌∙◌}
use Rattle.std.specs.Prelude.{if◌then◌else◌, is_some, ◌==◌, All}
use Rattle.std.specs.List.{AllByRecursion}
use Rattle.std.proofs.lemmas.List.Elements.{All-head, All-tail}
use Rattle.std.proofs.lemmas.Bool.Decides.{nat_tests}
use Rattle.std.specs.Option.{option_map_or}
use Rattle.wt_keys.specs.declared.fault.Fault.{Fault}
use Rattle.wt_regions.specs.declared.touch.Found.{Found}
use Rattle.wt_regions.specs.declared.touch.Found.TheVariants as found
use Rattle.wt_regions.specs.declared.weighs.Measure.{Measure}
use Rattle.wt_regions.specs.Lists.{Told, lasting}
use Rattle.wt_flights.specs.declared.row.Row.{Row}
use Rattle.wt_flights.specs.Rows.{Flights, begun, landed, row_of, current_of, is_current, one_more}
use Rattle.wt_flights.proofs.Newest.{IsFresh, landed-begun, row_of-begun}
use Rattle.wt_core.specs.declared.calls.Call.TheVariants as call
use Rattle.wt_core.specs.declared.calls.Land.{Land}
use Rattle.wt_core.specs.declared.calls.Land.TheVariants as land
use Rattle.wt_core.specs.declared.calls.Reply.{Reply}
use Rattle.wt_core.specs.declared.calls.Reply.TheVariants as reply
use Rattle.wt_core.specs.State.{State, Made, made, found as found_in, stepped, with_load, with_flights, with_count}
use Rattle.wt_core.specs.Seek.{refreshes, met}
use Rattle.wt_core.specs.Step.{own_expired, storing, is_kept, landing, sought, spent, refusal_of}
use Rattle.wt_core.specs.Run.{taken, taken_if}
use Rattle.wt_trace.specs.declared.trace.line.Act.TheVariants as act
use Rattle.wt_trace.specs.declared.options.Options.{Options}
use Rattle.wt_trace.specs.declared.shard.version.Version.{Version}
use Rattle.wt_trace.specs.Keys.{Keys}
use Rattle.wt_trace.specs.Answers.{load, fetched, take, act_step}

-- the open ids, oldest first
abbrev pub ids : {K : Type 0} → Flights K → List ℕ
ids t = map (λ r. r.id) t.rows

module _ {K : Type 0} (eq : K → K → Bool) (k : K) where
  more_id : (b : Bool) (r : Row K) → (if b then one_more r else r).id ≡ r.id
  more_id true r = refl
  more_id false r = refl

  joined_ids : (rows : List (Row K))
      → map (λ (r : Row K). r.id) (map (λ (r : Row K). if is_current eq k r then one_more r else r) rows)
      ≡ map (λ (r : Row K). r.id) rows
  joined_ids [] = refl
  joined_ids (r ∷ rs) = λ i. more_id (is_current eq k r) r i ∷ joined_ids rs i

  module _ {V : Type 0} (word : K → ℕ) (measure : V → Measure) where
    either : (b : Bool) (s : State K V) (t u : Told K V) (x y : Reply V) → (if b then made s t x else made s u y).state.flights ≡ s.flights
    either true s t u x y = refl
    either false s t u x y = refl

    landing_flights : (row : Row K) (what : Land V) (s : State K V) → (landing eq word measure k row what s).state.flights ≡ s.flights
    landing_flights row (land.Keep v) s =
        either (is_kept measure row v s) (with_load s) (storing eq word measure k v s) (own_expired eq k s)
        (reply.Kept row.sharers) (reply.Loose row.sharers)
    landing_flights row land.Loose s = refl
    landing_flights row land.Failed s = refl

    -- the landing of the flight that was just begun is no refusal, and leaves the flights of before
    landed_at_once : (same : eq k k ≡ true) (t : Flights K) → IsFresh t → (s : State K V)
        → s.flights ≡ begun k t → (what : Land V) (now : ℕ)
        → (taken eq word measure s (call.Land t.next k what now)).state.flights.rows ≡ t.rows
    landed_at_once same t fresh s e what now =
        (λ i. (taken_if eq word measure (if is_some (found i) then None else spent s) s (call.Land t.next k what now)).state.flights.rows)
        ∙ (λ i. (option_map_or (λ row. landing eq word measure k row what
        (with_flights (landed t.next s.flights) (stepped now s))) (found i)
        (made (stepped now s) (own_expired eq k (stepped now s)) reply.Gone)).state.flights.rows)
        ∙ ap (λ (x : Flights K). x.rows) (landing_flights new what (with_flights (landed t.next s.flights) (stepped now s)))
        ∙ (λ i. (landed t.next (e i)).rows)
        ∙ landed-begun k t fresh
      where
        new : Row K
        new = record { id = t.next; key = k; current = true; sharers = 1 }

        found : row_of eq k t.next s.flights ≡ Some (record { id = t.next; key = k; current = true; sharers = 1 })
        found = (λ i. row_of eq k t.next (e i)) ∙ row_of-begun eq k same t fresh

module _ {K : Type 0} (keys : Keys K) (o : Options) (n moment : ℕ) (k : K) (same : keys.eq k k ≡ true) where
  -- after the seek, by its reply
  abbrev after : Reply (Version K) → State K (Version K) → List ℕ
  after r s = let m : Made K (Version K) = with_count keys.word k (sought keys.eq k r s) in
      ids (fetched keys o n moment k m.reply m).state.flights

  -- a new flight is landed at once
  led : (s : State K (Version K)) → IsFresh s.flights
      → ids (take keys (with_count keys.word k (sought keys.eq k (reply.Lead s.flights.next) s)).state
      (call.Land s.flights.next k (load keys o n k) moment)).state.flights ≡ ids s.flights
  led s fresh = ap (map (λ (r : Row K). r.id))
      (landed_at_once keys.eq k keys.word (λ v. lasting v.weight) same s.flights fresh
      (with_count keys.word k (sought keys.eq k (reply.Lead s.flights.next) s)).state refl
      (load keys o n k) moment)

  led_hit : (s : State K (Version K)) → IsFresh s.flights → (v : Version K) → after (reply.HitLead v s.flights.next) s ≡ ids s.flights
  led_hit s fresh v = ap (map (λ (r : Row K). r.id))
      (landed_at_once keys.eq k keys.word (λ v. lasting v.weight) same s.flights fresh
      (with_count keys.word k (sought keys.eq k (reply.HitLead v s.flights.next) s)).state refl
      (load keys o n k) moment)

  by_refresh : (b : Bool) (s : State K (Version K)) → IsFresh s.flights → (v : Version K)
      → after (if b then reply.HitLead v s.flights.next else reply.Hit v) s ≡ ids s.flights
  by_refresh true s fresh v = led_hit s fresh v
  by_refresh false s fresh v = refl

  by_current : (c : Option ℕ) (s : State K (Version K)) → IsFresh s.flights
      → after (option_map_or reply.Join c (reply.Lead s.flights.next)) s ≡ ids s.flights
  by_current None s fresh = led s fresh
  by_current (Some id) s fresh = joined_ids keys.eq k s.flights.rows

  by_found : (x : Found (Version K)) (s : State K (Version K)) → IsFresh s.flights → after (met keys.eq k x s) s ≡ ids s.flights
  by_found (found.Hit v) s fresh = by_refresh (refreshes keys.eq k s) s fresh v
  by_found found.Absent s fresh = by_current (current_of keys.eq k s.flights) s fresh
  by_found found.Expired s fresh = by_current (current_of keys.eq k s.flights) s fresh

  by_refusal : (s : State K (Version K)) → IsFresh s.flights → (fault : Option Fault) →
      let m : Made K (Version K) = taken_if keys.eq keys.word (λ v. lasting v.weight) fault s (call.Seek k moment) in
      ids (fetched keys o n moment k m.reply m).state.flights ≡ ids s.flights
  by_refusal s fresh (Some fault) = refl
  by_refusal s fresh None = by_found (found_in keys.eq k (stepped moment s)) (stepped moment s) fresh

  -- whatever the line meets, the same flights are open after it as before
  pub get_leaves : (shard : ℕ) (s : State K (Version K)) → IsFresh s.flights
      → ids (act_step keys o shard n moment (act.Get k) s).state.flights ≡ ids s.flights
  get_leaves shard s fresh = by_refusal s fresh (refusal_of keys.eq keys.word (λ v. lasting v.weight) s (call.Seek k moment))

-- in a lawful table no row has the next id
pub not_next : {K : Type 0} (n : ℕ) (rows : List (Row K)) → All (λ (r : Row K). r.id < n) rows
    → AllByRecursion (λ (r : Row K). (r.id == n) ≡ false) rows
not_next n [] below = tt
not_next {K} n (r ∷ rs) below = (
  (let low = All-head (λ (x : Row K). x.id < n) r rs below in grind (arith, nat_tests, low)),
  not_next n rs (All-tail (λ (x : Row K). x.id < n) r rs below),
)
