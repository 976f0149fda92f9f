-- What a landing promises, and a landing that is tried a second time.
use Rattle.std.proofs.Common.{◌≡◌, ℕ, ◌<◌, Bool, List, ◌++◌, Option, Some, None, true, false, cond, refl, ap, sym, subst, ◌∙◌, inl, inr}
use Rattle.std.specs.Option.{option_map_or}
use Rattle.std.specs.Prelude.{◌⊎◌, Result, Ok, Err, IfOk}
use Rattle.wt_flights.specs.declared.row.Row.{Row}
use Rattle.wt_flights.specs.Rows.{landed, row_of}
use Rattle.wt_core.specs.declared.calls.Land.TheVariants as land
use Rattle.wt_core.specs.declared.calls.Reply.{Reply}
use Rattle.wt_core.specs.declared.calls.Reply.TheVariants.{Gone, Kept, Loose}
use Rattle.wt_core.specs.State.{State, made, stepped, with_flights, with_load}
use Rattle.wt_core.specs.Step.{is_kept, landing, own_expired, step, storing}
use Rattle.wt_shards.specs.Contract.{IsHomeCall}
use Rattle.wt_shards.specs.Counts.{is_hit}
use Rattle.wt_shards.specs.History.{state_after}
use Rattle.wt_shards.specs.Members.{Members}
use Rattle.wt_shards.specs.declared.done.Done.{Done}
use Rattle.wt_history.proofs.Fronts.{prefix_trans}
use Rattle.wt_keys.specs.declared.fault.Fault.{Fault}
use Rattle.wt_flights.specs.Outcomes.{Leading}
use Rattle.wt_regions.specs.declared.weighs.Measure.{Measure}
use Rattle.wt_regions.specs.Notices.{NoticeList}
use Rattle.wt_core.specs.declared.calls.Call.{Call}
use Rattle.wt_core.specs.declared.calls.Call.TheVariants.{Land}
use Rattle.wt_core.specs.declared.calls.Land.{Land as Landing}
use Rattle.wt_shards.specs.Passes.{PassCounts, Seen, SeenAt, SeenMore, front_at, steps_at, with_step}
use Rattle.wt_shards.specs.Place.{Layout, Place, home_at, home_of}
use Rattle.wt_shards.proofs.SeenMore.{made-earlier, made-grows, refused-earlier, refused-grows, seen-more, seen-twice}
use Rattle.wt_cache.specs.Loads.{IsLandCall}

-- a landing is no hit
landing-no_hit : {K V : Type 0} (eq : K → K → Bool) (word : K → ℕ) (measure : V → Measure)
    (s : State K V) (id : ℕ) (k : K) (what : Landing V) (now : ℕ) → is_hit (step eq word measure s (Land id k what now)).reply ≡ false
landing-no_hit {K} {V} eq word measure s id k what now = at_row (row_of eq k id s.flights)
  where
    at_kept : (what : Landing V) (row : Row K) → is_hit (landing eq word measure k row what
        (with_flights (landed id s.flights) (stepped now s))).reply ≡ false
    at_kept (land.Keep v) row = elim (is_kept measure row v (stepped now s)) as
        (λ b. is_hit (cond b (made (with_load (with_flights (landed id s.flights) (stepped now s)))
        (storing eq word measure k v (with_flights (landed id s.flights) (stepped now s))) (Kept row.sharers))
        (made (with_load (with_flights (landed id s.flights) (stepped now s)))
        (own_expired eq k (with_flights (landed id s.flights) (stepped now s))) (Loose row.sharers))).reply ≡ false) [
          | true ↦ refl
          | false ↦ refl
        ]
    at_kept land.Loose row = refl
    at_kept land.Failed row = refl

    at_row : (o : Option (Row K)) → is_hit (option_map_or (λ row. landing eq word measure k row what
        (with_flights (landed id s.flights) (stepped now s))) o (made (stepped now s) (own_expired eq k (stepped now s)) Gone)).reply ≡
        false
    at_row None = refl
    at_row (Some row) = at_kept what row

module _ {K V : Type 0} (members : Members K V) (l : Layout) (lead : Leading K) (what : Landing V) where
  abbrev home : ℕ
  home = home_of members.word lead.key l

  abbrev place : Place
  place = home_at members.word lead.key l

  abbrev call : Call K V
  call = Land lead.id lead.key what lead.moment

  module _ (old new : Seen K V) (before list : NoticeList K V) where
    -- what the shards promise of the landing
    abbrev Called : Result (Done (Reply V)) Fault → Type 0
    Called r = IsHomeCall members place call (λ x. x) old new before list r

    no-hit : (r : Result (Done (Reply V)) Fault) → Called r → IfOk r (λ done. is_hit done.reply ≡ false)
    no-hit (Ok done) h =
        let calls : List (Call K V) = front_at home old ++ h.step.placed.between in
        ap is_hit h.step.replied ∙ landing-no_hit members.eq members.word members.measure
        (state_after members.eq members.word members.measure l.config calls) lead.id lead.key what lead.moment
    no-hit (Err f) h = tt

    saw-more : (r : Result (Done (Reply V)) Fault) → Called r → SeenMore old new
    saw-more (Ok done) h = seen-more home old new h.elsewhere
        (made-grows members place call done.reply done.step (front_at home old) (front_at home new) before list h.step)
    saw-more (Err f) h = seen-more home old new h.elsewhere
        (refused-grows members place call (front_at home old) (front_at home new) f h.cause)

    pub landed-made : (r : Result (Done (Reply V)) Fault) → Called r → IsLandCall members l lead what old new before list r
    landed-made r h = record { made = h; miss = no-hit r h; more = saw-more r h }

    -- a landing is one step or none
    pub landed-counts : (r : Result (Done (Reply V)) Fault) → IsLandCall members l lead what old new before list r
        → (new.counts ≡ old.counts) ⊎ (new.counts ≡ with_step home false old.counts)
    landed-counts (Ok done) landed = inr (landed.made.moved ∙ ap (λ b. with_step home b old.counts) landed.miss)
    landed-counts (Err f) landed = inl landed.made.err.0

  -- a landing after one that was refused is one for who was there before both
  pub landed-again : (old mid new : Seen K V) (before between list : NoticeList K V) (r : Result (Done (Reply V)) Fault)
      → mid.counts ≡ old.counts → between ≡ before → SeenMore old mid → SeenAt home old mid
      → IsLandCall members l lead what mid new between list r
      → IsLandCall members l lead what old new before list r
  landed-again old mid new before between list (Ok done) same_counts same more elsewhere landed =
      let h = landed.made in
      subst (λ (t : NoticeList K V). IsLandCall members l lead what old new t list (Ok done)) same (record {
        made = record {
          moved = h.moved ∙ ap (with_step home (is_hit done.reply)) same_counts;
          later = subst (λ (p : PassCounts). steps_at home p < done.step) same_counts h.later;
          step = made-earlier members place call done.reply done.step (front_at home old) (front_at home mid)
              (front_at home new) between list (more home) h.step;
          faults = tt;
          cause = tt;
          elsewhere = seen-twice home old mid new elsewhere h.elsewhere;
          told = h.told;
          err = tt;
        };
        miss = landed.miss;
        more = λ i. prefix_trans (front_at i old) (front_at i mid) (front_at i new) (more i) (landed.more i);
      })
  landed-again old mid new before between list (Err f) same_counts same more elsewhere landed =
      let h = landed.made in
      subst (λ (t : NoticeList K V). IsLandCall members l lead what old new t list (Err f)) same (record {
        made = record {
          moved = tt;
          later = tt;
          step = tt;
          faults = h.faults;
          cause = refused-earlier members place call (front_at home old) (front_at home mid) (front_at home new) f
              (more home) h.cause;
          elsewhere = seen-twice home old mid new elsewhere h.elsewhere;
          told = h.told;
          err = (h.err.0 ∙ same_counts, h.err.1);
        };
        miss = tt;
        more = λ i. prefix_trans (front_at i old) (front_at i mid) (front_at i new) (more i) (landed.more i);
      })

-- the landing of a lead at its moment, by the layout and the moment that the code has
pub landed-so : {K V : Type 0} (members : Members K V) (l m : Layout) (lead : Leading K) (what : Landing V) (moment : ℕ)
    (old new : Seen K V) (before list : NoticeList K V) (r : Result (Done (Reply V)) Fault) → l ≡ m → moment ≡ lead.moment
    → IsHomeCall members (home_at members.word lead.key l) (Land lead.id lead.key what moment) (λ x. x) old new before list r
    → IsLandCall members m lead what old new before list r
landed-so {K} {V} members l m lead what moment old new before list r same at called =
    subst (λ (x : Layout). IsLandCall members x lead what old new before list r) same
    (landed-made members l lead what old new before list r
    (subst (λ (n : ℕ). IsHomeCall members (home_at members.word lead.key l) (Land lead.id lead.key what n) (λ x. x) old new before
    list r) at called))
