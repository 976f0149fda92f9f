-- Loads that are handed on.
use Rattle.std.proofs.Common.{◌≡◌, ℕ, true, false, Option, Some, None, sym, subst, inl, inr, ◌∙◌, ap}
use Rattle.std.specs.Prelude.{◌⊎◌, Result, Ok, Err}
use Rattle.wt_keys.specs.declared.fault.Fault.{Fault}
use Rattle.wt_flights.specs.Outcomes.{Leading}
use Rattle.wt_regions.specs.Notices.{NoticeList}
use Rattle.wt_core.specs.declared.calls.Land.{Land as Landing}
use Rattle.wt_core.specs.declared.calls.Reply.{Reply}
use Rattle.wt_shards.specs.Members.{Members}
use Rattle.wt_shards.specs.Passes.{Seen, SeenMore, with_step}
use Rattle.wt_shards.specs.Place.{home_of}
use Rattle.wt_shards.specs.Told.{HasTold}
use Rattle.wt_shards.specs.declared.done.Done.{Done}
use Rattle.wt_cache.proofs.Chains.{run_counts, run_more}
use Rattle.wt_cache.proofs.Faults.{late_land, late_outcome}
use Rattle.wt_cache.proofs.Landed.{landed-counts}
use Rattle.wt_cache.proofs.Runs.{ran_if_any, ran_lined, ran_one, some_of}
use Rattle.wt_cache.proofs.Told.{told_none}
use Rattle.wt_cache.specs.Cached.{Cached}
use Rattle.wt_cache.specs.Loads.{IsHandedOn, IsHandedTo, IsLandCall, IsLeft, IsLoaded, IsToldOf}
use Rattle.wt_cache.specs.Moves.{HasRun, HasRunIfAny, LandedSome, is_late_fault}
use Rattle.wt_cache.specs.declared.loads.Ran.{Ran}

module _ {K V : Type 0} (members : Members K V) (returns : K → Result V ℕ → Type 0)
    (cache : Cached) (lead : Leading K) (old new : Seen K V) (before list : NoticeList K V) where
  abbrev home : ℕ
  home = home_of members.word lead.key cache.layout

  -- a landing that was told to be made is one step
  landed_so : (loaded : Result V ℕ) (landed : Result (Done (Reply V)) Fault) (what : Landing V) (value : V)
      → IsLandCall members cache.layout lead what old new before list landed
      → IsToldOf loaded landed (Ok value) → new.counts ≡ with_step home false old.counts
  landed_so loaded (Ok x) what value made tells = made.made.moved ∙ ap (λ b. with_step home b old.counts) made.miss
  landed_so loaded (Err f) what value made tells = cc

  -- what tells a fault tells a late one
  fault_so : (loaded : Result V ℕ) (landed : Result (Done (Reply V)) Fault) (what : Landing V) (f : Fault)
      → IsLandCall members cache.layout lead what old new before list landed
      → IsToldOf loaded landed (Err f) → is_late_fault f ≡ true
  fault_so loaded (Err g) what f made tells = let late = late_land g made.made.faults in cc
  fault_so (Ok value) (Ok x) what f made (inl is) = cc
  fault_so (Ok value) (Ok x) what f made (inr is) = cc
  fault_so (Err code) (Ok x) what f made tells = cc

  -- the landings of a load that was left to the line
  left_some : IsLeft members returns cache lead old new before list → LandedSome old.counts new.counts
  left_some left = some_of _ _ _ (run_counts members returns cache.layout left.aside left.leads old new left.ran)

  pub handed_on : (ran : Option (Ran K V)) → IsHandedTo members returns cache lead old new before list ran
      → IsHandedOn members returns cache lead old new before list
  handed_on (Some ran) run = inl (record { loaded = run.loaded; landed = ran.landed; run = run.landed })
  handed_on None left = inr left

  pub loaded_on : (told : Result V Fault) → IsLoaded members returns cache lead old new before list told
      → IsHandedOn members returns cache lead old new before list
  loaded_on told (inl here) = inl (record { loaded = here.loaded; landed = here.landed; run = here.run })
  loaded_on told (inr left) = inr left.0

  pub handed_more : IsHandedOn members returns cache lead old new before list → SeenMore old new
  handed_more (inl here) = here.run.made.more
  handed_more (inr left) = run_more members returns cache.layout left.aside left.leads old new left.ran

  pub handed_told : IsHandedOn members returns cache lead old new before list → HasTold cache.layout.config.entries before list
  handed_told (inl here) = here.run.made.made.told
  handed_told (inr left) = subst (λ (t : NoticeList K V). HasTold cache.layout.config.entries before t) (sym left.same)
      (told_none cache.layout.config.entries before)

  pub handed_if_any : IsHandedOn members returns cache lead old new before list
      → HasRunIfAny cache.lined home old.counts new.counts
  handed_if_any (inl here) = ran_if_any cache.lined home old.counts new.counts
      (landed-counts members cache.layout lead here.run.what old new before list here.landed here.run.made)
  handed_if_any (inr left) = (ran_lined cache.lined home old.counts new.counts left.lined (left_some left)).1

  pub loaded_run : (value : V) → IsLoaded members returns cache lead old new before list (Ok value)
      → HasRun cache.lined home old.counts new.counts
  loaded_run value (inl here) = ran_one cache.lined home old.counts new.counts
      (landed_so here.loaded here.landed here.run.what value here.run.made here.tells)
  loaded_run value (inr left) = (ran_lined cache.lined home old.counts new.counts left.0.lined (left_some left.0)).0

  pub loaded_fault : (f : Fault) → IsLoaded members returns cache lead old new before list (Err f) → is_late_fault f ≡ true
  loaded_fault f (inl here) = fault_so here.loaded here.landed here.run.what f here.run.made here.tells
  loaded_fault f (inr left) = late_outcome f left.1
