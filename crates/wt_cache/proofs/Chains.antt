-- Loads that one caller runs, one after another.
use Rattle.std.proofs.Common.{◌≡◌, ℕ, ◌+◌, List, [], ◌∷◌, ◌++◌, length, map, refl, ap, sym, subst, ◌∙◌, arith}
use Rattle.std.specs.Prelude.{Result}
use mathlib.Core.List.{map-append}
use lib.ListN.{length-map}
use Rattle.wt_flights.specs.Outcomes.{Leading}
use Rattle.wt_regions.specs.Notices.{NoticeList}
use Rattle.wt_shards.specs.Members.{Members}
use Rattle.wt_shards.specs.Passes.{Seen, SeenMore}
use Rattle.wt_shards.specs.Place.{Layout, home_of}
use Rattle.wt_history.proofs.Fronts.{prefix_self, prefix_trans}
use Rattle.wt_cache.proofs.Landed.{landed-counts}
use Rattle.wt_cache.proofs.Moved.{landed_both, landed_none}
use Rattle.wt_cache.proofs.Runs.{landed_once, taken_more, taken_none}
use Rattle.wt_cache.specs.Line.{HasTakenOne, name}
use Rattle.wt_cache.specs.Loads.{AreRun, IsRunAside}
use Rattle.wt_cache.specs.Moves.{HasLanded}
use Rattle.wt_cache.specs.Workers.{HasWorked}
use Rattle.wt_cache.specs.declared.line_view.LineView.{LineView}

module _ {K V : Type 0} (members : Members K V) (returns : K → Result V ℕ → Type 0) (l : Layout) (start : NoticeList K V) where
  -- one load more
  pub run_after : (leads : List (Leading K)) (lead : Leading K) (old mid new : Seen K V)
      → AreRun members returns l start leads old mid → IsRunAside members returns l start lead mid new
      → AreRun members returns l start (leads ++ lead ∷ []) old new
  run_after [] lead old mid new same run =
      subst (λ (s : Seen K V). AreRun members returns l start (lead ∷ []) s new) same (new, run, refl)
  run_after (first ∷ leads) lead old mid new ran run = (ran.0, ran.1, run_after leads lead ran.0 mid new ran.2 run)

  -- the pass has seen at least what it had
  pub run_more : (leads : List (Leading K)) (old new : Seen K V) → AreRun members returns l start leads old new → SeenMore old new
  run_more [] old new same = subst (λ (s : Seen K V). SeenMore old s) (sym same) (λ i. prefix_self _)
  run_more (lead ∷ leads) old new ran = λ i. prefix_trans _ _ _ (ran.1.1.run.made.more i) (run_more leads ran.0 new ran.2 i)

  -- the pass counts a landing for each load, or none
  pub run_counts : (leads : List (Leading K)) (old new : Seen K V) → AreRun members returns l start leads old new
      → HasLanded (length leads) old.counts new.counts
  run_counts [] old new same = subst (λ (s : Seen K V). HasLanded 0 old.counts s.counts) (sym same) (landed_none 0 old.counts)
  run_counts (lead ∷ leads) old new ran =
      let mid = ran.0 in
      let here = ran.1.1 in
      let first = landed_once (home_of members.word lead.key l) old.counts mid.counts
      (landed-counts members l lead here.run.what old mid start ran.1.0 here.landed here.run.made) in
      landed_both 1 (length leads) (length (lead ∷ leads)) old.counts mid.counts new.counts first
      (run_counts leads mid new ran.2) (omega arith)

  -- a worker that took nothing yet
  pub worked_none : (h : LineView K) (p : Seen K V) → HasWorked members returns l start 0 h h p p
  worked_none h p = record { taken = taken_none h; leads = []; named = refl; ran = refl }

  -- a worker that took one load more, and ran it
  pub worked_more : (jobs : ℕ) (lead : Leading K) (h u v : LineView K) (old mid new : Seen K V)
      → HasWorked members returns l start jobs h u old mid → HasTakenOne lead u v → IsRunAside members returns l start lead mid new
      → HasWorked members returns l start (jobs + 1) h v old new
  worked_more jobs lead h u v old mid new worked more run = record {
    taken = taken_more jobs (name lead) h u v worked.taken more;
    leads = worked.leads ++ lead ∷ [];
    named = map-append name worked.leads (lead ∷ [])
        ∙ ap (λ ns. ns ++ name lead ∷ []) worked.named
        ∙ sym (map-append (λ t. t.1) worked.taken.taken ((more.0, name lead) ∷ []));
    ran = run_after worked.leads lead old mid new worked.ran run;
  }

  -- the pass of a worker counts at most a landing for each load that it took
  pub worked_counts : (jobs : ℕ) (h u : LineView K) (old new : Seen K V) → HasWorked members returns l start jobs h u old new
      → HasLanded jobs old.counts new.counts
  worked_counts jobs h u old new worked =
      let same : length worked.leads ≡ jobs = sym (length-map worked.leads name)
      ∙ ap length worked.named ∙ length-map worked.taken.taken (λ t. t.1) ∙ worked.taken.counted in
      subst (λ (n : ℕ). HasLanded n old.counts new.counts) same (run_counts worked.leads old new worked.ran)
