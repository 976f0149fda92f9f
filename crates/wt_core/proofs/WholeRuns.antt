-- Whole runs, a call at a time.
use Rattle.std.proofs.Common.{◌≡◌, ℕ, suc, Bool, List, [], ◌∷◌, ◌++◌, length, refl, ap}
use Rattle.wt_core.specs.declared.calls.Call.{Call}
use Rattle.wt_core.specs.declared.calls.Reply.{Reply}
use Rattle.wt_regions.specs.declared.weighs.Measure.{Measure}
use Rattle.wt_regions.specs.Notices.{NoticeList, appended, emptied}
use Rattle.wt_core.specs.State.{State}
use Rattle.wt_core.specs.Run.{taken, run, replies, last_notices}

module _ {K V : Type 0} (eq : K → K → Bool) (word : K → ℕ) (measure : V → Measure) where
  pub run-append : (s : State K V) (cs ds : List (Call K V))
      → run eq word measure s (cs ++ ds) ≡ run eq word measure (run eq word measure s cs) ds
  run-append s [] ds = refl
  run-append s (c ∷ cs) ds = run-append (taken eq word measure s c).state cs ds

  pub replies-append : (s : State K V) (cs ds : List (Call K V))
      → replies eq word measure s (cs ++ ds) ≡ replies eq word measure s cs
      ++ replies eq word measure (run eq word measure s cs) ds
  replies-append s [] ds = refl
  replies-append s (c ∷ cs) ds = ap (λ (rs : List (Reply V)). (taken eq word measure s c).reply ∷ rs)
      (replies-append (taken eq word measure s c).state cs ds)

  pub length-replies : (s : State K V) (cs : List (Call K V)) → length (replies eq word measure s cs) ≡ length cs
  length-replies s [] = refl
  length-replies s (c ∷ cs) = ap suc (length-replies (taken eq word measure s c).state cs)

  pub last_notices-append : (s : State K V) (cs : List (Call K V)) (c : Call K V) (t : NoticeList K V)
      → last_notices eq word measure s (cs ++ c ∷ []) t
      ≡ appended (taken eq word measure (run eq word measure s cs) c).notices
      (emptied (last_notices eq word measure s cs t))
  last_notices-append s [] c t = refl
  last_notices-append s (d ∷ cs) c t =
      last_notices-append (taken eq word measure s d).state cs c
      (appended (taken eq word measure s d).notices (emptied t))
