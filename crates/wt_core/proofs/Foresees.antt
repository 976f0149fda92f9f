-- What is foreseen of a seek, and what it answers.
use Rattle.std.proofs.Common.{ℕ, Bool, true, false, cond, Option, Some, None, refl}
use Rattle.std.specs.Option.{option_map_or}
use Rattle.wt_regions.specs.declared.touch.Found.{Found}
use Rattle.wt_regions.specs.declared.touch.Found.TheVariants as found
use Rattle.wt_regions.specs.declared.weighs.Measure.{Measure}
use Rattle.wt_flights.specs.Rows.{current_of}
use Rattle.wt_core.specs.declared.calls.Reply.{Reply}
use Rattle.wt_core.specs.declared.calls.Reply.TheVariants.{Hit, HitLead, Join, Lead}
use Rattle.wt_core.specs.State.{State, found as found_in, stepped}
use Rattle.wt_core.specs.Seek.{foreseen_of, met, refreshes}
use Rattle.wt_core.specs.Step.{sought}
use Rattle.wt_core.specs.Stale.{ForeseesSeek, IsMetBy}

module _ {K V : Type 0} (eq : K → K → Bool) (k : K) (s : State K V) where
  hit-met : (v : V) (b : Bool) → IsMetBy (foreseen_of (cond b (HitLead v s.flights.next) (Hit v)))
      (sought eq k (cond b (HitLead v s.flights.next) (Hit v)) s).reply
  hit-met v true = refl
  hit-met v false = tt

  abbrev reply : Reply V → Reply V
  reply r = r

  miss-met : (o : Option ℕ) → IsMetBy (foreseen_of (reply (option_map_or Join o (Lead s.flights.next))))
      (sought eq k (option_map_or Join o (Lead s.flights.next)) s).reply
  miss-met (Some id) = refl
  miss-met None = refl

  seek-met : (f : Found V) → IsMetBy (foreseen_of (met eq k f s)) (sought eq k (met eq k f s) s).reply
  seek-met (found.Hit v) = hit-met v (refreshes eq k s)
  seek-met found.Absent = miss-met (current_of eq k s.flights)
  seek-met found.Expired = miss-met (current_of eq k s.flights)

pub foresees : {K V : Type 0} (eq : K → K → Bool) (word : K → ℕ) (measure : V → Measure) (s : State K V) → ForeseesSeek eq word measure s
foresees eq word measure s k now = seek-met eq k (stepped now s) (found_in eq k (stepped now s))
