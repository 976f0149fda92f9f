-- A seek and a refused look hit no more than a look that is made.
use Rattle.std.proofs.Common.{ℕ, Bool, true, false, cond, Option, Some, None}
use Rattle.std.specs.Option.{option_map_or}
use Rattle.wt_keys.specs.declared.fault.Fault.{Fault}
use Rattle.wt_regions.specs.declared.touch.Found.{Found}
use Rattle.wt_regions.specs.declared.touch.Found.TheVariants as found
use Rattle.wt_regions.specs.declared.weighs.Measure.{Measure}
use Rattle.wt_core.specs.declared.calls.Call.{Call}
use Rattle.wt_core.specs.declared.calls.Call.TheVariants.{Look, Seek}
use Rattle.wt_core.specs.declared.calls.Reply.TheVariants.{Hit, HitLead, Join, Lead}
use Rattle.wt_core.specs.Run.{taken, taken_if}
use Rattle.wt_core.specs.Seek.{met, refreshes}
use Rattle.wt_core.specs.State.{State, found as found_in, stepped}
use Rattle.wt_core.specs.Step.{looked, refusal_of, sought, step}
use Rattle.wt_shards.specs.Served.{HitsOnly}
use Rattle.wt_shared.specs.Served.{ServesOnly}

module _ {K V : Type 0} (eq : K → K → Bool) (word : K → ℕ) (measure : V → Measure) (P : V → Type 0) (s : State K V) (k : K) (now : ℕ) where
  -- a refused call hits nothing
  hits-taken : (c : Call K V) → HitsOnly P (step eq word measure s c).reply → HitsOnly P (taken eq word measure s c).reply
  hits-taken c made = at (refusal_of eq word measure s c)
    where
      at : (o : Option Fault) → HitsOnly P (taken_if eq word measure o s c).reply
      at None = made
      at (Some fault) = tt

  -- a seek hits what a look hits
  hits-seek : HitsOnly P (step eq word measure s (Look k now)).reply → HitsOnly P (step eq word measure s (Seek k now)).reply
  hits-seek = at_found (found_in eq k (stepped now s))
    where
      at_current : (o : Option ℕ) → HitsOnly P (sought eq k (option_map_or Join o (Lead s.flights.next)) (stepped now s)).reply
      at_current None = tt
      at_current (Some id) = tt

      at_found : (f : Found V) → HitsOnly P (looked eq k f (stepped now s)).reply
          → HitsOnly P (sought eq k (met eq k f (stepped now s)) (stepped now s)).reply
      at_found (found.Hit v) one = elim (refreshes eq k (stepped now s)) as
          (λ b. HitsOnly P (sought eq k (cond b (HitLead v s.flights.next) (Hit v)) (stepped now s)).reply) [
            | true ↦ one
            | false ↦ one
          ]
      at_found found.Absent one = at_current _
      at_found found.Expired one = at_current _

  -- so what a look that is made hits is all that is hit
  pub serves-only : HitsOnly P (step eq word measure s (Look k now)).reply → ServesOnly eq word measure P s k now
  serves-only made = record {
    look = hits-taken (Look k now) made;
    seek = hits-taken (Seek k now) (hits-seek made);
    peek = made;
  }
