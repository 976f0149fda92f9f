-- Looks and seeks that take no memory.
use Rattle.std.proofs.Common.{◌≡◌, ℕ, Bool, true, false, not, ◌&&◌, Option, Some, None, inl, inr, refl, sym, ◌∙◌, subst, true≢false}
use Rattle.std.specs.Prelude.{max, is_none, is_some, IsTrue}
use Rattle.std.specs.Map.{lookup}
use Rattle.wt_regions.specs.declared.weighs.Measure.{Measure}
use Rattle.wt_regions.specs.Lists.{due_at, has_at}
use Rattle.wt_flights.specs.Rows.{current_of, is_full}
use Rattle.wt_core.specs.declared.calls.Call.TheVariants.{Look, Seek}
use Rattle.wt_core.specs.Landings.{TakesNone}
use Rattle.wt_core.specs.Seek.{refreshes}
use Rattle.wt_core.specs.State.{State, stepped}

both : (a b : Bool) → a && b ≡ true → (a ≡ true) × (b ≡ true)
both true b h = (refl, h)
both false b h = absurd (true≢false (sym h))

off : (a : Bool) → not a ≡ true → a ≡ false
off true h = absurd (true≢false (sym h))
off false h = refl

not_none : {X : Type 0} (o : Option X) → is_some o ≡ true → is_none o ≡ true → ⊥
not_none None some none = true≢false (sym some)
not_none (Some x) some none = true≢false (sym none)

module _ {K V : Type 0} (copied : Bool) (eq : K → K → Bool) (measure : V → Measure) (k : K) (s : State K V) (now m : ℕ)
    (moment : m ≡ max s.latest now) where
  -- a look-up in the regions succeeds for such a look
  pub free-look : TakesNone copied eq measure s (Look k now) → (A : Type 0) → (has_at eq k m s.regions ≡ false → A)
      → (IsTrue copied → lookup (eq k) s.regions.probation ≡ None → A) → A
  free-look (inl miss) A missed hit = missed (subst (λ (x : ℕ). has_at eq k x s.regions ≡ false) (sym moment) miss)
  free-look (inr free) A missed hit = hit free.0 free.1

  -- and for such a seek
  pub free-seek : TakesNone copied eq measure s (Seek k now) → (A : Type 0) → (has_at eq k m s.regions ≡ false → A)
      → (IsTrue copied → lookup (eq k) s.regions.probation ≡ None → A) → A
  free-seek (inl join) A missed hit =
      let miss = off (has_at eq k (max s.latest now) s.regions)
      (both (not (has_at eq k (max s.latest now) s.regions)) (is_some (current_of eq k s.flights)) join).0 in
      missed (subst (λ (x : ℕ). has_at eq k x s.regions ≡ false) (sym moment) miss)
  free-seek (inr free) A missed hit = hit free.1.0 free.1.1

  -- it opens no load beside a hit
  pub free-alone : TakesNone copied eq measure s (Seek k now)
      → due_at eq k m s.regions && (is_none (current_of eq k s.flights) && not (is_full s.flights)) ≡ true → ⊥
  free-alone (inl join) opens =
      let current = (both (not (has_at eq k (max s.latest now) s.regions)) (is_some (current_of eq k s.flights)) join).1 in
      let none = (both (is_none (current_of eq k s.flights)) (not (is_full s.flights))
      (both (due_at eq k m s.regions) (is_none (current_of eq k s.flights) && not (is_full s.flights)) opens).1).0
      in
      not_none (current_of eq k s.flights) current none
  free-alone (inr free) opens =
      let beside : refreshes eq k (stepped now s) ≡ true =
      subst (λ (x : ℕ). due_at eq k x s.regions && (is_none (current_of eq k s.flights) && not (is_full s.flights))
      ≡ true) moment opens in
      true≢false (sym beside ∙ free.2)

  -- and if it misses, it joins
  pub free-joins : TakesNone copied eq measure s (Seek k now) → has_at eq k m s.regions ≡ false → is_some (current_of eq k s.flights) ≡ true
  free-joins (inl join) miss = (both (not (has_at eq k (max s.latest now) s.regions)) (is_some (current_of eq k s.flights)) join).1
  free-joins (inr free) miss = absurd (true≢false (sym free.0 ∙ subst (λ (x : ℕ). has_at eq k x s.regions ≡ false) moment miss))
