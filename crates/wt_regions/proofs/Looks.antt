-- What a look finds, and what the use of it leaves.
use Rattle.std.proofs.Common.{◌≡◌, ℕ, Bool, true, false, cond, List, ◌++◌, Option, Some, None, refl, subst, ◌||◌}
use Rattle.std.specs.Option.{option_map, option_map_or, is_some}
use Rattle.std.specs.List.{IsDistinct}
use Rattle.std.specs.Map.{keys_of, lookup}
use Rattle.std.specs.Prelude.{IfSome, IsSome}
use Rattle.std.specs.Cmp.{IsEquivalence}
use Rattle.wt_regions.specs.declared.caps.Caps.{Caps}
use Rattle.wt_regions.specs.declared.touch.Found.{Found}
use Rattle.wt_regions.specs.declared.touch.Found.TheVariants.{Hit, Absent, Expired as FoundExpired}
use Rattle.wt_regions.specs.declared.held.Held.{Held}
use Rattle.wt_regions.specs.declared.touch.Seen.{Seen}
use Rattle.wt_regions.specs.declared.touch.Seen.TheVariants.{InWindow, InProbation, InProtected, Nowhere, Expired}
use Rattle.wt_regions.specs.declared.weighs.Measure.{Measure}
use Rattle.wt_regions.specs.Lists.{Entry, Lists, lists_of, held_for, found_at, has_at, gone_by, is_expired, used, weight_of}
use Rattle.wt_regions.specs.Touch.{looked_at, touched, used_if}
use Rattle.wt_regions.specs.Lawful.{IsLawful}
use Rattle.wt_regions.specs.Moves.{HasNoLives, in_front, seen_at}
use Rattle.std.proofs.lemmas.Map.Entries.{All-lookup}
use Rattle.wt_regions.proofs.Moves.{lookup-append, lookup_entry-none}
use Rattle.wt_regions.proofs.Apart.{above-protected, above-probation, entry-from_lookup}
use Rattle.wt_regions.proofs.Touches.{touched-window, touched-protected, touched-kept}

module _ {K V : Type 0} (eq : K → K → Bool) (k : K) (now : ℕ) where
  -- an unexpired entry is a hit
  pub hit-of : (r : Lists K V) (h : Held V) → held_for eq k r ≡ Some h → is_expired r.caps now h ≡ false → has_at eq k now r ≡ true
  hit-of r h is fresh = rw (is, fresh) refl

  module _ (c : Caps) (ws ps qs : List (Entry K V)) where
    pub held-window : (h : Held V) → lookup (eq k) ws ≡ Some h → held_for eq k (lists_of c ws ps qs) ≡ Some h
    held-window h is = rw (lookup-append (eq k) ws (ps ++ qs), is)

    pub held-probation : (h : Held V) → lookup (eq k) ws ≡ None → lookup (eq k) ps ≡ Some h → held_for eq k (lists_of c ws ps qs) ≡ Some h
    held-probation h nw is = rw (lookup-append (eq k) ws (ps ++ qs), nw, lookup-append (eq k) ps qs, is)

    pub held-protected : (h : Held V) → lookup (eq k) ws ≡ None → lookup (eq k) ps ≡ None → lookup (eq k) qs ≡ Some h
        → held_for eq k (lists_of c ws ps qs) ≡ Some h
    held-protected h nw np is = rw (lookup-append (eq k) ws (ps ++ qs), nw, lookup-append (eq k) ps qs, np, is)

    held-nowhere : lookup (eq k) ws ≡ None → lookup (eq k) ps ≡ None → lookup (eq k) qs ≡ None → held_for eq k (lists_of c ws ps qs) ≡ None
    held-nowhere nw np nq = rw (lookup-append (eq k) ws (ps ++ qs), nw, lookup-append (eq k) ps qs, np, nq)

    last_if : (o : Option (Held V)) → lookup (eq k) ws ≡ o → lookup (eq k) ps ≡ None → lookup (eq k) qs ≡ None
        → held_for eq k (lists_of c ws ps qs) ≡ o
    last_if (Some h) is np nq = held-window h is
    last_if None is np nq = held-nowhere is np nq

    -- what is in neither part of main is what window has
    pub held-outside : lookup (eq k) ps ≡ None → lookup (eq k) qs ≡ None → held_for eq k (lists_of c ws ps qs) ≡ lookup (eq k) ws
    held-outside np nq = last_if (lookup (eq k) ws) refl np nq

-- no time has gone by for durations that aren't set
never-gone : (a b : Option ℕ) (w u now : ℕ) → is_some a || is_some b ≡ false → gone_by a w now || gone_by b u now ≡ false
never-gone None None w u now e = refl
never-gone (Some d) b w u now e = cc
never-gone None (Some d) w u now e = cc

module _ {K V : Type 0} (eq : K → K → Bool) (laws : IsEquivalence eq) (same : (a b : K) → eq a b ≡ true → a ≡ b) (k : K)
    (now : ℕ) (c : Caps) (ws ps qs : List (Entry K V)) (once : IsDistinct eq (keys_of (ws ++ (ps ++ qs)))) where
  abbrev r : Lists K V
  r = lists_of c ws ps qs

  -- what follows from what a look saw
  abbrev pub IsLook : Seen V → Type 0
  IsLook (InWindow v) = (found_at eq k now r ≡ Hit v) × (looked_at eq k now r ≡ lists_of c (in_front eq k (used now) ws) ps qs)
  IsLook (InProbation v m) = (found_at eq k now r ≡ Hit v)
      × (looked_at eq k now r ≡ touched eq k (λ _. m) r)
      × (lookup (eq k) ws ≡ None) × IsSome (lookup (eq k) ps)
  IsLook (InProtected v) = (found_at eq k now r ≡ Hit v) × (looked_at eq k now r ≡ lists_of c ws ps (in_front eq k (used now) qs))
  IsLook Nowhere = (found_at eq k now r ≡ Absent) × (looked_at eq k now r ≡ r)
  IsLook Expired = (found_at eq k now r ≡ FoundExpired) × (looked_at eq k now r ≡ r)

  expired : (h : Held V) → held_for eq k r ≡ Some h → is_expired c now h ≡ true → IsLook Expired
  expired h is old = (rw (is, old) refl, rw (is, old) refl)

  window_if : (h : Held V) (b : Bool) → lookup (eq k) ws ≡ Some h → is_expired c now h ≡ b → IsLook (cond b Expired (InWindow h.value))
  window_if h true at e = expired h (held-window eq k now c ws ps qs h at) e
  window_if h false at e =
      let is = held-window eq k now c ws ps qs h at in
      let there : is_some (lookup (eq k) ws) ≡ true = rw at refl in
      (rw (is, e) refl, rw (is, e) (touched-window eq k (used now) c ws ps qs there))

  probation_if : (h : Held V) (b : Bool) → lookup (eq k) ws ≡ None → lookup (eq k) ps ≡ Some h → is_expired c now h ≡ b
      → IsLook (cond b Expired (InProbation h.value (used now h)))
  probation_if h true nw at e = expired h (held-probation eq k now c ws ps qs h nw at) e
  probation_if h false nw at e =
      let is = held-probation eq k now c ws ps qs h nw at in
      let there : is_some (lookup (eq k) ps) ≡ true = rw at refl in
      let entry = entry-from_lookup eq same k ps h at in
      (rw (is, e) refl, rw (is, e, lookup_entry-none (eq k) ws nw, entry) refl, nw, there)

  protected_if : (h : Held V) (b : Bool) → lookup (eq k) ws ≡ None → lookup (eq k) ps ≡ None → lookup (eq k) qs ≡ Some h
      → is_expired c now h ≡ b → IsLook (cond b Expired (InProtected h.value))
  protected_if h true nw np at e = expired h (held-protected eq k now c ws ps qs h nw np at) e
  protected_if h false nw np at e =
      let is = held-protected eq k now c ws ps qs h nw np at in
      (rw (is, e) refl, rw (is, e) (touched-protected eq k (used now) c ws ps qs nw np))

  nowhere : lookup (eq k) ws ≡ None → lookup (eq k) ps ≡ None → lookup (eq k) qs ≡ None → IsLook Nowhere
  nowhere iw ip iq = let is = held-nowhere eq k now c ws ps qs iw ip iq in (rw is refl, rw is refl)

  look_at : (oq op ow : Option (Held V)) → lookup (eq k) qs ≡ oq → lookup (eq k) ps ≡ op → lookup (eq k) ws ≡ ow
      → IsLook (option_map_or (λ (h : Held V). cond (is_expired c now h) Expired (InProtected h.value)) oq
      (option_map_or (λ (h : Held V). cond (is_expired c now h) Expired (InProbation h.value (used now h))) op
      (option_map_or (λ (h : Held V). cond (is_expired c now h) Expired (InWindow h.value)) ow Nowhere)))
  look_at (Some h) op ow iq ip iw = let off = above-protected eq laws k ws ps qs h once iq in
      protected_if h (is_expired c now h) off.0 off.1 iq refl
  look_at None (Some h) ow iq ip iw = probation_if h (is_expired c now h) (above-probation eq laws k ws ps qs h once ip) ip refl
  look_at None None (Some h) iq ip iw = window_if h (is_expired c now h) iw refl
  look_at None None None iq ip iw = nowhere iw ip iq

  -- the same if no entry expires, by the region that has the key
  module _ (unaging : is_some c.after_write || is_some c.after_access ≡ false) (lasting : HasNoLives r) where
    life-of : (h : Held V) → held_for eq k r ≡ Some h → h.life ≡ 0
    life-of h at =
        let each : IfSome (lookup (eq k) (ws ++ (ps ++ qs))) (λ (x : Held V). x.life ≡ 0) =
        All-lookup (λ (x : Held V). x.life ≡ 0) (eq k) (ws ++ (ps ++ qs)) lasting in
        rw at at each

    fresh : (h : Held V) → held_for eq k r ≡ Some h → is_expired c now h ≡ false
    fresh h at = rw (never-gone c.after_write c.after_access h.written h.accessed now unaging, life-of h at) refl

    protected_of : (o : Option (Held V)) (v : V) → lookup (eq k) qs ≡ o
        → option_map (λ (h : Held V). h.value) o ≡ Some v → IsLook (InProtected v)
    protected_of None v at is = cc
    protected_of (Some h) v at is =
        let off = above-protected eq laws k ws ps qs h once at in
        let value : h.value ≡ v = cc in
        subst (λ w. IsLook (InProtected w)) value (protected_if h false off.0 off.1 at (fresh h (held-protected eq k now c ws ps qs h off.0 off.1 at)))

    pub copied-protected : (v : V) → option_map (λ (h : Held V). h.value) (lookup (eq k) qs) ≡ Some v → IsLook (InProtected v)
    copied-protected v is = protected_of (lookup (eq k) qs) v refl is

    pub copied-probation : (h : Held V) → lookup (eq k) ps ≡ Some h → IsLook (InProbation h.value (used now h))
    copied-probation h at =
        let off = above-probation eq laws k ws ps qs h once at in
        probation_if h false off at (fresh h (held-probation eq k now c ws ps qs h off at))

    window_of : (o : Option (Held V)) (v : V) → lookup (eq k) ws ≡ o → option_map (λ (h : Held V). h.value) o ≡ Some v → IsLook (InWindow v)
    window_of None v at is = cc
    window_of (Some h) v at is = let value : h.value ≡ v = cc in subst (λ w. IsLook (InWindow w)) value (window_if h false at (fresh h (held-window eq k now c ws ps qs h at)))

    pub copied-window : (v : V) → option_map (λ (h : Held V). h.value) (lookup (eq k) ws) ≡ Some v → IsLook (InWindow v)
    copied-window v is = window_of (lookup (eq k) ws) v refl is

  unmapped : (o : Option (Held V)) → None ≡ option_map (λ (h : Held V). h.value) o → o ≡ None
  unmapped None is = refl
  unmapped (Some h) is = cc

  -- the same for what three caches don't give
  pub copied-nowhere : None ≡ option_map (λ (h : Held V). h.value) (lookup (eq k) ws) → lookup (eq k) ps ≡ None
      → None ≡ option_map (λ (h : Held V). h.value) (lookup (eq k) qs) → IsLook Nowhere
  copied-nowhere iw ip iq = nowhere (unmapped (lookup (eq k) ws) iw) ip (unmapped (lookup (eq k) qs) iq)

  pub look-is : IsLook (seen_at eq k now r)
  look-is = look_at (lookup (eq k) qs) (lookup (eq k) ps) (lookup (eq k) ws) refl refl refl

-- a look keeps the regions lawful and their weight
module _ {K V : Type 0} (eq : K → K → Bool) (laws : IsEquivalence eq) (measure : V → Measure) (k : K) (now : ℕ) where
  abbrev pub Keeps : Lists K V → Lists K V → Type 0
  Keeps r s = IsLawful eq measure s × (weight_of s ≡ weight_of r)

  used-kept : (g : Found V) (r : Lists K V) → IsLawful eq measure r → Keeps r (used_if eq k now g r)
  used-kept (Hit v) r law = touched-kept eq k (used now) laws measure (λ e. refl) r law
  used-kept Absent r law = (law, refl)
  used-kept FoundExpired r law = (law, refl)

  pub looked-kept : (r : Lists K V) → IsLawful eq measure r → Keeps r (looked_at eq k now r)
  looked-kept r law = used-kept (found_at eq k now r) r law
