-- A removal of a key that has no unexpired entry.
use Rattle.std.proofs.Common.{◌≡◌, ℕ, Bool, true, false, cond, [], ◌∷◌, Option, Some, None, refl}
use Rattle.std.specs.Option.{option_map_or}
use Rattle.std.specs.Cmp.{IsEquivalence}
use Rattle.wt_regions.specs.declared.notices.Cause.TheVariants.{Expired}
use Rattle.wt_regions.specs.declared.touch.Found.TheVariants as found
use Rattle.wt_regions.specs.declared.held.Held.{Held}
use Rattle.wt_regions.specs.Lists.{Lists, Told, notice, is_expired, is_hit, held_for, has_at, without}
use Rattle.wt_regions.specs.Steps.{without_expired}
use Rattle.wt_regions.proofs.Without.{without-none}

module _ {K V : Type 0} (eq : K → K → Bool) (laws : IsEquivalence eq) (k : K) (now : ℕ) (r : Lists K V) where
  abbrev told : Lists K V → Bool → Held V → Told K V
  told rest b h = cond b (rest, notice Expired (k, h) ∷ []) (r, [])

  without_if : (h : Held V) (b : Bool) → is_hit (cond b found.Expired (found.Hit h.value)) ≡ false
      → without eq k r ≡ (told (without eq k r) b h).0
  without_if h true e = refl
  without_if h false e = absurd (cc)

  without_at : (o : Option (Held V)) → held_for eq k r ≡ o
      → is_hit (option_map_or (λ (h : Held V). cond (is_expired r.caps now h) found.Expired (found.Hit h.value)) o
      found.Absent) ≡ false
      → without eq k r ≡ (option_map_or (λ (h : Held V). told (without eq k r) (is_expired r.caps now h) h) o (r, [])).0
  without_at None is e = without-none eq laws k r.caps r.window r.probation r.protected is
  without_at (Some h) is e = without_if h (is_expired r.caps now h) e

  -- takes out what an airing does
  pub without-unheld : has_at eq k now r ≡ false → without eq k r ≡ (without_expired eq k now r).0
  without-unheld e = without_at (held_for eq k r) refl e
