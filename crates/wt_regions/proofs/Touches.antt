-- What a touch keeps, region by region.
use Rattle.std.proofs.Common.{◌≡◌, ◌+◌, ◌-◌, ◌≤◌, Bool, true, false, List, ◌∷◌, ◌++◌, length, Option, Some, None, refl, sym, subst, ◌∙◌, arith, length-append}
use Rattle.std.specs.Option.{option_map_or, is_some}
use Rattle.std.specs.Map.{lookup, lookup_entry, remove_entry}
use Rattle.std.specs.Prelude.{nat_lt}
use Rattle.std.specs.Cmp.{IsEquivalence}
use Rattle.std.proofs.lemmas.List.{length-take}
use Rattle.lru.specs.LruCache.{LruCache, last_entry, put_entries}
use Rattle.wt_regions.specs.declared.held.Held.{Held}
use Rattle.wt_regions.specs.declared.caps.Caps.{Caps}
use Rattle.wt_regions.specs.declared.weighs.Measure.{Measure}
use Rattle.wt_regions.proofs.Moves.{bare, Moves, bring-moves, moves-left, moves-right, promote-brings, moves-length, lawful-moves, lookup_none-entry, lookup_entry-none, moves-refl, promoted_so}
use Rattle.wt_regions.proofs.Apart.{room_for, no_last_none}
use Rattle.wt_regions.specs.Lists.{Entry, Lists, lists_of, main_cap, protected_cap, weight_of}
use Rattle.wt_regions.specs.Touch.{promoted, touched}
use Rattle.wt_regions.specs.Lawful.{IsLawful}

module _ {K V : Type 0} (eq : K → K → Bool) (k : K) (f : Held V → Held V) where
  -- as `freshen` leaves a list
  abbrev pub brought : List (Entry K V) → List (Entry K V)
  brought es = option_map_or (λ (e : Entry K V). (e.0, f e.1) ∷ remove_entry (eq k) es) (lookup_entry (eq k) es) es

  -- as `promote` leaves probation and protected
  abbrev pub promoted-0 : Caps → List (Entry K V) → List (Entry K V) → List (Entry K V)
  promoted-0 c ps qs = option_map_or (λ (e : Entry K V). (promoted c (e.0, f e.1) (remove_entry (eq k) ps) qs).0)
      (lookup_entry (eq k) ps) ps

  abbrev pub promoted-1 : Caps → List (Entry K V) → List (Entry K V) → List (Entry K V)
  promoted-1 c ps qs = option_map_or (λ (e : Entry K V). (promoted c (e.0, f e.1) (remove_entry (eq k) ps) qs).1)
      (lookup_entry (eq k) ps) qs

  -- touch in the three cases
  touched-window_at : (c : Caps) (ws ps qs : List (Entry K V)) (o : Option (Entry K V)) → lookup_entry (eq k) ws ≡ o
      → is_some (lookup (eq k) ws) ≡ true
      → touched eq k f (lists_of c ws ps qs) ≡ lists_of c (brought ws) ps qs
  touched-window_at c ws ps qs None h s = let none = lookup_none-entry (eq k) ws h in let s' = rw none at s in cc
  touched-window_at c ws ps qs (Some e) h s = rw h

  pub touched-window : (c : Caps) (ws ps qs : List (Entry K V)) → is_some (lookup (eq k) ws) ≡ true
      → touched eq k f (lists_of c ws ps qs) ≡ lists_of c (brought ws) ps qs
  touched-window c ws ps qs s = touched-window_at c ws ps qs (lookup_entry (eq k) ws) refl s

  touched-probation_at : (c : Caps) (ws ps qs : List (Entry K V)) (o : Option (Entry K V)) → lookup_entry (eq k) ps ≡ o
      → lookup (eq k) ws ≡ None → is_some (lookup (eq k) ps) ≡ true
      → touched eq k f (lists_of c ws ps qs) ≡ lists_of c ws (promoted-0 c ps qs) (promoted-1 c ps qs)
  touched-probation_at c ws ps qs None h n s = let none = lookup_none-entry (eq k) ps h in let s' = rw none at s in cc
  touched-probation_at c ws ps qs (Some e) h n s = let nw = lookup_entry-none (eq k) ws n in rw (nw, h)

  pub touched-probation : (c : Caps) (ws ps qs : List (Entry K V)) → lookup (eq k) ws ≡ None → is_some (lookup (eq k) ps) ≡ true
      → touched eq k f (lists_of c ws ps qs) ≡ lists_of c ws (promoted-0 c ps qs) (promoted-1 c ps qs)
  touched-probation c ws ps qs n s = touched-probation_at c ws ps qs (lookup_entry (eq k) ps) refl n s

  touched-protected_at : (c : Caps) (ws ps qs : List (Entry K V)) (o : Option (Entry K V)) → lookup_entry (eq k) qs ≡ o
      → lookup (eq k) ws ≡ None → lookup (eq k) ps ≡ None
      → touched eq k f (lists_of c ws ps qs) ≡ lists_of c ws ps (brought qs)
  touched-protected_at c ws ps qs None h n m = let nw = lookup_entry-none (eq k) ws n in
      let np = lookup_entry-none (eq k) ps m in rw (nw, np, h)
  touched-protected_at c ws ps qs (Some e) h n m = let nw = lookup_entry-none (eq k) ws n in
      let np = lookup_entry-none (eq k) ps m in rw (nw, np, h)

  pub touched-protected : (c : Caps) (ws ps qs : List (Entry K V)) → lookup (eq k) ws ≡ None → lookup (eq k) ps ≡ None
      → touched eq k f (lists_of c ws ps qs) ≡ lists_of c ws ps (brought qs)
  touched-protected c ws ps qs n m = touched-protected_at c ws ps qs (lookup_entry (eq k) qs) refl n m

  module _ (laws : IsEquivalence eq) (measure : V → Measure) (keeps : (e : Entry K V) → bare e ≡ bare (e.0, f e.1)) where
    brought-moves_at : (es : List (Entry K V)) (o : Option (Entry K V)) → lookup_entry (eq k) es ≡ o
        → Moves es (option_map_or (λ (e : Entry K V). (e.0, f e.1) ∷ remove_entry (eq k) es) o es)
    brought-moves_at es None h = moves-refl es
    brought-moves_at es (Some e) h = bring-moves eq k f keeps es e h

    pub brought-moves : (es : List (Entry K V)) → Moves es (brought es)
    brought-moves es = brought-moves_at es (lookup_entry (eq k) es) refl

    promoted-moves_at : (c : Caps) (ps qs : List (Entry K V)) (o : Option (Entry K V)) → lookup_entry (eq k) ps ≡ o
        → Moves (ps ++ qs) (option_map_or (λ (e : Entry K V). (promoted c (e.0, f e.1) (remove_entry (eq k) ps) qs).0) o ps
        ++ option_map_or (λ (e : Entry K V). (promoted c (e.0, f e.1) (remove_entry (eq k) ps) qs).1) o qs)
    promoted-moves_at c ps qs None h = moves-refl (ps ++ qs)
    promoted-moves_at c ps qs (Some e) h = promote-brings eq k f keeps c ps qs e h

    pub promoted-moves : (c : Caps) (ps qs : List (Entry K V)) → Moves (ps ++ qs) (promoted-0 c ps qs ++ promoted-1 c ps qs)
    promoted-moves c ps qs = promoted-moves_at c ps qs (lookup_entry (eq k) ps) refl

    -- protected stays within its cap
    pub promote-fits_at : (c : Caps) (e : Entry K V) (ps qs : List (Entry K V)) (b : Bool)
        → nat_lt (length qs) (protected_cap c) ≡ b → (o : Option (Entry K V)) → last_entry (e ∷ qs) ≡ o
        → length qs ≤ protected_cap c
        → length (promoted_so e ps qs b o).1 ≤ protected_cap c
    promote-fits_at c e ps qs true t o l h = room_for (length qs) (protected_cap c) t
    promote-fits_at c e ps qs false t None l h = absurd (no_last_none e qs l)
    promote-fits_at c e ps qs false t (Some l') l h = let n = length-take (length (e ∷ qs) - 1) (e ∷ qs) in omega (arith, n)

    promoted-fits_at : (c : Caps) (ps qs : List (Entry K V)) (o : Option (Entry K V)) → length qs ≤ protected_cap c
        → length (option_map_or (λ (e : Entry K V). (promoted c (e.0, f e.1) (remove_entry (eq k) ps) qs).1) o qs) ≤ protected_cap c
    promoted-fits_at c ps qs None h = h
    promoted-fits_at c ps qs (Some e) h =
        promote-fits_at c (e.0, f e.1) (remove_entry (eq k) ps) qs (nat_lt (length qs) (protected_cap c)) refl
        (last_entry ((e.0, f e.1) ∷ qs)) refl h

    probation-lawful : (c : Caps) (ws ps qs : List (Entry K V)) → IsLawful eq measure (lists_of c ws ps qs)
        → IsLawful eq measure (lists_of c ws (promoted-0 c ps qs) (promoted-1 c ps qs))
        × (weight_of (lists_of c ws (promoted-0 c ps qs) (promoted-1 c ps qs)) ≡ weight_of (lists_of c ws ps qs))
    probation-lawful c ws ps qs law =
        let m = promoted-moves c ps qs in
        let n = moves-length (ps ++ qs) (promoted-0 c ps qs ++ promoted-1 c ps qs) m in
        let both : length (promoted-0 c ps qs) + length (promoted-1 c ps qs) ≡ length ps + length qs =
        sym (length-append (promoted-0 c ps qs) (promoted-1 c ps qs)) ∙ n ∙ length-append ps qs in
        lawful-moves eq measure laws (lists_of c ws ps qs) (lists_of c ws (promoted-0 c ps qs) (promoted-1 c ps qs)) refl
        (moves-right eq k f keeps ws (ps ++ qs) (promoted-0 c ps qs ++ promoted-1 c ps qs) m)
        law.window (promoted-fits_at c ps qs (lookup_entry (eq k) ps) law.protected)
        (subst (λ n. n ≤ main_cap c) (sym both) law.main_part) law

    window-lawful : (c : Caps) (ws ps qs : List (Entry K V)) → IsLawful eq measure (lists_of c ws ps qs)
        → IsLawful eq measure (lists_of c (brought ws) ps qs) × (weight_of (lists_of c (brought ws) ps qs) ≡ weight_of (lists_of c ws ps qs))
    window-lawful c ws ps qs law =
        let m : Moves ws (brought ws) = brought-moves ws in
        let n = moves-length ws (brought ws) m in
        lawful-moves eq measure laws (lists_of c ws ps qs) (lists_of c (brought ws) ps qs) refl
        (moves-left eq k f keeps (ps ++ qs) ws (brought ws) m)
        (rw n law.window) law.protected law.main_part law

    protected-lawful : (c : Caps) (ws ps qs : List (Entry K V)) → IsLawful eq measure (lists_of c ws ps qs)
        → IsLawful eq measure (lists_of c ws ps (brought qs)) × (weight_of (lists_of c ws ps (brought qs)) ≡ weight_of (lists_of c ws ps qs))
    protected-lawful c ws ps qs law =
        let m : Moves qs (brought qs) = brought-moves qs in
        let n = moves-length qs (brought qs) m in
        lawful-moves eq measure laws (lists_of c ws ps qs) (lists_of c ws ps (brought qs)) refl
        (moves-right eq k f keeps ws (ps ++ qs) (ps ++ brought qs) (moves-right eq k f keeps ps qs (brought qs) m))
        law.window (rw n law.protected) (rw n law.main_part) law

    -- what a touch keeps, wherever the entry is
    abbrev pub IsKept : Lists K V → Lists K V → Type 0
    IsKept r s = IsLawful eq measure s × (weight_of s ≡ weight_of r)

    touched-kept_at : (c : Caps) (ws ps qs : List (Entry K V)) (ow op : Option (Held V)) → lookup (eq k) ws ≡ ow
        → lookup (eq k) ps ≡ op → IsLawful eq measure (lists_of c ws ps qs)
        → IsKept (lists_of c ws ps qs) (touched eq k f (lists_of c ws ps qs))
    touched-kept_at c ws ps qs (Some h) op iw ip law =
        let l = window-lawful c ws ps qs law in
        subst (IsKept (lists_of c ws ps qs)) (sym (touched-window c ws ps qs (rw iw refl))) l
    touched-kept_at c ws ps qs None (Some h) iw ip law =
        let l = probation-lawful c ws ps qs law in
        subst (IsKept (lists_of c ws ps qs)) (sym (touched-probation c ws ps qs iw (rw ip refl))) l
    touched-kept_at c ws ps qs None None iw ip law =
        let l = protected-lawful c ws ps qs law in
        subst (IsKept (lists_of c ws ps qs)) (sym (touched-protected c ws ps qs iw ip)) l

    pub touched-kept : (r : Lists K V) → IsLawful eq measure r → IsKept r (touched eq k f r)
    touched-kept r law = touched-kept_at r.caps r.window r.probation r.protected (lookup (eq k) r.window)
        (lookup (eq k) r.probation) refl refl law

-- `put` at a key that is there
put-there_at : {K V : Type 0} (eq : K → K → Bool) (c : LruCache K (Held V)) (k : K) (v : Held V)
    (o : Option (Entry K V)) → lookup_entry (eq k) c.entries ≡ o → is_some (lookup (eq k) c.entries) ≡ true
    → put_entries eq c k v ≡ option_map_or (λ (e : Entry K V). (e.0, v) ∷ remove_entry (eq k) c.entries)
    (lookup_entry (eq k) c.entries) c.entries
put-there_at eq c k v None h s = let n = lookup_none-entry (eq k) c.entries h in let s' = rw n at s in cc
put-there_at eq c k v (Some e) h s = rw h

pub put-there : {K V : Type 0} (eq : K → K → Bool) (c : LruCache K (Held V)) (k : K) (v : Held V) → is_some (lookup (eq k) c.entries) ≡ true
    → put_entries eq c k v ≡ option_map_or (λ (e : Entry K V). (e.0, v) ∷ remove_entry (eq k) c.entries)
    (lookup_entry (eq k) c.entries) c.entries
put-there eq c k v s = put-there_at eq c k v (lookup_entry (eq k) c.entries) refl s
