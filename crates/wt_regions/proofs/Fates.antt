-- What settle gives by cases.
use Rattle.std.proofs.Common.{◌≡◌, ℕ, suc, ◌-◌, Bool, true, false, cond, List, [], ◌∷◌, length, Option, Some, None, refl, sym, ap, ◌∙◌, arith}
use Rattle.std.specs.Option.{option_map_or, is_some}
use Rattle.lru.specs.LruCache.{last_entry}
use Rattle.wt_regions.specs.declared.caps.Caps.{Caps}
use Rattle.wt_regions.specs.declared.notices.Notice.{Notice}
use Rattle.wt_regions.specs.declared.notices.Cause.{Cause}
use Rattle.wt_regions.specs.declared.notices.Cause.TheVariants.{Expired, Size}
use Rattle.wt_regions.specs.declared.settle.Fate.{Fate}
use Rattle.wt_regions.specs.declared.settle.Fate.TheVariants.{Leaves, Enters, Ousts}
use Rattle.wt_regions.proofs.Apart.{last_below}
use Rattle.wt_regions.specs.Lists.{Entry, Lists, all_but_last, notice}
use Rattle.wt_regions.specs.Settle.{fate, overflowed}

module _ {K V : Type 0} where
  ousts_at : (a b c : Bool) (f : Entry K V → Fate) (o : Option (Entry K V)) (why : Cause)
      → cond a (Leaves Expired) (cond b (Leaves Size) (cond c Enters (option_map_or f o (Leaves Size)))) ≡ Ousts why
      → is_some o ≡ true
  ousts_at true b c f o why h = cc
  ousts_at false true c f o why h = cc
  ousts_at false false true f o why h = cc
  ousts_at false false false f None why h = cc
  ousts_at false false false f (Some x) why h = refl

  pub all_but_last-cons : (x : Entry K V) (es : List (Entry K V)) → is_some (last_entry es) ≡ true
      → all_but_last (x ∷ es) ≡ x ∷ all_but_last es
  all_but_last-cons x [] h = cc
  all_but_last-cons x (e ∷ es) h =
      let n : length (x ∷ e ∷ es) - 1 ≡ suc (length es) = omega arith in
      let m : length (e ∷ es) - 1 ≡ length es = omega arith in
      rw (n, m)

  last_below_so_at : (x : Entry K V) (es : List (Entry K V)) (o : Option (Entry K V)) → last_entry es ≡ o
      → is_some o ≡ true → last_entry (x ∷ es) ≡ last_entry es
  last_below_so_at x es None h s = cc
  last_below_so_at x es (Some l) h s = last_below x es l h ∙ sym h

  pub last_below_so : (x : Entry K V) (es : List (Entry K V)) → is_some (last_entry es) ≡ true → last_entry (x ∷ es) ≡ last_entry es
  last_below_so x es s = last_below_so_at x es (last_entry es) refl s

  module _ (estimate : K → ℕ) (now : ℕ) where
    pub ousts_some : (caps : Caps) (c : Entry K V) (ps qs : List (Entry K V)) (why : Cause)
        → fate estimate now caps c ps qs ≡ Ousts why → is_some (last_entry ps) ≡ true
    ousts_some caps c ps qs why h = ousts_at _ _ _ _ (last_entry ps) why h

    -- the candidate leaves
    pub overflowed-leaves : (r : Lists K V) (c : Entry K V) (why : Cause) → last_entry r.window ≡ Some c
        → fate estimate now r.caps c r.probation r.protected ≡ Leaves why
        → overflowed estimate now r ≡ (record r { window = all_but_last r.window }, notice why c ∷ [])
    overflowed-leaves r c why at is = rw (at, is)

    -- it enters probation
    pub overflowed-enters : (r : Lists K V) (c : Entry K V) → last_entry r.window ≡ Some c
        → fate estimate now r.caps c r.probation r.protected ≡ Enters
        → overflowed estimate now r ≡ (record r { window = all_but_last r.window; probation = c ∷ r.probation }, [])
    overflowed-enters r c at is = rw (at, is)

    module _ (r : Lists K V) (c : Entry K V) (why : Cause) (at : last_entry r.window ≡ Some c)
        (is : fate estimate now r.caps c r.probation r.protected ≡ Ousts why) where
      overflowed-ousts : overflowed estimate now r
          ≡ (
            record r { window = all_but_last r.window; probation = c ∷ all_but_last r.probation },
            option_map_or (λ v. notice why v ∷ []) (last_entry r.probation) [],
          )
      overflowed-ousts = rw (at, is)

      pub overflowed-ousts-0 : (overflowed estimate now r).0
          ≡ record r { window = all_but_last r.window; probation = all_but_last (c ∷ r.probation) }
      overflowed-ousts-0 = let p : (overflowed estimate now r).0
          ≡ record r { window = all_but_last r.window; probation = c ∷ all_but_last r.probation } =
          ap (λ (p : Lists K V × List (Notice K V)). p.0) overflowed-ousts in
          let q = all_but_last-cons c r.probation (ousts_some r.caps c r.probation r.protected why is) in
          p ∙ ap (λ (es : List (Entry K V)). record r { window = all_but_last r.window; probation = es }) (sym q)

      pub overflowed-ousts-1 : (overflowed estimate now r).1 ≡ option_map_or (λ v. notice why v ∷ []) (last_entry (c ∷ r.probation)) []
      overflowed-ousts-1 = let p : (overflowed estimate now r).1
          ≡ option_map_or (λ v. notice why v ∷ []) (last_entry r.probation) [] =
          ap (λ (p : Lists K V × List (Notice K V)). p.1) overflowed-ousts in
          let q = last_below_so c r.probation (ousts_some r.caps c r.probation r.protected why is) in
          p ∙ ap (λ (o : Option (Entry K V)). option_map_or (λ v. notice why v ∷ []) o []) (sym q)
