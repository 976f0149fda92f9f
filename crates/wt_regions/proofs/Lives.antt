-- Entries without a life of their own.
use Rattle.std.proofs.Common.{◌≡◌, ℕ, Bool, true, false, ◌||◌, nat_lt, refl, ap, ◌∙◌, arith}
use Rattle.std.proofs.lemmas.Bool.Decides.{nat_tests}
use Rattle.wt_regions.specs.declared.caps.Caps.{Caps}
use Rattle.wt_regions.specs.declared.held.Held.{Held}
use Rattle.wt_regions.specs.declared.weighs.Measure.{Measure}
use Rattle.wt_regions.specs.Lists.{Lists, gone_by, is_expired, lifeless, measured}
use Rattle.wt_regions.specs.Lawful.{IsLawful}
use Rattle.wt_regions.specs.Moves.{HasNoLives}

-- there was no life before, and none is stored
pub none-before : (before : Bool) (life : ℕ) → before || nat_lt 0 life ≡ false → before ≡ false
none-before false n e = refl
none-before true n e = cc

pub none-stored : (before : Bool) (life : ℕ) → before || nat_lt 0 life ≡ false → life ≡ 0
none-stored false n e = grind (arith, nat_tests, e)
none-stored true n e = cc

or-false : (b : Bool) → b || false ≡ b
or-false true = refl
or-false false = refl

module _ {V : Type 0} where
  -- an entry without a life has the measure of its value with the life left out
  pub measured-lifeless : (measure : V → Measure) (h : Held V) → measured h ≡ measure h.value → (measure h.value).life ≡ 0
      → measured h ≡ lifeless measure h.value
  measured-lifeless measure h is none = is ∙ ap (λ (n : ℕ). record { weight = (measure h.value).weight; life = n }) none

  -- the rule for such an entry is that of the cache's durations alone
  pub expired-lifeless : (c : Caps) (now : ℕ) (h : Held V) → h.life ≡ 0
      → is_expired c now h ≡ (gone_by c.after_write h.written now || gone_by c.after_access h.accessed now)
  expired-lifeless c now h none = rw none (or-false (gone_by c.after_write h.written now || gone_by c.after_access h.accessed now))

-- regions that are lawful though lives are left out have no entry with one
pub none-lives : {K V : Type 0} (eq : K → K → Bool) (measure : V → Measure) (r : Lists K V) → IsLawful eq (lifeless measure) r → HasNoLives r
none-lives eq measure r law = λ k e at. ap (λ (m : Measure). m.life) (law.measures k e at)
