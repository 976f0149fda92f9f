-- A call with a text, by the name that the text has and the cache that is asked.
use Rattle.std.proofs.Common.{◌≡◌, ℕ, List, Option, Some, None, sym, subst}
use Rattle.std.specs.Prelude.{IfSome}
use Rattle.wt_ffi.specs.declared.opened.Opened.{Opened}
use Rattle.wt_ffi.specs.declared.opened.Opened.TheVariants as kind
use Rattle.wt_ffi.specs.Open.{Open}
use Rattle.wt_ffi.specs.Kinds.{named}
use Rattle.wt_ffi.specs.Names.{asked_for}

-- what holds of this name and a cache of names holds of what is asked
pub if-asked : (P : List ℕ → Open (List ℕ) → Type 0) (o : Option (List ℕ)) (name : List ℕ) (opened : Option Opened)
    → o ≡ Some name → IfSome (named opened) (P name) → IfSome (asked_for o opened) (λ a. P a.name a.cache)
if-asked P None name opened is h = tt
if-asked P (Some n) name None is h = tt
if-asked P (Some n) name (Some (kind.Numbers c)) is h = tt
if-asked P (Some n) name (Some (kind.Names c)) is h = let same : n ≡ name = cc in subst (λ (m : List ℕ). P m c) (sym same) h
