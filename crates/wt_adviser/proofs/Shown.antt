-- One more of several look-ups that an adviser is shown.
use Rattle.std.proofs.Common.{Result, Ok, Err, OnOk, ◌≡◌, ℕ, ◌+◌, ◌<◌, Bool, List, [], ◌∷◌, length, drop, get_or, refl, ap, sym, ◌∙◌, subst}
use Rattle.std.proofs.lemmas.List.{drop_more}
use Rattle.wt_adviser.specs.declared.adviser.Seen.{Seen}
use Rattle.wt_adviser.specs.Advice.{Advice, IsShown, saw_by}

-- what follows from what holds if there is a result
pub on-mapped : {A B T E : Type 0} (f : A → B) (r : Result T E) → OnOk r A → OnOk r B
on-mapped f (Ok x) a = f a
on-mapped f (Err e) a = tt

module _ {K : Type 0} (eq : K → K → Bool) (word : K → ℕ) where
  -- what is shown of the keys behind the first i makes the whole shown
  abbrev pub Leads : List K → ℕ → Advice K → Advice K → Type 0
  Leads keys i a c = (b : Advice K) → IsShown eq word (drop i keys) c b → IsShown eq word keys a b

  -- one key more
  pub leads-next : (keys : List K) (i : ℕ) (k : K) (seen : Seen) (a c : Advice K) → i < length keys → get_or keys i k ≡ k
      → Leads keys i a c → Leads keys (i + 1) a (saw_by eq word seen k c)
  leads-next keys i k seen a c lt is lead b rest =
      lead b (subst (λ (ks : List K). IsShown eq word ks c b) (sym (drop_more keys i k lt ∙ ap (λ x. x ∷ drop (i + 1) keys) is)) (seen, rest))

  -- no key more
  pub leads-all : (keys : List K) (i : ℕ) (a c : Advice K) → drop i keys ≡ [] → Leads keys i a c → IsShown eq word keys a c
  leads-all keys i a c none lead = lead c (subst (λ (ks : List K). IsShown eq word ks c c) (sym none) refl)
