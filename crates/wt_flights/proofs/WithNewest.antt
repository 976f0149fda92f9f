-- What the words on lists say where a test finds nothing, and of the older ones with the newest one at the end.
use Rattle.std.proofs.Common.{◌≡◌, Bool, true, false, not, cond, List, [], ◌∷◌, ◌++◌, map, filter, Option, Some, None, sym, refl, ap, ◌∙◌, ⊎_elim, append-nil}
use Rattle.std.specs.Prelude.{IsNone}
use Rattle.std.specs.Option.{option_map, option_or, option_to_list}
use Rattle.std.specs.List.{find, All, AllByRecursion}
use Rattle.std.proofs.lemmas.List.{map-append}
use Rattle.std.proofs.lemmas.List.Elements.{filter-append, All-from_recursion, All-tail, All-head}
use Rattle.std.proofs.lemmas.List.Folds.{find-append}
use Rattle.wt_flights.specs.declared.row.Row.{Row}
use Rattle.wt_flights.specs.Newest.{with_newest}
use Rattle.wt_flights.proofs.Lookups.{flag}

-- where nothing is told, there was nothing
pub nothing_mapped : {X Y : Type 0} (f : X → Y) (o : Option X) → IsNone (option_map f o) → o ≡ None
nothing_mapped f None none = refl
nothing_mapped f (Some x) none = absurd (cc)

option_or-None : {X : Type 0} (o : Option X) → option_or o None ≡ o
option_or-None None = refl
option_or-None (Some x) = refl

option_map-option_or : {X Y : Type 0} (f : X → Y) (o q : Option X)
    → option_map f (option_or o q) ≡ option_or (option_map f o) (option_map f q)
option_map-option_or f None q = refl
option_map-option_or f (Some x) q = refl

module _ {X : Type 0} (p : X → Bool) where
  find-head : (x : X) (xs : List X) → p x ≡ true → find p (x ∷ xs) ≡ Some x
  find-head x xs t i = cond (t i) (Some x) (find p xs)

  find-tail : (x : X) (xs : List X) → p x ≡ false → find p (x ∷ xs) ≡ find p xs
  find-tail x xs f i = cond (f i) (Some x) (find p xs)

  -- what a test doesn't find in a list, is neither its head nor in its tail
  none_in : (x : X) (xs : List X) → find p (x ∷ xs) ≡ None → (p x ≡ false) × (find p xs ≡ None)
  none_in x xs none = ⊎_elim
      (λ (t : p x ≡ true). let e = find-head x xs t in absurd (cc))
      (λ (f : p x ≡ false). (f, sym (find-tail x xs f) ∙ none))
      (flag (p x))

  -- a test that finds nothing fails at each element
  pub All-find_none : (xs : List X) → find p xs ≡ None → All (λ x. p x ≡ false) xs
  All-find_none xs none = All-from_recursion (λ x. p x ≡ false) xs (each xs none)
    where
      each : (ys : List X) → find p ys ≡ None → AllByRecursion (λ x. p x ≡ false) ys
      each [] e = tt
      each (y ∷ ys) e = let h = none_in y ys e in (h.0, each ys h.1)

  -- a test that fails at each element finds nothing
  pub find_fails : (xs : List X) → All (λ x. p x ≡ false) xs → find p xs ≡ None
  find_fails [] h = refl
  find_fails (x ∷ xs) h = find-tail x xs (All-head (λ x. p x ≡ false) x xs h) ∙ find_fails xs (All-tail (λ x. p x ≡ false) x xs h)

  -- ---- where a test finds nothing
  -- nothing that it finds is filtered out
  filter_none : (xs : List X) → find p xs ≡ None → filter (λ x. not (p x)) xs ≡ xs
  filter_none [] none = refl
  filter_none (x ∷ xs) none =
      let h = none_in x xs none in
      let tail : filter (λ y. not (p y)) xs ≡ xs = filter_none xs h.1 in
      (λ i. cond (not (h.0 i)) (x ∷ filter (λ y. not (p y)) xs) (filter (λ y. not (p y)) xs)) ∙ ap (λ (l : List X). x ∷ l) tail

  -- nothing that it finds is changed
  map_none : (u : X → X) (xs : List X) → find p xs ≡ None → map (λ x. cond (p x) (u x) x) xs ≡ xs
  map_none u [] none = refl
  map_none u (x ∷ xs) none =
      let h = none_in x xs none in
      let tail : map (λ y. cond (p y) (u y) y) xs ≡ xs = map_none u xs h.1 in
      (λ i. cond (h.0 i) (u x) x ∷ map (λ y. cond (p y) (u y) y) xs) ∙ ap (λ (l : List X). x ∷ l) tail

  -- it finds nothing after a change at which what fails still fails
  pub find-map_none : (u : X → X) → ((x : X) → p x ≡ false → p (u x) ≡ false) → (xs : List X) → find p xs ≡ None → find p (map u xs) ≡ None
  find-map_none u fails [] none = refl
  find-map_none u fails (x ∷ xs) none =
      let h = none_in x xs none in
      find-tail (u x) (map u xs) (fails x h.0) ∙ find-map_none u fails xs h.1

  -- it finds nothing among fewer
  pub find-filter_none : (q : X → Bool) (xs : List X) → find p xs ≡ None → find p (filter q xs) ≡ None
  find-filter_none q [] none = refl
  find-filter_none q (x ∷ xs) none =
      let h = none_in x xs none in
      let tail : find p (filter q xs) ≡ None = find-filter_none q xs h.1 in
      ⊎_elim
      (λ (t : q x ≡ true). (λ i. find p (cond (t i) (x ∷ filter q xs) (filter q xs))) ∙ find-tail x (filter q xs) h.0 ∙ tail)
      (λ (f : q x ≡ false). (λ i. find p (cond (f i) (x ∷ filter q xs) (filter q xs))) ∙ tail)
      (flag (q x))

  -- ---- one more at the end
  pub find-push_passes : (xs : List X) (x : X) → find p xs ≡ None → p x ≡ true → find p (xs ++ x ∷ []) ≡ Some x
  find-push_passes xs x none t = find-append p xs (x ∷ []) ∙ ap (λ o. option_or o (find p (x ∷ []))) none ∙ find-head x [] t

  find-push_fails : (xs : List X) (x : X) → p x ≡ false → find p (xs ++ x ∷ []) ≡ find p xs
  find-push_fails xs x f = find-append p xs (x ∷ []) ∙ ap (λ o. option_or (find p xs) o) (find-tail x [] f) ∙ option_or-None (find p xs)

  pub filter-push_passes : (xs : List X) (x : X) → find p xs ≡ None → p x ≡ true → filter (λ y. not (p y)) (xs ++ x ∷ []) ≡ xs
  filter-push_passes xs x none t =
      let front : List X = filter (λ y. not (p y)) xs in
      let last : filter (λ y. not (p y)) (x ∷ []) ≡ [] = λ i. cond (not (t i)) (x ∷ []) [] in
      filter-append (λ y. not (p y)) xs (x ∷ []) ∙ ap (λ l. front ++ l) last ∙ append-nil front ∙ filter_none xs none

  map-push_passes : (u : X → X) (xs : List X) (x : X) → find p xs ≡ None → p x ≡ true
      → map (λ y. cond (p y) (u y) y) (xs ++ x ∷ []) ≡ xs ++ u x ∷ []
  map-push_passes u xs x none t =
      let change : X → X = λ y. cond (p y) (u y) y in
      let last : map change (x ∷ []) ≡ u x ∷ [] = λ i. cond (t i) (u x) x ∷ [] in
      map-append change xs (x ∷ []) ∙ ap (λ l. map change xs ++ l) last ∙ ap (λ l. l ++ u x ∷ []) (map_none u xs none)

  -- the only one is found
  pub passes_last : (x y : X) → find p (x ∷ []) ≡ Some y → (p x ≡ true) × (x ≡ y)
  passes_last x y found = ⊎_elim
      (λ (t : p x ≡ true). let e = find-head x [] t in let its : x ≡ y = cc in (t, its))
      (λ (f : p x ≡ false). let e = find-tail x [] f in absurd (cc))
      (flag (p x))

-- ---- the older rows and the newest one
module _ {K : Type 0} (p : Row K → Bool) where
  pub find-with_newest_passes : (newest : Option (Row K)) (rows : List (Row K)) (r : Row K) → find p rows ≡ None
      → find p (option_to_list newest) ≡ Some r
      → find p (with_newest newest rows) ≡ Some r
  find-with_newest_passes None rows r none found = absurd (cc)
  find-with_newest_passes (Some s) rows r none found = find-append p rows (s ∷ []) ∙ ap (λ o. option_or o (find p (s ∷ []))) none ∙ found

  pub find-with_newest_fails : (newest : Option (Row K)) (rows : List (Row K)) → find p (option_to_list newest) ≡ None
      → find p (with_newest newest rows) ≡ find p rows
  find-with_newest_fails None rows none = refl
  find-with_newest_fails (Some s) rows none = find-push_fails p rows s (none_in p s [] none).0

  pub filter-with_newest_passes : (newest : Option (Row K)) (rows : List (Row K)) (r : Row K) → find p rows ≡ None
      → find p (option_to_list newest) ≡ Some r
      → filter (λ s. not (p s)) (with_newest newest rows) ≡ rows
  filter-with_newest_passes None rows r none found = absurd (cc)
  filter-with_newest_passes (Some s) rows r none found = filter-push_passes p rows s none (passes_last p s r found).0

  pub map-with_newest_passes : (u : Row K → Row K) (newest : Option (Row K)) (rows : List (Row K)) (r : Row K) → find p rows ≡ None
      → find p (option_to_list newest) ≡ Some r → map (λ s. cond (p s) (u s) s) (with_newest newest rows) ≡ rows ++ u r ∷ []
  map-with_newest_passes u None rows r none found = absurd (cc)
  map-with_newest_passes u (Some s) rows r none found =
      let passes = passes_last p s r found in
      map-push_passes p u rows s none passes.0 ∙ ap (λ x. rows ++ u x ∷ []) passes.1

  -- what is told of the first that passes
  pub option_map-find_with_newest : {Y : Type 0} (f : Row K → Y) (newest : Option (Row K)) (rows : List (Row K))
      → option_map f (find p (with_newest newest rows))
      ≡ option_or (option_map f (find p rows)) (option_map f (find p (option_to_list newest)))
  option_map-find_with_newest f None rows = sym (option_or-None (option_map f (find p rows)))
  option_map-find_with_newest f (Some s) rows = ap (option_map f) (find-append p rows (s ∷ []))
      ∙ option_map-option_or f (find p rows) (find p (s ∷ []))
