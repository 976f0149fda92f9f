-- A list's entries and tags, as the list grows.
use Rattle.std.proofs.Common.{◌≡◌, ℕ, suc, List, [], ◌∷◌, ◌++◌, length, map, refl, ap, sym, ◌∙◌, append_assoc, append-nil}
use Rattle.std.specs.Option.{option_to_list}
use mathlib.Core.List.{IsPrefix}
use Rattle.wt_history.specs.declared.tags.Tagged.{Tagged}
use Rattle.wt_history.specs.Tags.{entries_of, tags_of}

module _ {E : Type 0} where
  pub entries-append : (xs ys : List (Tagged E)) → entries_of (xs ++ ys) ≡ entries_of xs ++ entries_of ys
  entries-append [] ys = refl
  entries-append (x ∷ xs) ys = ap (λ w. x.entry ∷ w) (entries-append xs ys)

  pub tags-append : (xs ys : List (Tagged E)) → tags_of (xs ++ ys) ≡ tags_of xs ++ tags_of ys
  tags-append [] ys = refl
  tags-append (x ∷ xs) ys = ap (λ w. option_to_list x.tag ++ w) (tags-append xs ys)
      ∙ sym (append_assoc (option_to_list x.tag) (tags_of xs) (tags_of ys))

  pub entries-length : (xs : List (Tagged E)) → length (entries_of xs) ≡ length xs
  entries-length [] = refl
  entries-length (x ∷ xs) = ap suc (entries-length xs)

  pub entries-prefix : (xs ys : List (Tagged E)) → IsPrefix xs ys → IsPrefix (entries_of xs) (entries_of ys)
  entries-prefix xs ys p = (entries_of p.0, sym (entries-append xs p.0) ∙ ap entries_of p.1)

  pub tags-prefix : (xs ys : List (Tagged E)) → IsPrefix xs ys → IsPrefix (tags_of xs) (tags_of ys)
  tags-prefix xs ys p = (tags_of p.0, sym (tags-append xs p.0) ∙ ap tags_of p.1)
