-- What a history shows: its entries, and the tags of those that have one.
use Rattle.std.specs.Prelude.{ℕ, List, [], ◌∷◌, ◌++◌, map}
use Rattle.std.specs.Option.{option_to_list}
use Rattle.wt_history.specs.declared.tags.Tagged.{Tagged}
pub use Rattle.logbook.specs.Pages.{Book}

-- what is seen of a history: its entries and its tags
pub record Listed (E : Type 0) : Type 0 where
  pub entries : List E
  pub tags : List ℕ

-- which history it is, and its first tags
pub record Known : Type 0 where
  pub book : Book
  pub tags : List ℕ

module _ {E : Type 0} where
  -- the entries, without their tags
  abbrev pub entries_of : List (Tagged E) → List E
  entries_of = map (λ (e : Tagged E). e.entry)

  -- the tags, in the order of their entries
  abbrev pub tags_of : List (Tagged E) → List ℕ
  tags_of [] = []
  tags_of (e ∷ es) = option_to_list e.tag ++ tags_of es

  -- both
  abbrev pub listed : List (Tagged E) → Listed E
  listed es = record { entries = entries_of es; tags = tags_of es }
