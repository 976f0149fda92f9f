-- Which landing each load of a shard has: the tags of the shard's history.
use Rattle.std.specs.Prelude.{◌≡◌, ℕ, ◌+◌, List, [], ◌∷◌, Option, Some, None, length, slice_get, slice_index_or}
use Rattle.std.specs.List.{AllByRecursion}
use Rattle.wt_history.specs.Names.{Book, no_book}
use Rattle.wt_flights.specs.Outcomes.{Leading}
use Rattle.wt_shards.specs.declared.sought.Sought.{Sought}
use Rattle.wt_shards.specs.declared.sought.Sought.TheVariants.{Hit, HitLead, Join, Lead}
use Rattle.wt_shards.specs.declared.landings.Sharing.{Sharing}

-- the load of this id has this landing: ids count from 1, in the order of the tags
abbrev pub IsLandingOf : List ℕ → ℕ → ℕ → Type 0
IsLandingOf tags id landing = (place : ℕ) × (id ≡ place + 1) × (slice_get tags place ≡ Some landing)

-- each load that was opened has its tag, and so has each of these landings, which are open
abbrev pub AreTagged : {K : Type 0} → List ℕ → ℕ → List (Leading K) → Type 0
AreTagged {K} tags next ls = (length tags + 1 ≡ next) × AllByRecursion (λ (l : Leading K). IsLandingOf tags l.id l.landing) ls

module _ {K V : Type 0} where
  -- the tag of a seek with this answer: the landing of the load that it opens
  abbrev pub tag_of : Sought K V → Option ℕ
  tag_of (Hit v) = None
  tag_of (HitLead v lead ticket) = Some lead.landing
  tag_of (Join ticket) = None
  tag_of (Lead lead ticket) = Some lead.landing

  -- the ticket that a seek brings is of the landing of its load
  abbrev pub IsOfItsLoad : List ℕ → Sought K V → Type 0
  IsOfItsLoad tags (Hit v) = Unit {0}
  IsOfItsLoad tags (HitLead v lead ticket) = IsLandingOf tags ticket.id ticket.landing
  IsOfItsLoad tags (Join ticket) = IsLandingOf tags ticket.id ticket.landing
  IsOfItsLoad tags (Lead lead ticket) = IsLandingOf tags ticket.id ticket.landing

  -- what is known of the loads is of this history, and the ticket is of the landing of its load
  abbrev pub IsShared : Book → Sharing K V → Type 0
  IsShared book s = (s.landings.book ≡ book) × IsOfItsLoad s.landings.tags s.sought

-- the history of the shard of a number, of these four
abbrev pub book_at : ℕ → Book → Book → Book → Book → Book
book_at i zero one two three = slice_index_or (zero ∷ one ∷ two ∷ three ∷ []) i no_book
