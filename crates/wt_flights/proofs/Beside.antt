-- What holds of the newest load and the older ones, and what the words say of the table of both.
use Rattle.std.proofs.Common.{◌≡◌, ◌≢◌, ℕ, ◌+◌, ◌-◌, ◌<◌, ◌≤◌, Bool, true, false, not, ◌&&◌, eqb, cond, List, [], ◌∷◌, ◌++◌, length, get_or}
use Rattle.std.proofs.Common.{Option, Some, None, sym, refl, ap, ◌∙◌, subst, ⊎_elim, arith, length-append}
use Rattle.std.specs.Prelude.{IsTrue, IsSomeAnd}
use Rattle.std.specs.Option.{option_map, option_or, option_to_list, is_some}
use Rattle.std.specs.List.{find, All}
use Rattle.std.specs.Cmp.{IsEquivalence}
use Rattle.std.proofs.lemmas.Bool.{eqb-true, eq-eqb, cases_lt}
use Rattle.std.proofs.lemmas.Bool.Decides.{eqb_tells}
use Rattle.std.proofs.lemmas.List.{length-map}
use Rattle.std.proofs.lemmas.List.Filters.{length-filter_both}
use Rattle.std.proofs.lemmas.List.Elements.{All-push, All-weaker}
use Rattle.std.proofs.lemmas.List.Quantifiers.{all_pairs_push}
use Rattle.wt_flights.specs.declared.row.Row.{Row}
use Rattle.wt_flights.specs.Lawful.{IsLawful}
use Rattle.wt_flights.specs.Newest.{with_newest, settled, beside, IsBeside}
use Rattle.wt_flights.specs.Rows.{Flights, row, is_current, current_row, oldest_load, one_more, not_current, joined, forgotten, landed, taken_back, CanTakeBack}
use Rattle.wt_flights.proofs.Lookups.{flag, both}
use Rattle.wt_flights.proofs.TakesBack.{some_and}
use Rattle.wt_flights.proofs.WithNewest.{nothing_mapped, All-find_none, find_fails, find-map_none, find-filter_none}
use Rattle.wt_flights.proofs.WithNewest.{find-push_passes, filter-push_passes, passes_last}
use Rattle.wt_flights.proofs.WithNewest.{find-with_newest_passes, find-with_newest_fails, option_map-find_with_newest, filter-with_newest_passes, map-with_newest_passes}

-- what is so for true and for false, is so for a flag
either : {X : Type 0} (b : Bool) (f : Bool → X) (x : X) → f true ≡ x → f false ≡ x → f b ≡ x
either true f x t e = t
either false f x t e = e

-- numbers that differ fail the test
differs : (m n : ℕ) → m ≢ n → eqb m n ≡ false
differs m n ne = ⊎_elim (λ (t : (eqb m n ≡ true) × (m ≡ n)). absurd (ne t.1)) (λ (f : (eqb m n ≡ false) × (m ≢ n)). f.0) (eqb_tells m n)

module _ {K : Type 0} where
  -- ---- by an id
  -- no row has an id that is past all of theirs
  row-past : (id next limit : ℕ) (rows : List (Row K)) → All (λ (r : Row K). r.id < next) rows → next ≤ id
      → row id (record { limit = limit; next = next; rows = rows }) ≡ None
  row-past id next limit rows below past = find_fails (λ r. eqb r.id id) rows
      (All-weaker (λ (r : Row K). r.id < next) (λ (r : Row K). eqb r.id id ≡ false)
      (λ r less. differs r.id id (λ e. omega arith)) rows below)

  -- the newest load, if it has the id
  pub last_is : (newest : Option (Row K)) (r : Row K) (id : ℕ) → newest ≡ Some r → r.id ≡ id
      → find (λ s. eqb s.id id) (option_to_list newest) ≡ Some r
  last_is newest r id is its = ap (λ o. find (λ s. eqb s.id id) (option_to_list o)) is ∙ (λ i. cond (eq-eqb r.id id its i) (Some r) None)

  -- the newest load, if it has another id
  pub last_differs : (newest : Option (Row K)) (r : Row K) (id : ℕ) → newest ≡ Some r → r.id ≢ id
      → find (λ s. eqb s.id id) (option_to_list newest) ≡ None
  last_differs newest r id is ne = ap (λ o. find (λ s. eqb s.id id) (option_to_list o)) is
      ∙ (λ i. cond (differs r.id id ne i) (Some r) None)

  module _ (eq : K → K → Bool) where
    -- where the newest load has the id, none of the older ones has
    row-older : (id : ℕ) (newest : Option (Row K)) (next : ℕ) (older : Flights K) (r : Row K) → IsLawful eq older
        → IsBeside eq newest next older
        → find (λ s. eqb s.id id) (option_to_list newest) ≡ Some r → row id older ≡ None
    row-older id None next older r lawful fits found = absurd (cc)
    row-older id (Some s) next older r lawful fits found =
        let its = eqb-true s.id id (passes_last (λ s. eqb s.id id) s r found).0 in
        let after = fits.placed.after in
        row-past id older.next older.limit older.rows lawful.below (omega (arith, its, after))

    -- the newest load has the id
    pub row-beside_newest : (id : ℕ) (newest : Option (Row K)) (next : ℕ) (older : Flights K) (r : Row K)
        → IsLawful eq older → IsBeside eq newest next older
        → find (λ s. eqb s.id id) (option_to_list newest) ≡ Some r → row id (beside newest next older) ≡ Some r
    row-beside_newest id newest next older r lawful fits found =
        find-with_newest_passes (λ s. eqb s.id id) newest older.rows r (row-older id newest next older r lawful fits found) found

    -- the newest load lands
    pub landed-beside_newest : (id : ℕ) (newest : Option (Row K)) (next : ℕ) (older : Flights K) (r : Row K)
        → IsLawful eq older → IsBeside eq newest next older
        → find (λ s. eqb s.id id) (option_to_list newest) ≡ Some r → landed id (beside newest next older) ≡ beside None next older
    landed-beside_newest id newest next older r lawful fits found = ap (λ rs. record { limit = older.limit; next = next; rows = rs })
        (filter-with_newest_passes (λ s. eqb s.id id) newest older.rows r (row-older id newest next older r lawful fits found) found)

  -- the newest load doesn't have the id
  pub row-beside_older : (id : ℕ) (newest : Option (Row K)) (next : ℕ) (older : Flights K)
      → find (λ s. eqb s.id id) (option_to_list newest) ≡ None
      → row id (beside newest next older) ≡ row id older
  row-beside_older id newest next older none = find-with_newest_fails (λ s. eqb s.id id) newest older.rows none

  -- ---- the load that was begun last
  rows-settled : (newest : Option (Row K)) (older : Flights K) → (settled newest older).rows ≡ with_newest newest older.rows
  rows-settled None older = refl
  rows-settled (Some r) older = refl

  -- a load that was just begun
  pub CanTakeBack-begun : (newest : Option (Row K)) (next : ℕ) (older older' : Flights K) (key : K)
      → All (λ (r : Row K). r.id < next) (with_newest newest older.rows) → older' ≡ settled newest older
      → CanTakeBack (beside (Some (record { id = next; key = key; current = true; sharers = 1 })) (next + 1) older')
  CanTakeBack-begun newest next older older' key below is =
      let new : Row K = record { id = next; key = key; current = true; sharers = 1 } in
      let has_id : Row K → Bool = λ r. eqb r.id (next + 1 - 1) in
      let rows : older'.rows ≡ with_newest newest older.rows = ap (λ (t : Flights K). t.rows) is ∙ rows-settled newest older in
      let all_below : All (λ (r : Row K). r.id < next) older'.rows = subst (λ rs. All (λ (r : Row K). r.id < next) rs) (sym rows) below in
      let none : find has_id older'.rows ≡ None = row-past (next + 1 - 1) next older'.limit older'.rows all_below (omega arith) in
      let found : find has_id (older'.rows ++ new ∷ []) ≡ Some new =
      find-push_passes has_id older'.rows new none (eq-eqb next (next + 1 - 1) (omega arith)) in
      subst (λ o. IsSomeAnd o (λ r. IsTrue r.current × (r.sharers ≡ 1))) (sym found) (refl, refl)

  module _ (eq : K → K → Bool) where
    -- where there is no newest load and one can be taken back, it is the last of the older ones
    next-older : (next : ℕ) (older : Flights K) → IsLawful eq older → older.next ≤ next
        → CanTakeBack (beside None next older) → older.next ≡ next
    next-older next older lawful least can = ⊎_elim
        (λ (t : next - 1 < older.next). omega arith)
        (λ (t : older.next ≤ next - 1).
        let none = row-past (next - 1) older.next older.limit older.rows lawful.below t in
        let found = some_and (row (next - 1) older) (λ r. IsTrue r.current × (r.sharers ≡ 1)) can in
        let at = found.1 in
        absurd (cc))
        (cases_lt (next - 1) older.next)

    -- then the older ones can take it back
    pub CanTakeBack-older : (newest : Option (Row K)) (next : ℕ) (older : Flights K) → IsLawful eq older
        → IsBeside eq newest next older → newest ≡ None
        → CanTakeBack (beside newest next older) → CanTakeBack older
    CanTakeBack-older (Some r) next older lawful fits is can = absurd (cc)
    CanTakeBack-older None next older lawful fits is can =
        subst (λ n. IsSomeAnd (row (n - 1) older) (λ r. IsTrue r.current × (r.sharers ≡ 1)))
        (sym (next-older next older lawful fits.below can)) can

    -- and it is taken back by them
    pub taken_back-beside_older : (newest : Option (Row K)) (next : ℕ) (older : Flights K) → IsLawful eq older
        → IsBeside eq newest next older → newest ≡ None
        → CanTakeBack (beside newest next older) → taken_back (beside newest next older) ≡ beside newest (next - 1) (taken_back older)
    taken_back-beside_older (Some r) next older lawful fits is can = absurd (cc)
    taken_back-beside_older None next older lawful fits is can =
        ap (λ n. record { limit = older.limit; next = next - 1; rows = (landed (n - 1) older).rows })
        (sym (next-older next older lawful fits.below can))

    -- the newest load is taken back
    pub taken_back-beside_newest : (newest : Option (Row K)) (next : ℕ) (older : Flights K) (r : Row K)
        → IsLawful eq older → IsBeside eq newest next older → newest ≡ Some r
        → taken_back (beside newest next older) ≡ beside None (next - 1) older
    taken_back-beside_newest None next older r lawful fits is = absurd (cc)
    taken_back-beside_newest (Some s) next older r lawful fits is =
        let last = fits.placed.last in
        let after = fits.placed.after in
        let none = row-past (next - 1) older.next older.limit older.rows lawful.below (omega arith) in
        ap (λ rs. record { limit = older.limit; next = next - 1; rows = rs })
        (filter-push_passes (λ (r : Row K). eqb r.id (next - 1)) older.rows s none (eq-eqb s.id (next - 1) (omega arith)))

  -- ---- by a key
  module _ (eq : K → K → Bool) (key : K) where
    -- the newest load isn't the key's current one
    pub current_row-beside_older : (newest : Option (Row K)) (next : ℕ) (older : Flights K)
        → find (is_current eq key) (option_to_list newest) ≡ None
        → current_row eq key (beside newest next older) ≡ current_row eq key older
    current_row-beside_older newest next older none = find-with_newest_fails (is_current eq key) newest older.rows none

    -- the key's oldest load, of the older ones or the newest
    pub oldest_load-beside : (newest : Option (Row K)) (next : ℕ) (older : Flights K)
        → option_map (λ r. r.id) (oldest_load eq key (beside newest next older))
        ≡ option_or (option_map (λ r. r.id) (oldest_load eq key older))
        (option_map (λ r. r.id) (find (λ r. eq key r.key) (option_to_list newest)))
    oldest_load-beside newest next older = option_map-find_with_newest (λ r. eq key r.key) (λ r. r.id) newest older.rows

    module _ (same : (a b : K) → eq a b ≡ true → a ≡ b) where
      -- where the newest load is the key's current one, none of the older ones is
      current_row-older : (newest : Option (Row K)) (next : ℕ) (older : Flights K) (r : Row K) → IsBeside eq newest next older
          → find (is_current eq key) (option_to_list newest) ≡ Some r → current_row eq key older ≡ None
      current_row-older None next older r fits found = absurd (cc)
      current_row-older (Some s) next older r fits found =
          let passes = both s.current (eq key s.key) (passes_last (is_current eq key) s r found).0 in
          let its : key ≡ s.key = same key s.key passes.1 in
          let none : current_row eq s.key older ≡ None =
          nothing_mapped (λ r. r.id) (current_row eq s.key older) (fits.placed.only passes.0) in
          ap (λ k. current_row eq k older) its ∙ none

      -- the newest load is the key's current one
      pub current_row-beside_newest : (newest : Option (Row K)) (next : ℕ) (older : Flights K) (r : Row K) → IsBeside eq newest next older
          → find (is_current eq key) (option_to_list newest) ≡ Some r → current_row eq key (beside newest next older) ≡ Some r
      current_row-beside_newest newest next older r fits found =
          find-with_newest_passes (is_current eq key) newest older.rows r (current_row-older newest next older r fits found) found

      -- the newest load is forgotten
      pub forgotten-beside_newest : (newest : Option (Row K)) (next : ℕ) (older : Flights K) (r : Row K) → IsBeside eq newest next older
          → find (is_current eq key) (option_to_list newest) ≡ Some r
          → forgotten eq key (beside newest next older) ≡ beside (Some (not_current r)) next older
      forgotten-beside_newest newest next older r fits found = ap (λ rs. record { limit = older.limit; next = next; rows = rs })
          (map-with_newest_passes (is_current eq key) not_current newest older.rows r
          (current_row-older newest next older r fits found) found)

      -- the newest load is joined
      pub joined-beside_newest : (newest : Option (Row K)) (next : ℕ) (older : Flights K) (r : Row K) → IsBeside eq newest next older
          → find (is_current eq key) (option_to_list newest) ≡ Some r
          → joined eq key (beside newest next older) ≡ beside (Some (one_more r)) next older
      joined-beside_newest newest next older r fits found = ap (λ rs. record { limit = older.limit; next = next; rows = rs })
          (map-with_newest_passes (is_current eq key) one_more newest older.rows r (current_row-older newest next older r fits found) found)

  -- ---- after a change of the older ones
  module _ (eq : K → K → Bool) where
    -- no more of them, with no key that has a current one and had none
    IsBeside-older : (newest : Option (Row K)) (next : ℕ) (older : Flights K) (rows : List (Row K)) → length rows ≤ length older.rows
        → ((key : K) → current_row eq key older ≡ None → find (is_current eq key) rows ≡ None)
        → IsBeside eq newest next older → IsBeside eq newest next (record { limit = older.limit; next = older.next; rows = rows })
    IsBeside-older None next older rows long none fits = record { below = fits.below; placed = tt }
    IsBeside-older (Some r) next older rows long none fits =
        let room = fits.placed.room in
        record {
          below = fits.below;
          placed = record {
            last = fits.placed.last;
            after = fits.placed.after;
            room = omega (arith, long, room);
            only = λ t. ap (λ (o : Option (Row K)). is_some (option_map (λ s. s.id) o))
                (none r.key (nothing_mapped (λ s. s.id) (current_row eq r.key older) (fits.placed.only t)));
          };
        }

    -- one of them is joined
    pub IsBeside-joined : (newest : Option (Row K)) (next : ℕ) (older : Flights K) (key : K) → IsBeside eq newest next older
        → IsBeside eq newest next (joined eq key older)
    IsBeside-joined newest next older key fits =
        let u : Row K → Row K = λ r. cond (is_current eq key r) (one_more r) r in
        let long = length-map older.rows u in
        let kept : (k : K) (r : Row K) (b : Bool) → is_current eq k (cond b (one_more r) r) ≡ is_current eq k r =
        λ k r b. either b (λ b. is_current eq k (cond b (one_more r) r)) (is_current eq k r) refl refl in
        IsBeside-older newest next older (joined eq key older).rows (omega (arith, long))
        (λ k none. find-map_none (is_current eq k) u (λ r fails. kept k r (is_current eq key r) ∙ fails) older.rows none) fits

    -- one of them is forgotten
    pub IsBeside-forgotten : (newest : Option (Row K)) (next : ℕ) (older : Flights K) (key : K) → IsBeside eq newest next older
        → IsBeside eq newest next (forgotten eq key older)
    IsBeside-forgotten newest next older key fits =
        let u : Row K → Row K = λ r. cond (is_current eq key r) (not_current r) r in
        let long = length-map older.rows u in
        let fails_still : (k : K) (r : Row K) (b : Bool) → is_current eq k r ≡ false → is_current eq k (cond b (not_current r) r) ≡ false =
        λ k r b fails. either b (λ b. is_current eq k (cond b (not_current r) r)) false refl fails in
        IsBeside-older newest next older (forgotten eq key older).rows (omega (arith, long))
        (λ k none. find-map_none (is_current eq k) u (λ r fails. fails_still k r (is_current eq key r) fails) older.rows none) fits

    -- one of them lands
    pub IsBeside-landed : (newest : Option (Row K)) (next : ℕ) (older : Flights K) (id : ℕ) → IsBeside eq newest next older
        → IsBeside eq newest next (landed id older)
    IsBeside-landed newest next older id fits =
        let stays : Row K → Bool = λ r. not (eqb r.id id) in
        let long = length-filter_both stays (λ r. not (stays r)) (λ r. refl) older.rows in
        IsBeside-older newest next older (landed id older).rows (omega (arith, long))
        (λ k none. find-filter_none (is_current eq k) stays older.rows none) fits

  -- ---- the laws
  module _ (eq : K → K → Bool) (laws : IsEquivalence eq) (same : (a b : K) → eq a b ≡ true → a ≡ b) where
    -- no row of the key is current beside a current one
    apart : (s r : Row K) → (IsTrue r.current → is_current eq r.key s ≡ false) → (s.current && r.current) && eq s.key r.key ≡ false
    apart s r fails = ⊎_elim
        (λ (t : (s.current && r.current) && eq s.key r.key ≡ true).
        let u = both (s.current && r.current) (eq s.key r.key) t in
        let v = both s.current r.current u.0 in
        let its : s.key ≡ r.key = same s.key r.key u.1 in
        let turned : eq r.key s.key ≡ true = subst (λ k. eq r.key k ≡ true) (sym its) (laws.refl r.key) in
        let passes : is_current eq r.key s ≡ true = λ i. v.0 i && turned i in
        let no = fails v.1 in
        absurd (cc))
        (λ (f : (s.current && r.current) && eq s.key r.key ≡ false). f)
        (flag ((s.current && r.current) && eq s.key r.key))

    -- the table of both is lawful
    pub IsLawful-beside : (newest : Option (Row K)) (next : ℕ) (older : Flights K) → IsLawful eq older → IsBeside eq newest next older
        → IsLawful eq (beside newest next older)
    IsLawful-beside None next older lawful fits =
        let positive = lawful.from_one in
        let least = fits.below in
        record {
          from_one = omega arith;
          within = lawful.within;
          below = All-weaker (λ (s : Row K). s.id < older.next) (λ (s : Row K). s.id < next)
              (λ s less. omega (arith, less, least)) older.rows lawful.below;
          rising = lawful.rising;
          one_current = lawful.one_current;
        }
    IsLawful-beside (Some r) next older lawful fits =
        let last = fits.placed.last in
        let after = fits.placed.after in
        let room = fits.placed.room in
        let long = length-append older.rows (r ∷ []) in
        let below : All (λ (s : Row K). s.id < next) older.rows =
        All-weaker (λ (s : Row K). s.id < older.next) (λ (s : Row K). s.id < next)
        (λ s less. omega (arith, less, last, after)) older.rows lawful.below in
        record {
          from_one = omega arith;
          within = omega (arith, long, room);
          below = All-push (λ (s : Row K). s.id < next) older.rows r below (omega arith);
          rising = all_pairs_push (λ (s t : Row K). s.id < t.id) older.rows r lawful.rising
              (λ k d l. let less = lawful.below k d l in omega (arith, less, after));
          one_current = all_pairs_push (λ (s t : Row K). (s.current && t.current) && eq s.key t.key ≡ false) older.rows r lawful.one_current
              (λ k d l. apart (get_or older.rows k d) r (λ t.
              let none = nothing_mapped (λ s. s.id) (current_row eq r.key older) (fits.placed.only t) in
              All-find_none (is_current eq r.key) older.rows none k d l));
        }
