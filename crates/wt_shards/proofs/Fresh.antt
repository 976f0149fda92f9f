-- A served value is one that a call brought for its key; behind a write it is fresh.
use Rattle.std.proofs.Common.{◌≡◌, ℕ, Bool, true, List, [], ◌∷◌, ◌++◌, length, None, refl, sym, ap, subst, ◌∙◌, arith, append_assoc, append-nil, length-append, inl, inr}
use Rattle.std.specs.Cmp.{IsEquivalence}
use Rattle.std.specs.List.{All, AllByRecursion}
use Rattle.std.proofs.lemmas.List.Elements.{All-nil, All-weaker}
use Rattle.wt_regions.specs.declared.touch.Found.{Found}
use Rattle.wt_regions.specs.declared.touch.Found.TheVariants as found
use Rattle.wt_regions.specs.declared.weighs.Measure.{Measure}
use Rattle.wt_regions.specs.Lists.{all_entries}
use Rattle.wt_core.specs.declared.calls.Call.{Call}
use Rattle.wt_core.specs.declared.calls.Call.TheVariants.{Look, Seek, Land, Put, DropKey, Clear, Forget, Clean, Slide}
use Rattle.wt_core.specs.declared.calls.Reply.{Reply}
use Rattle.wt_core.specs.declared.config.Config.{Config}
use Rattle.wt_core.specs.Lawful.{IsLawful}
use Rattle.wt_core.specs.Stale.{makes_stale}
use Rattle.wt_core.specs.State.{State, found as found_in, stepped}
use Rattle.wt_core.specs.Step.{looked, refusal_of, step}
use Rattle.wt_core.proofs.Occurrences.{each-weaker}
use Rattle.wt_shards.specs.Brought.{IsBroughtIn, IsFresh, IsLeftBy, IsLedIn}
use Rattle.wt_shards.specs.Fresh.{IsReadOf, IsRemoval, JoinsFresh, JoinsOnly, ReadsFresh, ReadsOwnRemoval}
use Rattle.wt_shards.specs.History.{state_after}
use Rattle.wt_shards.specs.Members.{members_by}
use Rattle.wt_shards.specs.Place.{Place}
use Rattle.wt_shards.specs.Served.{HitsOnly, ReadsOwnPut, SeeksOwnPut}
use Rattle.wt_shards.proofs.Entries.{Has, all-of, entries-step}
use Rattle.wt_shards.proofs.Histories.{after-call}
use Rattle.wt_shards.proofs.Opened.{AllOpened, IsOpened, IsOut, brought-loaded, joins-opened, opened-behind, write-forgets}
use Rattle.wt_shards.proofs.PutOnly.{Only, each-cut, put-only}
use Rattle.wt_shards.proofs.Served.{hit-look, hit-seek, kept-behind}

module _ {K V : Type 0} (eq : K → K → Bool) (same : (a b : K) → eq a b ≡ true → a ≡ b) (word : K → ℕ) (measure : V → Measure)
    (config : Config) where
  abbrev after : List (Call K V) → State K V
  after calls = state_after eq word measure config calls

  abbrev Brought : List (Call K V) → List (Call K V) → K → V → Type 0
  Brought base calls k v = IsBroughtIn eq word measure config base calls k v

  -- what holds of all that these calls bring, holds of all that is kept behind them
  kept-brought : (P : K → V → ℕ → ℕ → Type 0) (base calls : List (Call K V))
      → ((k : K) (v : V) (at life : ℕ) → (AllOpened eq same word measure config base k [] → Brought base calls k v) → P k v at life)
      → All (Has P) (all_entries (after base).regions) → All (Has P) (all_entries (after (base ++ calls)).regions)
  kept-brought P base calls holds all = kept-behind eq same word measure P config base calls
      (λ before c behind place allowed k v is. holds k v _ _ (λ opened. record {
        before = before;
        call = c;
        after = behind;
        place = place;
        allowed = allowed;
        brought = is;
        loaded = brought-loaded eq same word measure config base k before c v (opened-behind eq same word measure config base k before opened) is;
      })) all

  module _ (calls : List (Call K V)) where
    abbrev There : K → V → ℕ → ℕ → Type 0
    There k v at life = Brought [] calls k v

    all-there : All (Has There) (all_entries (after calls).regions)
    all-there = kept-brought There [] calls (λ k v at life there. there tt) (All-nil (Has There))

    pub serves-brought : (k : K) (now : ℕ) → HitsOnly (Brought [] calls k) (step eq word measure (after calls) (Look k now)).reply
        × HitsOnly (Brought [] calls k) (step eq word measure (after calls) (Seek k now)).reply
    serves-brought k now = (
      hit-look eq same word measure There (after calls) k now (Brought [] calls k) (λ v one. one.has) all-there,
      hit-seek eq same word measure There (after calls) k now (Brought [] calls k) (λ v one. one.has) all-there,
    )

  -- ---- behind a write of the key
  module _ (before between : List (Call K V)) (k : K) (write : Call K V) where
    abbrev base : List (Call K V)
    base = before ++ write ∷ []

    whole : base ++ between ≡ before ++ write ∷ between
    whole = append_assoc before (write ∷ []) between

    module _ (stale : makes_stale eq k write ≡ true) (allowed : refusal_of eq word measure (after before) write ≡ None) where
      behind : (step eq word measure (after before) write).state ≡ after base
      behind = after-call eq word measure config before (after before) write refl allowed

      opened : AllOpened eq same word measure config base k []
      opened =
          let out = subst (λ (t : State K V). AllByRecursion (IsOut eq k) t.flights.rows) behind
          (write-forgets eq same word measure k (after before) write stale) in
          subst (λ (w : List (Call K V)). AllByRecursion (IsOpened eq same word measure config base k []) (after w).flights.rows)
          (sym (append-nil base))
          (each-weaker (IsOut eq k) (IsOpened eq same word measure config base k [])
          (λ r none now is. absurd (none now is)) (after base).flights.rows out)

      joins : (later : ℕ) → JoinsOnly (IsLedIn eq word measure config base between k)
          (step eq word measure (after (before ++ write ∷ between)) (Seek k later)).reply
      joins later = subst (λ (w : List (Call K V)). JoinsOnly (IsLedIn eq word measure config base between k)
          (step eq word measure (after w) (Seek k later)).reply) whole
          (joins-opened eq same word measure config base k between later (opened-behind eq same word measure config base k between opened))

      module _ (laws : IsEquivalence eq) (Q : V → Type 0) (between_too : (v : V) → Brought base between k v → Q v)
          (start : All (Has (Only eq laws k Q)) (all_entries (step eq word measure (after before) write).state.regions)) where
        kept : All (Has (Only eq laws k Q)) (all_entries (after (before ++ write ∷ between)).regions)
        kept = subst (λ (w : List (Call K V)). All (Has (Only eq laws k Q)) (all_entries (after w).regions)) whole
            (kept-brought (Only eq laws k Q) base between
            (λ j v at life there is. between_too v (subst (λ (x : K). Brought base between x v) is
            (there (subst (λ (x : K). AllOpened eq same word measure config base x []) (sym is) opened))))
            (subst (λ (t : State K V). All (Has (Only eq laws k Q)) (all_entries t.regions)) behind start))

        looks : (later : ℕ) → HitsOnly Q (step eq word measure (after (before ++ write ∷ between)) (Look k later)).reply
        looks later = hit-look eq same word measure (Only eq laws k Q) (after (before ++ write ∷ between)) k later Q
            (λ v one. one.has refl) kept

        seeks : (later : ℕ) → HitsOnly Q (step eq word measure (after (before ++ write ∷ between)) (Seek k later)).reply
        seeks later = hit-seek eq same word measure (Only eq laws k Q) (after (before ++ write ∷ between)) k later Q
            (λ v one. one.has refl) kept

  pub joins-fresh : JoinsFresh eq word measure config
  joins-fresh before between k write later stale allowed = joins before between k write stale allowed later

  -- ---- what a write leaves
  module _ (laws : IsEquivalence eq) (before : List (Call K V)) (k : K) (Q : V → Type 0) where
    -- the key's value is one of these
    abbrev Left : State K V → Type 0
    Left s = All (Has (Only eq laws k Q)) (all_entries s.regions)

    dropped : (now : ℕ) → IsLawful eq measure (after before) → Left (step eq word measure (after before) (DropKey k now)).state
    dropped now lawful = all-of (Has (Only eq laws k Q)) (step eq word measure (after before) (DropKey k now)).state.regions
        (each-cut eq laws k Q (after before).regions lawful.regions.distinct)

    left : (write : Call K V) → IsLawful eq measure (after before) → makes_stale eq k write ≡ true
        → ((v : V) → IsLeftBy eq word measure config before write k v → Q v) → Left (step eq word measure (after before) write).state
    left (Put j v now) lawful stale leaves = subst (λ (x : K). Left (step eq word measure (after before) (Put x v now)).state)
        (same k j stale) (put-only eq laws k Q word measure (after before) v now lawful.regions.distinct (leaves v refl))
    left (DropKey j now) lawful stale leaves = subst (λ (x : K). Left (step eq word measure (after before) (DropKey x now)).state)
        (same k j stale) (dropped now lawful)
    left (Clear now) lawful stale leaves = All-nil (Has (Only eq laws k Q))
    left (Forget j now) lawful stale leaves = entries-step (Only eq laws k Q) eq same word measure (after before) (Forget j now) tt
        (All-weaker (Has (There before)) (Has (Only eq laws k Q))
        (λ e there is. leaves e.1.value (subst (λ (x : K). Brought [] before x e.1.value) is there))
        (all_entries (after before).regions) (all-there before))
    left (Look j now) lawful stale leaves = absurd (cc)
    left (Seek j now) lawful stale leaves = absurd (cc)
    left (Land id j what now) lawful stale leaves = absurd (cc)
    left (Clean now) lawful stale leaves = absurd (cc)
    left (Slide wider now) lawful stale leaves = absurd (cc)

  -- what a look or a seek behind a write is replied
  abbrev IsReplied : List (Call K V) → List (Call K V) → K → Call K V → Reply V → Type 0
  IsReplied before between k write r = HitsOnly (IsFresh eq word measure config before write between k) r
      × JoinsOnly (IsLedIn eq word measure config (before ++ write ∷ []) between k) r

  -- behind a write of its key only what is fresh is read
  module _ (laws : IsEquivalence eq) (before between : List (Call K V)) (k : K) (write : Call K V) (later : ℕ)
      (lawful : IsLawful eq measure (after before)) (stale : makes_stale eq k write ≡ true)
      (allowed : refusal_of eq word measure (after before) write ≡ None) where
    abbrev Fresh : V → Type 0
    Fresh = IsFresh eq word measure config before write between k

    start : All (Has (Only eq laws k Fresh)) (all_entries (step eq word measure (after before) write).state.regions)
    start = left laws before k Fresh write lawful stale (λ v is. inl is)

    look-fresh : HitsOnly Fresh (step eq word measure (after (before ++ write ∷ between)) (Look k later)).reply
    look-fresh = looks before between k write stale allowed laws Fresh (λ v is. inr is) start later

    seek-fresh : HitsOnly Fresh (step eq word measure (after (before ++ write ∷ between)) (Seek k later)).reply
    seek-fresh = seeks before between k write stale allowed laws Fresh (λ v is. inr is) start later

    looked-join : JoinsOnly (IsLedIn eq word measure config (before ++ write ∷ []) between k)
        (step eq word measure (after (before ++ write ∷ between)) (Look k later)).reply
    looked-join = at_found (found_in eq k (stepped later (after (before ++ write ∷ between))))
      where
        at_found : (f : Found V) → JoinsOnly (IsLedIn eq word measure config (before ++ write ∷ []) between k)
            (looked eq k f (stepped later (after (before ++ write ∷ between)))).reply
        at_found (found.Hit v) = tt
        at_found found.Absent = tt
        at_found found.Expired = tt

    read-fresh : (j : K) → j ≡ k → IsReplied before between k write (step eq word measure (after (before ++ write ∷ between)) (Look j later)).reply
    read-fresh j is = subst (λ (x : K). IsReplied before between k write (step eq word measure (after (before ++ write ∷ between)) (Look x later)).reply) (sym is)
        (look-fresh, looked-join)

    sought-fresh : (j : K) → j ≡ k → IsReplied before between k write (step eq word measure (after (before ++ write ∷ between)) (Seek j later)).reply
    sought-fresh j is = subst (λ (x : K). IsReplied before between k write (step eq word measure (after (before ++ write ∷ between)) (Seek x later)).reply) (sym is)
        (seek-fresh, joins before between k write stale allowed later)

  own-key : IsEquivalence eq → (k : K) → eq k k ≡ true
  own-key laws k = laws.refl k

  -- a put is read until another call brings a value for its key
  pub reads-own-put : IsEquivalence eq → ReadsOwnPut eq word measure config
  reads-own-put laws before between k v now later lawful allowed =
      look-fresh laws before between k (Put k v now) later lawful (own-key laws k) allowed

  pub seeks-own-put : IsEquivalence eq → SeeksOwnPut eq word measure config
  seeks-own-put laws before between k v now later lawful allowed =
      seek-fresh laws before between k (Put k v now) later lawful (own-key laws k) allowed

  removal-stale : IsEquivalence eq → (k : K) (write : Call K V) → IsRemoval k write → makes_stale eq k write ≡ true
  removal-stale laws k (DropKey j now) is = subst (λ (x : K). eq k x ≡ true) (sym is) (own-key laws k)
  removal-stale laws k (Clear now) is = refl
  removal-stale laws k (Look j now) is = absurd is
  removal-stale laws k (Seek j now) is = absurd is
  removal-stale laws k (Land id j what now) is = absurd is
  removal-stale laws k (Put j v now) is = absurd is
  removal-stale laws k (Forget j now) is = absurd is
  removal-stale laws k (Clean now) is = absurd is
  removal-stale laws k (Slide wider now) is = absurd is

  removal-leaves : (before : List (Call K V)) (k : K) (write : Call K V) (v : V) → IsRemoval k write
      → IsLeftBy eq word measure config before write k v → ⊥
  removal-leaves before k (DropKey j now) v is there = there
  removal-leaves before k (Clear now) v is there = there
  removal-leaves before k (Look j now) v is there = is
  removal-leaves before k (Seek j now) v is there = is
  removal-leaves before k (Land id j what now) v is there = is
  removal-leaves before k (Put j w now) v is there = is
  removal-leaves before k (Forget j now) v is there = is
  removal-leaves before k (Clean now) v is there = is
  removal-leaves before k (Slide wider now) v is there = is

  -- a removal leaves nothing that is read
  pub reads-own-removal : IsEquivalence eq → ReadsOwnRemoval eq word measure config
  reads-own-removal laws before between k write later lawful removes allowed =
      let Q : V → Type 0 = Brought (before ++ write ∷ []) between k in
      let stale = removal-stale laws k write removes in
      let start = left laws before k Q write lawful stale (λ v there. absurd (removal-leaves before k write v removes there)) in (
        looks before between k write stale allowed laws Q (λ v is. is) start later,
        seeks before between k write stale allowed laws Q (λ v is. is) start later,
      )

-- a look or a seek by a caller that has seen the write
module _ {K V : Type 0} (eq : K → K → Bool) (same : (a b : K) → eq a b ≡ true → a ≡ b) (laws : IsEquivalence eq)
    (word : K → ℕ) (measure : V → Measure) (answers : V → K → Bool) (p : Place) where
  pub reads-fresh : ReadsFresh (members_by eq word measure answers) p
  reads-fresh k write read me mine met last written answer n m b1 l1 b2 l2 made seen reading stale of =
      let before : List (Call K V) = me ++ made.placed.between in
      let between : List (Call K V) = seen.0 ++ reading.placed.between in
      let one : List (Call K V) = write ∷ [] in
      let start : met ≡ (before ++ one) ++ seen.0 = sym seen.1 ∙ ap (λ w. w ++ seen.0) made.placed.place in
      let whole : met ++ reading.placed.between ≡ before ++ write ∷ between =
      ap (λ w. w ++ reading.placed.between) start
      ∙ (append_assoc (before ++ one) seen.0 reading.placed.between ∙ append_assoc before one between) in
      let law = at_call before between read of made.placed.lawful.lawful.lawful made.placed.allowed in
      let is : (step eq word measure (state_after eq word measure p.config (before ++ write ∷ between)) read).reply ≡ answer =
      ap (λ w. (step eq word measure (state_after eq word measure p.config w) read).reply) (sym whole) ∙ sym reading.replied in
      record {
        before = before;
        between = between;
        place = reading.placed.place ∙ ap (λ w. w ++ read ∷ []) whole;
        numbered = omega (arith, made.numbered, ap length made.placed.place, length-append before one);
        hits = subst (λ (r : Reply V). HitsOnly (IsFresh eq word measure p.config before write between k) r) is law.0;
        joins = subst (λ (r : Reply V). JoinsOnly (IsLedIn eq word measure p.config (before ++ one) between k) r) is law.1;
      }
    where
      at_call : (before between : List (Call K V)) (c : Call K V) → IsReadOf k c
          → IsLawful eq measure (state_after eq word measure p.config before)
          → refusal_of eq word measure (state_after eq word measure p.config before) write ≡ None
          → IsReplied eq same word measure p.config before between k write
          (step eq word measure (state_after eq word measure p.config (before ++ write ∷ between)) c).reply
      at_call before between (Look j now) is lawful allowed = read-fresh eq same word measure p.config laws before between k write now lawful stale allowed j is
      at_call before between (Seek j now) is lawful allowed = sought-fresh eq same word measure p.config laws before between k write now lawful stale allowed j is
      at_call before between (Land id j what now) is lawful allowed = absurd is
      at_call before between (Put j v now) is lawful allowed = absurd is
      at_call before between (DropKey j now) is lawful allowed = absurd is
      at_call before between (Clear now) is lawful allowed = absurd is
      at_call before between (Forget j now) is lawful allowed = absurd is
      at_call before between (Clean now) is lawful allowed = absurd is
      at_call before between (Slide wider now) is lawful allowed = absurd is
