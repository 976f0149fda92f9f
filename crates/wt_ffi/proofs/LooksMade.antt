-- One more of several look-ups: after the first i of xs0 the list is xs and the cache c, which was c0 before all.
use Rattle.std.proofs.Common.{◌≡◌, ℕ, ◌+◌, ◌<◌, ◌≤◌, nat_lt, ◌||◌, Bool, true, false, if◌then◌else◌, List, [], ◌∷◌, ◌++◌, length, take, drop, set, get_or, sym, ap, ◌∙◌, subst, append_assoc, true≢false, arith}
use Rattle.std.proofs.Math.Bool.{or-true}
use Rattle.std.proofs.lemmas.Bool.{lt-ltb, le-ltb, or_left}
use Rattle.std.proofs.lemmas.List.{drop_more, take_more_set, take-append-drop, take-set, drop-set}
use Rattle.wt_ffi.specs.declared.steps.look_many.Looked.{Looked}
use Rattle.wt_ffi.specs.Looks.{Through, look_of, is_last, looked_through, IsAnswered, AreAnswered}
use Rattle.wt_ffi.specs.Numbered.{after, number_after}
use Rattle.wt_ffi.specs.Open.{Open}

-- what look-ups made, with n before them
abbrev pub behind : ℕ → Through → Through
behind n t = record { cache = t.cache; made = n + t.made; number = t.number }

-- what is behind the first i, if it is answered, makes the whole answered
abbrev pub Answers : List Looked → List Looked → ℕ → Open ℕ → Open ℕ → Type 0
Answers xs0 xs i c0 c = (ys : List Looked) → AreAnswered (drop i xs0) ys c → AreAnswered xs0 (take i xs ++ ys) c0

-- what is behind the first i decides what all made
abbrev pub Leads : List Looked → ℕ → Open ℕ → Open ℕ → Type 0
Leads xs i c0 c = (ys : List Looked) → looked_through (take i xs ++ ys) c0 ≡ behind i (looked_through ys c)

module _ (xs0 xs : List Looked) (i : ℕ) (d : Looked) (lt0 : i < length xs0) (lt : i < length xs) (same : drop i xs ≡ drop i xs0) where
  -- what is behind the next place is as it was too
  pub drop-next : drop (i + 1) xs ≡ drop (i + 1) xs0
  drop-next = ap (λ (zs : List Looked). drop 1 zs) (sym (drop_more xs i d lt) ∙ same ∙ drop_more xs0 i d lt0)

  -- what there was from the place on
  pub drop-there : drop i xs0 ≡ get_or xs i d ∷ drop (i + 1) xs0
  drop-there = sym same ∙ drop_more xs i d lt ∙ ap (λ (zs : List Looked). get_or xs i d ∷ zs) drop-next

module _ (xs : List Looked) (i : ℕ) (a : Looked) (lt : i < length xs) where
  -- the first part with the answer at the place, and what is behind
  pub take-next : (ys : List Looked) → take (i + 1) (set xs i a) ++ ys ≡ take i xs ++ (a ∷ ys)
  take-next ys = ap (λ (zs : List Looked). zs ++ ys) (take_more_set xs i a lt) ∙ append_assoc (take i xs) (a ∷ []) ys

  -- the list with the answer at the place
  pub set-there : set xs i a ≡ take i xs ++ (a ∷ drop (i + 1) xs)
  set-there = sym (take-append-drop i (set xs i a))
      ∙ ap (λ (zs : List Looked). zs ++ drop i (set xs i a)) (take-set xs i a)
      ∙ ap (λ (zs : List Looked). take i xs ++ zs) (drop-set xs i a lt)

module _ (xs0 xs : List Looked) (i : ℕ) (d a : Looked) (c0 c : Open ℕ) (lt0 : i < length xs0)
    (lt : i < length xs) (same : drop i xs ≡ drop i xs0) (inv : Answers xs0 xs i c0 c)
    (one : IsAnswered (get_or xs i d) a c) where
  -- one look-up more is answered, and isn't the last
  pub answers-next : is_last a c ≡ false → Answers xs0 (set xs i a) (i + 1) c0 (after a.answer (look_of a) c)
  answers-next goes ys rest =
      let made : AreAnswered (get_or xs i d ∷ drop (i + 1) xs0) (a ∷ ys) c =
      (one, (λ last. absurd (true≢false (sym last ∙ goes))), λ no. rest) in
      subst (λ (zs : List Looked). AreAnswered xs0 zs c0) (sym (take-next xs i a lt ys))
      (inv (a ∷ ys) (subst (λ (zs : List Looked). AreAnswered zs (a ∷ ys) c) (sym (drop-there xs0 xs i d lt0 lt same)) made))

  -- the last look-up is answered
  pub answers-last : is_last a c ≡ true → AreAnswered xs0 (set xs i a) c0
  answers-last is =
      let behind : List Looked = drop (i + 1) xs in
      let made : AreAnswered (get_or xs i d ∷ drop (i + 1) xs0) (a ∷ behind) c =
      (one, (λ last. drop-next xs0 xs i d lt0 lt same), λ no. absurd (true≢false (sym is ∙ no))) in
      subst (λ (zs : List Looked). AreAnswered xs0 zs c0) (sym (set-there xs i a lt))
      (inv (a ∷ behind) (subst (λ (zs : List Looked). AreAnswered zs (a ∷ behind) c) (sym (drop-there xs0 xs i d lt0 lt same)) made))

module _ (xs : List Looked) (i : ℕ) (a : Looked) (c0 c : Open ℕ) (lt : i < length xs) (inv : Leads xs i c0 c) where
  -- what a look-up and those behind it make, by whether it is the last
  abbrev by_end : List Looked → Bool → Through
  by_end ys b =
      let next = after a.answer (look_of a) c in
      if b then record { cache = next; made = 1; number = number_after a.answer (look_of a) c }
      else let rest = looked_through ys next in record { cache = rest.cache; made = 1 + rest.made; number = rest.number }

  -- a look-up that isn't the last leads on
  pub leads-next : is_last a c ≡ false → Leads (set xs i a) (i + 1) c0 (after a.answer (look_of a) c)
  leads-next goes ys =
      let rest : Through = looked_through ys (after a.answer (look_of a) c) in
      let sum : i + (1 + rest.made) ≡ i + 1 + rest.made = omega arith in
      ap (λ (zs : List Looked). looked_through zs c0) (take-next xs i a lt ys) ∙ inv (a ∷ ys)
      ∙ ap (λ (b : Bool). behind i (by_end ys b)) goes
      ∙ ap (λ (n : ℕ). record { cache = rest.cache; made = n; number = rest.number }) sum

  -- the last look-up ends them
  pub leads-last : is_last a c ≡ true
      → looked_through (set xs i a) c0
      ≡ record {
        cache = after a.answer (look_of a) c;
        made = i + 1;
        number =
            number_after a.answer (look_of a) c;
      }
  leads-last is =
      ap (λ (zs : List Looked). looked_through zs c0) (set-there xs i a lt) ∙ inv (a ∷ drop (i + 1) xs)
      ∙ ap (λ (b : Bool). behind i (by_end (drop (i + 1) xs) b)) is

-- a look-up that returned more than 0 is the last
pub last-number : (number notices : ℕ) → 0 < number → (nat_lt 0 number || nat_lt 0 notices) ≡ true
last-number number notices more = or_left (nat_lt 0 number) (nat_lt 0 notices) (lt-ltb 0 number more)

-- and so is one that told a notice
pub last-notice : (number notices : ℕ) → 0 < notices → (nat_lt 0 number || nat_lt 0 notices) ≡ true
last-notice number notices more = ap (λ (b : Bool). nat_lt 0 number || b) (lt-ltb 0 notices more) ∙ or-true (nat_lt 0 number)

-- any other isn't
pub last-none : (number notices : ℕ) → number ≤ 0 → notices ≤ 0 → (nat_lt 0 number || nat_lt 0 notices) ≡ false
last-none number notices none told = ap (λ (b : Bool). b || nat_lt 0 notices) (le-ltb 0 number none) ∙ le-ltb 0 notices told

-- whether a look-up is the last, by the number that it returned
pub is_last-number : (a : Looked) (c : Open ℕ) (number : ℕ) (b : Bool)
    → number ≡ number_after a.answer (look_of a) c → (nat_lt 0 number || nat_lt 0 a.answer.notices) ≡ b
    → is_last a c ≡ b
is_last-number a c number b is last = ap (λ (n : ℕ). nat_lt 0 n || nat_lt 0 a.answer.notices) (sym is) ∙ last

module _ (xs0 xs : List Looked) (i : ℕ) (c0 c : Open ℕ) (same : drop i xs ≡ drop i xs0) (none : drop i xs ≡ []) where
  -- if nothing is behind, all are answered
  pub answers-all : Answers xs0 xs i c0 c → AreAnswered xs0 xs c0
  answers-all inv =
      subst (λ (zs : List Looked). AreAnswered xs0 zs c0) (take-append-drop i xs)
      (inv (drop i xs) (subst (λ (zs : List Looked). AreAnswered zs (drop i xs) c) (sym (sym same ∙ none)) none))

  -- and that is what they made
  pub leads-all : Leads xs i c0 c → looked_through xs c0 ≡ record { cache = c; made = i + 0; number = 0 }
  leads-all inv =
      ap (λ (zs : List Looked). looked_through zs c0) (sym (take-append-drop i xs)) ∙ inv (drop i xs)
      ∙ ap (λ (zs : List Looked). behind i (looked_through zs c)) none
