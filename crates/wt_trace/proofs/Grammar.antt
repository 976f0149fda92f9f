-- What is read is a line, and a line is read.
use Rattle.std.proofs.Common.{◌≡◌, ℕ, ◌+◌, ◌<◌, ◌==◌, ◌++◌, List, [], ◌∷◌, length, take, drop, suc, Option, Some, None, Bool, true, false, cond, not, arith, rules, sym, refl, ap, ◌∙◌, ◌⊎◌, inl, inr, subst, append_assoc, length-append}
use Rattle.std.proofs.lemmas.Option.{cond_some, option_and_then_some}
use Rattle.std.proofs.lemmas.List.{take_at, drop_at}
use Rattle.std.proofs.lemmas.Bool.Decides.{nat_tests}
use Rattle.std.proofs.lemmas.Str.Parse.{tells_all_ascii_digits}
use Rattle.std.specs.Option.{option_map}
use Rattle.std.specs.List.{before_first, after_first, position_or_len, AllByRecursion}
use Rattle.std.specs.Str.{all_ascii_digits}
use Rattle.wt_trace.specs.Keys.{IsNumber, number_of, IsName, name_of}
use Rattle.wt_trace.specs.Line.{IsAsked, IsLine, letter_of, key_of, lettered, keyed, act_of, line_of, ReadsKeys, ReadsLines}
use Rattle.wt_trace.specs.declared.trace.line.Line.{Line}
use Rattle.wt_trace.specs.declared.trace.line.Act.{Act}
use Rattle.wt_trace.specs.declared.trace.line.Act.TheVariants.{Look, Put, Seek, Get, Land, Drop, Forget, Clean, Clear}

abbrev is_space : ℕ → Bool
is_space b = b == 32

-- digits before a space
space_at : (ds rest : List ℕ) → all_ascii_digits ds ≡ true → position_or_len is_space (ds ++ 32 ∷ rest) ≡ length ds
space_at [] rest all = refl
space_at (d ∷ ds) rest all =
    let parts = tells_all_ascii_digits.parts d ds all in
    let ih = space_at ds rest parts.1 in
    let other : (d == 32) ≡ false = grind (arith, nat_tests, parts.0) in
    rw (other, ih) (omega arith)

before_space : (ds rest : List ℕ) → all_ascii_digits ds ≡ true → before_first is_space (ds ++ 32 ∷ rest) ≡ ds
before_space ds rest all = ap (λ k. take k (ds ++ 32 ∷ rest)) (space_at ds rest all) ∙ take_at ds (32 ∷ rest) (length ds) refl

after_space : (ds rest : List ℕ) → all_ascii_digits ds ≡ true → after_first is_space (ds ++ 32 ∷ rest) ≡ rest
after_space ds rest all =
    ap (λ k. drop (k + 1) (ds ++ 32 ∷ rest)) (space_at ds rest all)
    ∙ (ap (λ xs. drop (length ds + 1) xs) (sym (append_assoc ds (32 ∷ []) rest))
    ∙ drop_at (ds ++ 32 ∷ []) rest (length ds + 1) (search (rules, length-append)))

pub number_read : (ds : List ℕ) (n : ℕ) → IsNumber ds n → number_of ds ≡ Some n
number_read ds n is = grind (arith, nat_tests, is.decimal, is.some, is.few, is.value, is.fits)

pub read_number : (ds : List ℕ) (n : ℕ) → number_of ds ≡ Some n → IsNumber ds n
read_number ds n e = let c = cond_some _ _ _ e in record {
  decimal = grind (arith, nat_tests, c.0);
  some = grind (arith, nat_tests, c.0);
  few = grind (arith, nat_tests, c.0);
  value = c.1;
  fits = grind (arith, nat_tests, c.0, c.1);
}

pub name_read : (bytes name : List ℕ) → IsName bytes name → name_of bytes ≡ Some name
name_read bytes name is = grind (arith, nat_tests, is.some, is.few, is.printed, is.same)

pub read_name : (bytes name : List ℕ) → name_of bytes ≡ Some name → IsName bytes name
read_name bytes name e = let c = cond_some _ _ _ e in record {
  some = grind (arith, nat_tests, c.0);
  few = grind (arith, nat_tests, c.0);
  printed = grind (arith, nat_tests, c.0);
  same = c.1;
}

-- a space stands where something is behind it
space_between : (bs : List ℕ) → 0 < length (after_first is_space bs) → bs ≡ before_first is_space bs ++ 32 ∷ after_first is_space bs
space_between [] h = absurd (omega arith)
space_between (b ∷ bs) h = elim (b == 32) as
    (λ t. (b == 32) ≡ t → 0 < length (drop (cond (not t) (1 + position_or_len is_space bs) 0 + 1) (b ∷ bs))
    → b ∷ bs ≡ take (cond (not t) (1 + position_or_len is_space bs) 0) (b ∷ bs)
    ++ 32 ∷ drop (cond (not t) (1 + position_or_len is_space bs) 0 + 1) (b ∷ bs)) [
      | true ↦ λ at _. let is : b ≡ 32 = grind (arith, nat_tests) in ap (λ x. x ∷ bs) is
      | false ↦ λ _ more.
          let one : 1 + position_or_len is_space bs ≡ suc (position_or_len is_space bs) = omega arith in
          let two : suc (position_or_len is_space bs) + 1 ≡ suc (position_or_len is_space bs + 1) = omega arith in
          let left = rw (one, two) at more in
          rw (one, two) (ap (λ xs. b ∷ xs) (space_between bs left))
    ] refl h

chosen : {A : Type 0} (b : Bool) (x y z : A) → cond b x y ≡ z → ((b ≡ true) × (x ≡ z)) ⊎ ((b ≡ false) × (y ≡ z))
chosen true x y z e = inl (refl, e)
chosen false x y z e = inr (refl, e)

mapped : {A B : Type 0} (f : A → B) (o : Option A) (y : B) → option_map f o ≡ Some y → (x : A) × (o ≡ Some x) × (f x ≡ y)
mapped f None y e = absurd (cc)
mapped f (Some x) y e = (x, refl, cc)

-- what is found has the letter, and each fact of all that it was looked for in
found : {K : Type 0} (P : Act K → Type 0) (letter : ℕ) (acts : List (Act K)) (a : Act K) → AllByRecursion P acts
    → lettered letter acts ≡ Some a → P a × (letter ≡ letter_of a)
found P letter [] a all e = absurd (cc)
found P letter (b ∷ acts) a all e = elim (chosen (letter == letter_of b) (Some b) (lettered letter acts) (Some a) e) [
  | inl here ↦ let is : b ≡ a = cc in let l : letter ≡ letter_of b = grind (arith, nat_tests, here.0) in
      (subst P is all.0, l ∙ ap letter_of is)
  | inr later ↦ found P letter acts a all.1 later.1
]

module _ {K : Type 0} (IsKey : List ℕ → K → Type 0) (read : List ℕ → Option K) (reads : ReadsKeys IsKey read) where
  -- what is asked for is read
  act_read : (bytes : List ℕ) (a : Act K) → IsAsked IsKey (letter_of a) (key_of a) bytes → act_of read bytes ≡ Some a
  act_read bytes (Look k) (key, is, e) = rw (e, (reads key k).1 is) refl
  act_read bytes (Put k) (key, is, e) = rw (e, (reads key k).1 is) refl
  act_read bytes (Seek k) (key, is, e) = rw (e, (reads key k).1 is) refl
  act_read bytes (Get k) (key, is, e) = rw (e, (reads key k).1 is) refl
  act_read bytes (Land k) (key, is, e) = rw (e, (reads key k).1 is) refl
  act_read bytes (Drop k) (key, is, e) = rw (e, (reads key k).1 is) refl
  act_read bytes (Forget k) (key, is, e) = rw (e, (reads key k).1 is) refl
  act_read bytes Clean e = rw e refl
  act_read bytes Clear e = rw e refl

  -- a line is read
  line_read : (bytes : List ℕ) (l : Line K) → IsLine IsKey bytes l → line_of read bytes ≡ Some l
  line_read bytes l (moment, act, m, a, e) =
      rw (e, before_space moment act m.decimal, after_space moment act m.decimal, number_read moment l.moment m, act_read act l.act a) refl

  -- what is read is asked for
  read_act : (bytes : List ℕ) (a : Act K) → act_of read bytes ≡ Some a → (0 < length bytes) × IsAsked IsKey (letter_of a) (key_of a) bytes
  read_act [] a e = absurd (cc)
  read_act (letter ∷ []) a e =
      let it = found (λ b. key_of b ≡ None) letter (Clean ∷ Clear ∷ []) a (refl, (refl, tt)) e in
      (omega arith, rw it.0 (ap (λ x. x ∷ []) it.1))
  read_act (letter ∷ space ∷ key) a e = elim (chosen (is_space space) _ None (Some a) e) [
    | inr no_space ↦ let bad = no_space.1 in absurd (cc)
    | inl spaced ↦ let s : space ≡ 32 = grind (arith, nat_tests, spaced.0) in
        option_and_then_some (λ k. lettered letter (keyed k)) (read key) a spaced.1 (λ k got more.
        let it = found (λ b. key_of b ≡ Some k) letter (keyed k) a (refl, (refl, (refl, (refl, (refl, (refl, (refl, tt))))))) more in
        (omega arith, rw it.0 (key, (reads key k).0 got, rw (it.1, s) refl)))
  ]

  -- what is read is a line
  read_line : (bytes : List ℕ) (l : Line K) → line_of read bytes ≡ Some l → IsLine IsKey bytes l
  read_line bytes l e = option_and_then_some _ (number_of (before_first is_space bytes)) l e (λ m number more.
      let got = mapped (λ (act : Act K). record { moment = m; act = act }) (act_of read (after_first is_space bytes)) l more in
      let asked = read_act (after_first is_space bytes) got.0 got.1 in
      subst (λ x. IsLine IsKey bytes x) got.2 (
        before_first is_space bytes,
        after_first is_space bytes,
        read_number (before_first is_space bytes) m number,
        asked.1,
        space_between bytes asked.0,
      ))

  pub reads_lines : ReadsLines IsKey read
  reads_lines bytes l = (read_line bytes l, line_read bytes l)
