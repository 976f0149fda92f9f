-- A trace read in pieces.
use Rattle.std.proofs.Common.{◌≡◌, ℕ, ◌+◌, ◌<◌, ◌≤◌, ◌==◌, ◌++◌, List, [], ◌∷◌, length, take, drop, get_or, suc, Option, Some, None, Result, Ok, Err, true, false, cond, nat_lt, refl, ap, sym, ◌∙◌, arith, append_assoc, append-nil, length-append}
use Rattle.std.proofs.lemmas.Bool.Decides.{nat_tests}
use Rattle.std.proofs.lemmas.List.{take_more, drop_more, take-append-drop, get_or-drop, length-drop, drop_all}
use Rattle.std.proofs.lemmas.List.Quantifiers.{position-Some}
use Rattle.std.specs.List.{position, onto_first}
use Rattle.std.specs.Prelude.{is_err}
use Rattle.std.proofs.lemmas.Grind.{flat_map-append}
use Rattle.wt_trace.specs.Line.{line_of}
use Rattle.wt_trace.specs.Trace.{Verdict, Trace, joined, lines_of, lines_of_all, onto_lines, or_bad, onto_trace, checked, trace_from}
use Rattle.wt_trace.specs.declared.fault.ReplayFault.{ReplayFault}
use Rattle.wt_trace.specs.declared.fault.ReplayFault.TheVariants.{LineTooLong, TooManyLines}
use Rattle.wt_trace.specs.declared.trace.line.Line.{Line}
use Rattle.wt_trace.proofs.Traces.{lines_of-first}

-- ---- bytes

onto_lines-append : (b : ℕ) (ls ms : List (List ℕ)) → 0 < length ls → onto_lines b (ls ++ ms) ≡ onto_lines b ls ++ ms
onto_lines-append b [] ms some = absurd (omega arith)
onto_lines-append b (l ∷ ls) ms some =
    elim (b == 10) as (λ t. cond t ([] ∷ ((l ∷ ls) ++ ms)) (onto_first b ((l ∷ ls) ++ ms))
    ≡ cond t ([] ∷ (l ∷ ls)) (onto_first b (l ∷ ls)) ++ ms) [ true ↦ refl | false ↦ refl ]

some_line : (bytes : List ℕ) → 0 < length bytes → 0 < length (lines_of bytes)
some_line bytes some = let first = ap length (lines_of-first bytes some) in omega (arith, first)

behind_some : (xs : List ℕ) (b : ℕ) → 0 < length (xs ++ b ∷ [])
behind_some [] b = omega arith
behind_some (x ∷ xs) b = omega arith

-- the lines of bytes that are cut behind an LF are those of the first part, then those of the second
lines_of-cut : (xs ys : List ℕ) → lines_of (xs ++ 10 ∷ ys) ≡ lines_of (xs ++ 10 ∷ []) ++ lines_of ys
lines_of-cut [] ys = refl
lines_of-cut (x ∷ xs) ys = ap (onto_lines x) (lines_of-cut xs ys)
    ∙ onto_lines-append x (lines_of (xs ++ 10 ∷ [])) (lines_of ys)
    (some_line (xs ++ 10 ∷ []) (behind_some xs 10))

-- so it is where an LF is found
pub lines_of-found : (bytes : List ℕ) (most at : ℕ) → position (λ b. b == 10) (drop most bytes) ≡ Some at
    → lines_of (take (most + at + 1) bytes) ++ lines_of (drop (most + at + 1) bytes) ≡ lines_of bytes
lines_of-found bytes most at found =
    let k = most + at in
    let there = position-Some (λ b. b == 10) (drop most bytes) at 0 found in
    let same = get_or-drop most bytes at 0 in
    let is : get_or bytes k 0 ≡ 10 = grind (arith, nat_tests, there.1, same) in
    let within : k < length bytes = omega (arith, there.0, length-drop most bytes) in
    let front : take (k + 1) bytes ≡ take k bytes ++ 10 ∷ [] = take_more bytes k 0 within ∙ ap (λ b. take k bytes ++ b ∷ []) is in
    let whole : take k bytes ++ 10 ∷ drop (k + 1) bytes ≡ bytes =
    ap (λ b. take k bytes ++ b ∷ drop (k + 1) bytes) (sym is)
    ∙ ap (λ xs. take k bytes ++ xs) (sym (drop_more bytes k 0 within)) ∙ take-append-drop k bytes in
    ap (λ xs. lines_of xs ++ lines_of (drop (k + 1) bytes)) front
    ∙ sym (lines_of-cut (take k bytes) (drop (k + 1) bytes)) ∙ ap lines_of whole

module _ (done : List (List ℕ)) (rest : List ℕ) (all : List (List ℕ)) (so_far : lines_of_all done ++ lines_of rest ≡ all) where
  -- a piece more is cut off
  pub lines_of-more : (piece after : List ℕ) → lines_of piece ++ lines_of after ≡ lines_of rest
      → lines_of_all (done ++ piece ∷ []) ++ lines_of after ≡ all
  lines_of-more piece after cut =
      ap (λ ls. ls ++ lines_of after)
      (flat_map-append lines_of done (piece ∷ [])
      ∙ ap (λ ls. lines_of_all done ++ ls) (append-nil (lines_of piece)))
      ∙ append_assoc (lines_of_all done) (lines_of piece) (lines_of after)
      ∙ ap (λ ls. lines_of_all done ++ ls) cut
      ∙ so_far

  -- what is left is the last piece
  pub lines_of-last : lines_of_all (done ++ rest ∷ []) ≡ all
  lines_of-last = flat_map-append lines_of done (rest ∷ []) ∙ ap (λ ls. lines_of_all done ++ ls) (append-nil (lines_of rest)) ∙ so_far

-- the lines of a piece more
pub joined-more : {K : Type 0} (pieces : List (List (Line K))) (piece : List (Line K))
    → joined (pieces ++ piece ∷ []) ≡ joined pieces ++ piece
joined-more pieces piece = flat_map-append (λ lines. lines) pieces (piece ∷ []) ∙ ap (λ ls. joined pieces ++ ls) (append-nil piece)

-- what is no fault is Ok
pub no_fault : (v : Verdict) → is_err v ≡ false → v ≡ Ok tt
no_fault (Ok u) fine = refl
no_fault (Err fault) fine = absurd (cc)

module _ {K : Type 0} (read : List ℕ → Option K) where
  -- ---- lines

  -- lines before a trace
  abbrev before : List (Line K) → Trace K → Trace K
  before ls t = record t { lines = ls ++ t.lines }

  -- lines behind some of which none is at fault
  pub trace-append : (n : ℕ) (ls ms : List (List ℕ)) → (trace_from read n ls).verdict ≡ Ok tt
      → trace_from read n (ls ++ ms) ≡ before (trace_from read n ls).lines (trace_from read (n + length (trace_from read n ls).lines) ms)
  trace-append n [] ms good = let same : n ≡ n + 0 = omega arith in ap (λ m. trace_from read m ms) same
  trace-append n (l ∷ ls) ms good =
      let rest : Trace K = trace_from read (n + 1) ls in
      elim (checked read n l) as (λ (c : Result (Line K) ReplayFault). (onto_trace c rest).verdict ≡ Ok tt
      → onto_trace c (trace_from read (n + 1) (ls ++ ms))
      ≡ before (onto_trace c rest).lines (trace_from read (n + length (onto_trace c rest).lines) ms)) [
        | Ok line ↦ λ fine.
            let same : n + 1 + length rest.lines ≡ n + suc (length rest.lines) = omega arith in
            ap (onto_trace (Ok line)) (trace-append (n + 1) ls ms fine) ∙ ap (λ m. before (line ∷ rest.lines) (trace_from read m ms)) same
        | Err fault ↦ λ bad. absurd (cc)
      ] good

  -- lines behind a faulty one
  pub trace-behind : (n : ℕ) (ls ms : List (List ℕ)) (fault : ReplayFault)
      → (trace_from read n ls).verdict ≡ Err fault → trace_from read n (ls ++ ms) ≡ trace_from read n ls
  trace-behind n [] ms fault bad = absurd (cc)
  trace-behind n (l ∷ ls) ms fault bad =
      let rest : Trace K = trace_from read (n + 1) ls in
      elim (checked read n l) as (λ (c : Result (Line K) ReplayFault). (onto_trace c rest).verdict ≡ Err fault
      → onto_trace c (trace_from read (n + 1) (ls ++ ms)) ≡ onto_trace c rest) [
        | Ok line ↦ λ later. ap (onto_trace (Ok line)) (trace-behind (n + 1) ls ms fault later)
        | Err other ↦ λ _. refl
      ] bad

  -- ---- numbers

  -- a line that is good by one number is good by each that isn't too large
  checked-renumbered : (m n : ℕ) (bytes : List ℕ) (line : Line K) → checked read m bytes ≡ Ok line → n ≤ 1000000
      → checked read n bytes ≡ Ok line
  unfolding checked
  checked-renumbered m n bytes line good few =
      let within : nat_lt 1000000 n ≡ false = grind (arith, nat_tests, few) in
      elim (nat_lt 1000000 m) as (λ a. cond a (Err TooManyLines)
      (cond (nat_lt 64 (length bytes)) (Err (LineTooLong m)) (or_bad m (line_of read bytes))) ≡ Ok line
      → cond (nat_lt 1000000 n) (Err TooManyLines)
      (cond (nat_lt 64 (length bytes)) (Err (LineTooLong n)) (or_bad n (line_of read bytes))) ≡ Ok line) [
        | true ↦ λ bad. absurd (cc)
        | false ↦ elim (nat_lt 64 (length bytes)) as (λ b. cond b (Err (LineTooLong m)) (or_bad m (line_of read bytes)) ≡ Ok line
            → cond (nat_lt 1000000 n) (Err TooManyLines) (cond b (Err (LineTooLong n)) (or_bad n (line_of read bytes))) ≡ Ok line) [
              | true ↦ λ bad. absurd (cc)
              | false ↦ elim (line_of read bytes) as
                  (λ (o : Option (Line K)). or_bad m o ≡ Ok line
                  → cond (nat_lt 1000000 n) (Err TooManyLines) (or_bad n o) ≡ Ok line) [
                    | None ↦ λ bad. absurd (cc)
                    | Some one ↦ λ is. rw within is
                  ]
            ]
      ] good

  -- and so are all of them
  pub trace-renumbered : (m n : ℕ) (ls : List (List ℕ)) → (trace_from read m ls).verdict ≡ Ok tt
      → n + length (trace_from read m ls).lines ≤ 1000001 → trace_from read n ls ≡ trace_from read m ls
  trace-renumbered m n [] good few = refl
  trace-renumbered m n (l ∷ ls) good few =
      let rest : Trace K = trace_from read (m + 1) ls in
      elim (checked read m l) as (λ (c : Result (Line K) ReplayFault). checked read m l ≡ c
      → (onto_trace c rest).verdict ≡ Ok tt → n + length (onto_trace c rest).lines ≤ 1000001
      → onto_trace (checked read n l) (trace_from read (n + 1) ls) ≡ onto_trace c rest) [
        | Ok line ↦ λ is fine within.
            let same = checked-renumbered m n l line is (omega (arith, within)) in
            let more = trace-renumbered (m + 1) (n + 1) ls fine (omega (arith, within)) in
            λ i. onto_trace (same i) (more i)
        | Err fault ↦ λ is bad within. absurd (cc)
      ] refl good few

  -- ---- pieces

  -- the lines so far, and those of the pieces from the t-th on, are all
  pub record AreSoFar (first : ℕ) (pieces : List (List ℕ)) (t : ℕ) (all : Trace K) : Type 0 where
    pub lines : all.lines ++ (trace_from read (first + length all.lines) (lines_of_all (drop t pieces))).lines
        ≡ (trace_from read first (lines_of_all pieces)).lines
    pub verdict : (trace_from read (first + length all.lines) (lines_of_all (drop t pieces))).verdict
        ≡ (trace_from read first (lines_of_all pieces)).verdict
    pub fine : all.verdict ≡ Ok tt

  module _ (first : ℕ) (pieces : List (List ℕ)) where
    -- at first no piece is
    pub so_far-first : AreSoFar first pieces 0 (record { lines = []; verdict = Ok tt })
    so_far-first = let same : first + 0 ≡ first = omega arith in record {
      lines = ap (λ n. (trace_from read n (lines_of_all pieces)).lines) same;
      verdict = ap (λ n. (trace_from read n (lines_of_all pieces)).verdict) same;
      fine = refl;
    }

    -- at last each is
    pub so_far-last : (t : ℕ) (all : Trace K) → length pieces ≤ t → AreSoFar first pieces t all
        → all ≡ trace_from read first (lines_of_all pieces)
    so_far-last t all whole far =
        let n = first + length all.lines in
        let none : trace_from read n (lines_of_all (drop t pieces)) ≡ trace_from read n [] =
        ap (λ (ps : List (List ℕ)). trace_from read n (lines_of_all ps)) (drop_all t pieces whole) in
        let lines = sym (append-nil all.lines) ∙ ap (λ (x : Trace K). all.lines ++ x.lines) (sym none) ∙ far.lines in
        let verdict = far.fine ∙ ap (λ (x : Trace K). x.verdict) (sym none) ∙ far.verdict in
        λ i. record { lines = lines i; verdict = verdict i }

    module _ (t : ℕ) (all next : Trace K) (within : t < length pieces) (far : AreSoFar first pieces t all)
        (lines : next.lines ≡ all.lines ++ (trace_from read (first + length all.lines) (lines_of (get_or pieces t []))).lines)
        (verdict : next.verdict ≡ (trace_from read (first + length all.lines) (lines_of (get_or pieces t []))).verdict) where
      split : lines_of_all (drop t pieces) ≡ lines_of (get_or pieces t []) ++ lines_of_all (drop (t + 1) pieces)
      split = ap lines_of_all (drop_more pieces t [] within)

      -- one piece more, without a fault
      pub so_far-next : next.verdict ≡ Ok tt → AreSoFar first pieces (t + 1) next
      so_far-next good =
          let n = first + length all.lines in
          let own : Trace K = trace_from read n (lines_of (get_or pieces t [])) in
          let behind = lines_of_all (drop (t + 1) pieces) in
          let whole : trace_from read n (lines_of_all (drop t pieces)) ≡ before own.lines (trace_from read (n + length own.lines) behind) =
          ap (trace_from read n) split ∙ trace-append n (lines_of (get_or pieces t [])) behind (sym verdict ∙ good) in
          let longer = ap length lines ∙ length-append all.lines own.lines in
          let number : first + length next.lines ≡ n + length own.lines = omega (arith, longer) in
          let rest : Trace K = trace_from read (n + length own.lines) behind in
          record {
            lines = (λ i. lines i ++ (trace_from read (number i) behind).lines)
                ∙ append_assoc all.lines own.lines rest.lines
                ∙ ap (λ (x : Trace K). all.lines ++ x.lines) (sym whole) ∙ far.lines;
            verdict = ap (λ m. (trace_from read m behind).verdict) number ∙ ap (λ (x : Trace K). x.verdict) (sym whole) ∙ far.verdict;
            fine = good;
          }

      -- one with a fault, which ends all
      ended : (v : Verdict) → next.verdict ≡ v → is_err v ≡ true → next ≡ trace_from read first (lines_of_all pieces)
      ended (Ok u) is bad = absurd (cc)
      ended (Err fault) is bad =
          let n = first + length all.lines in
          let own : Trace K = trace_from read n (lines_of (get_or pieces t [])) in
          let behind = lines_of_all (drop (t + 1) pieces) in
          let whole : trace_from read n (lines_of_all (drop t pieces)) ≡ own = ap (trace_from read n) split
          ∙ trace-behind n (lines_of (get_or pieces t [])) behind fault (sym verdict ∙ is) in
          let all_lines = lines ∙ ap (λ (x : Trace K). all.lines ++ x.lines) (sym whole) ∙ far.lines in
          let end = verdict ∙ ap (λ (x : Trace K). x.verdict) (sym whole) ∙ far.verdict in
          λ i. record { lines = all_lines i; verdict = end i }

      pub so_far-ended : is_err next.verdict ≡ true → next ≡ trace_from read first (lines_of_all pieces)
      so_far-ended bad = ended next.verdict refl bad
