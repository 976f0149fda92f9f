-- A trace, a line at a time.
use Rattle.std.proofs.Common.{◌≡◌, ℕ, ◌+◌, ◌<◌, ◌≤◌, ◌==◌, ◌++◌, List, [], ◌∷◌, length, take, drop, Bool, true, false, cond, not, suc, Option, Some, None, Result, Ok, Err, nat_lt, refl, ap, sym, ◌∙◌, arith, append_assoc, append-nil}
use Rattle.std.proofs.lemmas.Bool.Decides.{nat_tests}
use Rattle.std.specs.List.{before_first, after_first, position_or_len, onto_first}
use Rattle.wt_trace.specs.Line.{line_of}
use Rattle.std.specs.Prelude.{IfErr}
use Rattle.wt_trace.specs.Replayed.{is_config_fault}
use Rattle.wt_trace.specs.Report.{IsVerdict}
use Rattle.wt_trace.specs.Trace.{Verdict, Trace, lines_of, or_bad, onto_trace, checked, trace_from}
use Rattle.wt_trace.specs.declared.fault.ReplayFault.{ReplayFault}
use Rattle.wt_trace.specs.declared.fault.ReplayFault.TheVariants.{Cache, BadLine, LineTooLong, TooManyLines, ReadFault, WriteFault, GateShut}
use Rattle.wt_trace.specs.declared.trace.line.Line.{Line}

abbrev is_end : ℕ → Bool
is_end c = c == 10

onto-first : (b : ℕ) (bs : List ℕ) (k : ℕ) → lines_of bs ≡ take k bs ∷ lines_of (drop (k + 1) bs)
    → onto_first b (lines_of bs) ≡ take (1 + k) (b ∷ bs) ∷ lines_of (drop (1 + k + 1) (b ∷ bs))
onto-first b bs k e =
    let one : 1 + k ≡ suc k = omega arith in
    let two : suc k + 1 ≡ suc (k + 1) = omega arith in
    rw (e, one, two) refl

-- the lines from the front, though they are defined from the end
pub lines_of-first : (bytes : List ℕ) → 0 < length bytes → lines_of bytes ≡ before_first is_end bytes ∷ lines_of (after_first is_end bytes)
lines_of-first [] some = absurd (omega arith)
lines_of-first (b ∷ []) some = elim (b == 10) as
    (λ t. cond t ([] ∷ []) (onto_first b [])
    ≡ take (cond (not t) 1 0) (b ∷ []) ∷ lines_of (drop (cond (not t) 1 0 + 1) (b ∷ [])))
    [ true ↦ refl | false ↦ refl ]
lines_of-first (b ∷ d ∷ ds) some = elim (b == 10) as (λ t. cond t ([] ∷ lines_of (d ∷ ds)) (onto_first b (lines_of (d ∷ ds)))
    ≡ take (cond (not t) (1 + position_or_len is_end (d ∷ ds)) 0) (b ∷ d ∷ ds) ∷ lines_of
    (drop (cond (not t) (1 + position_or_len is_end (d ∷ ds)) 0 + 1) (b ∷ d ∷ ds))) [
      | true ↦ refl
      | false ↦ onto-first b (d ∷ ds) _ (lines_of-first (d ∷ ds) (omega arith))
    ]

module _ {K : Type 0} (read : List ℕ → Option K) where
  few_lines : (n : ℕ) (bytes : List ℕ) (line : Line K) → Ok line ≡ checked read n bytes → n ≤ 1000000
  unfolding checked
  few_lines n bytes line is = elim (nat_lt 1000000 n) as
      (λ t. nat_lt 1000000 n ≡ t → Ok line
      ≡ cond t (Err TooManyLines) (cond (nat_lt 64 (length bytes)) (Err (LineTooLong n))
      (or_bad n (line_of read bytes))) → n ≤ 1000000) [
        | true ↦ λ _ bad. absurd (cc)
        | false ↦ λ at _. grind (arith, nat_tests)
      ] refl is

  trace_from-first : (n : ℕ) (bytes first rest : List ℕ) → 0 < length bytes → first ≡ before_first is_end bytes
      → rest ≡ after_first is_end bytes
      → trace_from read n (lines_of bytes) ≡ onto_trace (checked read n first) (trace_from read (n + 1) (lines_of rest))
  trace_from-first n bytes first rest some front back =
      ap (trace_from read n) (lines_of-first bytes some)
      ∙ (λ i. onto_trace (checked read n (sym front i)) (trace_from read (n + 1) (lines_of (sym back i))))

  -- a good line before those behind it
  pub trace_from-good : (n : ℕ) (bytes first rest : List ℕ) (line : Line K) → 0 < length bytes
      → first ≡ before_first is_end bytes → rest ≡ after_first is_end bytes → Ok line ≡ checked read n first
      → (trace_from read n (lines_of bytes) ≡ onto_trace (Ok line) (trace_from read (n + 1) (lines_of rest))) × (n + 1 ≤ 1000001)
  trace_from-good n bytes first rest line some front back good =
      let more : Trace K = trace_from read (n + 1) (lines_of rest) in
      let few = few_lines n first line good in (
        trace_from-first n bytes first rest some front back
            ∙ ap (λ (c : Result (Line K) ReplayFault). onto_trace c more) (sym good),
        omega (arith, few),
      )

  -- a faulty line, behind which none is read
  pub trace_from-faulty : (n : ℕ) (bytes first rest : List ℕ) (fault : ReplayFault) → 0 < length bytes
      → first ≡ before_first is_end bytes → rest ≡ after_first is_end bytes → Err fault ≡ checked read n first
      → trace_from read n (lines_of bytes) ≡ record { lines = []; verdict = Err fault }
  trace_from-faulty n bytes first rest fault some front back bad =
      let more : Trace K = trace_from read (n + 1) (lines_of rest) in
      trace_from-first n bytes first rest some front back ∙ ap (λ (c : Result (Line K) ReplayFault). onto_trace c more) (sym bad)

  -- of nothing
  pub trace_from-none : (n : ℕ) (bytes : List ℕ) → length bytes ≡ 0
      → trace_from read n (lines_of bytes) ≡ record { lines = []; verdict = Ok tt }
  trace_from-none n [] none = refl
  trace_from-none n (b ∷ bs) none = absurd (omega arith)

  -- a good line more
  pub next_line : (n : ℕ) (bytes first rest : List ℕ) (line : Line K) (done all : List (Line K)) (verdict : Verdict) → 0 < length bytes
      → first ≡ before_first is_end bytes → rest ≡ after_first is_end bytes → Ok line ≡ checked read n first
      → done ++ (trace_from read n (lines_of bytes)).lines ≡ all → (trace_from read n (lines_of bytes)).verdict ≡ verdict
      → ((done ++ line ∷ []) ++ (trace_from read (n + 1) (lines_of rest)).lines ≡ all)
      × ((trace_from read (n + 1) (lines_of rest)).verdict ≡ verdict) × (n + 1 ≤ 1000001)
  next_line n bytes first rest line done all verdict some front back good lines ends =
      let more : Trace K = trace_from read (n + 1) (lines_of rest) in
      let whole = trace_from-first n bytes first rest some front back
      ∙ ap (λ (c : Result (Line K) ReplayFault). onto_trace c more) (sym good) in
      let few = few_lines n first line good in (
        append_assoc done (line ∷ []) more.lines ∙ ap (λ (t : Trace K). done ++ t.lines) (sym whole) ∙ lines,
        ap (λ (t : Trace K). t.verdict) (sym whole) ∙ ends,
        omega (arith, few),
      )

  -- a faulty line
  pub faulty_line : (n : ℕ) (bytes first rest : List ℕ) (fault : ReplayFault) (done all : List (Line K))
      (verdict : Verdict) → 0 < length bytes
      → first ≡ before_first is_end bytes → rest ≡ after_first is_end bytes → Err fault ≡ checked read n first
      → done ++ (trace_from read n (lines_of bytes)).lines ≡ all → (trace_from read n (lines_of bytes)).verdict ≡ verdict
      → (done ≡ all) × (Err fault ≡ verdict)
  faulty_line n bytes first rest fault done all verdict some front back bad lines ends =
      let more : Trace K = trace_from read (n + 1) (lines_of rest) in
      let whole = trace_from-first n bytes first rest some front back
      ∙ ap (λ (c : Result (Line K) ReplayFault). onto_trace c more) (sym bad) in (
        sym (append-nil done) ∙ ap (λ (t : Trace K). done ++ t.lines) (sym whole) ∙ lines,
        ap (λ (t : Trace K). t.verdict) (sym whole) ∙ ends,
      )

  -- no line is left
  pub no_line : (n : ℕ) (bytes : List ℕ) (done all : List (Line K)) (verdict : Verdict) → length bytes ≡ 0
      → done ++ (trace_from read n (lines_of bytes)).lines ≡ all
      → (trace_from read n (lines_of bytes)).verdict ≡ verdict → (done ≡ all) × (Ok tt ≡ verdict)
  no_line n [] done all verdict none lines ends = (sym (append-nil done) ∙ lines, ends)
  no_line n (b ∷ bs) done all verdict none lines ends = absurd (omega arith)

  -- ---- the kind of a verdict
  IsFaulty : Result (Line K) ReplayFault → Type 0
  IsFaulty (Ok line) = Unit {0}
  IsFaulty (Err fault) = IsVerdict (Err fault)

  faulty_or_bad : (n : ℕ) (o : Option (Line K)) → IsFaulty (or_bad n o)
  unfolding IsFaulty
  faulty_or_bad n None = tt
  faulty_or_bad n (Some line) = tt

  faulty_checked : (n : ℕ) (bytes : List ℕ) → IsFaulty (checked read n bytes)
  unfolding checked IsFaulty
  faulty_checked n bytes = elim (nat_lt 1000000 n) as
      (λ t. IsFaulty (cond t (Err TooManyLines)
      (cond (nat_lt 64 (length bytes)) (Err (LineTooLong n)) (or_bad n (line_of read bytes))))) [
        | true ↦ tt
        | false ↦ elim (nat_lt 64 (length bytes)) as
            (λ t. IsFaulty (cond t (Err (LineTooLong n)) (or_bad n (line_of read bytes))))
            [ true ↦ tt | false ↦ faulty_or_bad n (line_of read bytes) ]
      ]

  onto_trace-verdict : (c : Result (Line K) ReplayFault) (t : Trace K) → IsFaulty c → IsVerdict t.verdict
      → IsVerdict (onto_trace c t).verdict
  unfolding IsFaulty
  onto_trace-verdict (Ok line) t is rest = rest
  onto_trace-verdict (Err fault) t is rest = is

  -- a trace ends well, or by what is wrong with a line
  pub verdict_of-trace : (n : ℕ) (ls : List (List ℕ)) → IsVerdict (trace_from read n ls).verdict
  verdict_of-trace n [] = tt
  verdict_of-trace n (l ∷ ls) = onto_trace-verdict (checked read n l) (trace_from read (n + 1) ls)
      (faulty_checked n l) (verdict_of-trace (n + 1) ls)

-- which is no fault of the options
pub no_config_fault : (v : Verdict) → IsVerdict v → IfErr v (λ e. is_config_fault e ≡ false)
no_config_fault (Ok u) is = tt
no_config_fault (Err (BadLine n)) is = refl
no_config_fault (Err (LineTooLong n)) is = refl
no_config_fault (Err TooManyLines) is = refl
no_config_fault (Err (Cache fault)) is = absurd is
no_config_fault (Err ReadFault) is = absurd is
no_config_fault (Err WriteFault) is = absurd is
no_config_fault (Err (GateShut n)) is = absurd is
