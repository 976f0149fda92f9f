-- The report of a trace, by whether its first line is a header.
use Rattle.std.proofs.Common.{◌≡◌, ℕ, ◌==◌, List, [], ◌∷◌, drop, true, false, codes, refl, ap, ◌∙◌, arith}
use Rattle.std.specs.Prelude.{nat_eq}
use Rattle.std.specs.List.{before_first, after_first}
use Rattle.std.specs.Cmp.Lexicographic.{pointwise}
use Rattle.wt_trace.specs.Keys.{names, numbers, name_of, number_of}
use Rattle.wt_trace.specs.Report.{report, report_by, report_of}
use Rattle.wt_trace.specs.Trace.{lines_of, is_header, trace_from}
use Rattle.wt_trace.specs.declared.options.Options.{Options}
use Rattle.wt_trace.proofs.Traces.{lines_of-first}

pub header_first : (bytes : List ℕ) → is_header (lines_of bytes) ≡ pointwise nat_eq (before_first (λ b. b == 10) bytes) (codes "wt 2")
header_first [] = refl
header_first (b ∷ bs) = ap is_header (lines_of-first (b ∷ bs) (omega arith))

pub behind_first : (bytes : List ℕ) → drop 1 (lines_of bytes) ≡ lines_of (after_first (λ b. b == 10) bytes)
behind_first [] = refl
behind_first (b ∷ bs) = ap (λ ls. drop 1 ls) (lines_of-first (b ∷ bs) (omega arith))

module _ (o : Options) (bytes : List ℕ) where
  -- with a header the keys of the lines behind it are names
  pub named : (rest : List ℕ) → is_header (lines_of bytes) ≡ true → drop 1 (lines_of bytes) ≡ lines_of rest
      → report o bytes ≡ report_of names o 2 (trace_from name_of 2 (lines_of rest))
  named rest is behind = (λ i. report_by (is i) o (lines_of bytes))
      ∙ ap (λ (ls : List (List ℕ)). report_of names o 2 (trace_from name_of 2 ls)) behind

  -- without one all lines have numbers
  pub numbered : is_header (lines_of bytes) ≡ false → report o bytes ≡ report_of numbers o 1 (trace_from number_of 1 (lines_of bytes))
  numbered is = λ i. report_by (is i) o (lines_of bytes)
