-- A trace: the lines up to the first fault.
use Rattle.std.specs.Prelude.{◌≡◌, ℕ, ◌+◌, ◌==◌, ◌<◌, ◌++◌, nat_eq, nat_lt, Bool, true, false, if◌then◌else◌, List, [], ◌∷◌, length, get_or, drop, Option, IfSome, None, Some, Result, Ok, Err, codes}
use Rattle.std.specs.List.{onto_first, flat_map}
use Rattle.std.specs.Cmp.Lexicographic.{pointwise}
use Rattle.wt_trace.specs.declared.trace.line.Line.{Line}
use Rattle.wt_trace.specs.declared.fault.ReplayFault.{ReplayFault}
use Rattle.wt_trace.specs.declared.fault.ReplayFault.TheVariants.{BadLine, LineTooLong, TooManyLines}
use Rattle.wt_trace.specs.Line.{line_of}

-- the number behind that of the last line that a trace may have
abbrev pub line_end : ℕ
line_end = 1000001

-- how many bytes are read of a trace at most: 1,000,000 lines of 64 bytes, an LF behind each, and one byte that tells of more
abbrev pub read_end : ℕ
read_end = 65000001

-- how a report ends
abbrev pub Verdict : Type 0
Verdict = Result (Unit {0}) ReplayFault

-- a byte before these lines: an LF ends a line
abbrev pub onto_lines : ℕ → List (List ℕ) → List (List ℕ)
onto_lines b ls = if b == 10 then [] ∷ ls else onto_first b ls

-- a line is what stands before an LF, and what stands behind the last LF, unless that is nothing
abbrev pub lines_of : List ℕ → List (List ℕ)
lines_of [] = []
lines_of (b ∷ bs) = onto_lines b (lines_of bs)

-- the lines of texts, one text after another
abbrev pub lines_of_all : List (List ℕ) → List (List ℕ)
lines_of_all texts = flat_map lines_of texts

-- the first line of a trace of names
abbrev pub is_header : List (List ℕ) → Bool
is_header [] = false
is_header (l ∷ ls) = pointwise nat_eq l (codes "wt 2")

-- the first line of the bytes is that line, and the rest is what stands behind it
abbrev pub IsBehindHeader : List ℕ → List ℕ → Type 0
IsBehindHeader bytes rest = (is_header (lines_of bytes) ≡ true) × (drop 1 (lines_of bytes) ≡ lines_of rest)

-- the lines up to the first fault, and that fault
pub record Trace (K : Type 0) : Type 0 where
  pub lines : List (Line K)
  pub verdict : Verdict

module _ {K : Type 0} where
  -- the lines of pieces, one piece after another
  abbrev pub joined : List (List (Line K)) → List (Line K)
  joined pieces = flat_map (λ lines. lines) pieces

  -- these are its lines, and none is at fault
  abbrev pub IsFaultless : Trace K → List (Line K) → Type 0
  IsFaultless t lines = (t.lines ≡ lines) × (t.verdict ≡ Ok tt)

  -- a trace with further lines, and their verdict
  abbrev pub trace_with : Trace K → List (Line K) → Verdict → Trace K
  trace_with t lines verdict = record { lines = t.lines ++ lines; verdict = verdict }

  -- a line that isn't there is a bad one
  abbrev pub or_bad : ℕ → Option (Line K) → Result (Line K) ReplayFault
  or_bad n None = Err (BadLine n)
  or_bad n (Some line) = Ok line

  -- a line before a trace, or a fault that ends it
  abbrev pub onto_trace : Result (Line K) ReplayFault → Trace K → Trace K
  onto_trace (Ok line) t = record t { lines = line ∷ t.lines }
  onto_trace (Err fault) t = record { lines = []; verdict = Err fault }

module _ {K : Type 0} (read : List ℕ → Option K) where
  -- line n, or what is wrong with it
  unfoldable pub checked : ℕ → List ℕ → Result (Line K) ReplayFault
  checked n bytes =
      if nat_lt 1000000 n then Err TooManyLines else
      if nat_lt 64 (length bytes) then Err (LineTooLong n) else
      or_bad n (line_of read bytes)

  -- of the lines, the first of which is line n
  abbrev pub trace_from : ℕ → List (List ℕ) → Trace K
  trace_from n [] = record { lines = []; verdict = Ok tt }
  trace_from n (bytes ∷ more) = onto_trace (checked n bytes) (trace_from (n + 1) more)

  -- of bytes whose first line is line n: their lines, of which none is at fault, or nothing
  abbrev pub AreLines : ℕ → List ℕ → Option (List (Line K)) → Type 0
  AreLines n bytes lines = IfSome lines (IsFaultless (trace_from n (lines_of bytes)))

  -- and so of each piece of bytes, by itself
  abbrev pub AreAlone : ℕ → List (List ℕ) → List (Option (List (Line K))) → Type 0
  AreAlone n pieces all = (t : ℕ) → t < length pieces → AreLines n (get_or pieces t []) (get_or all t None)
