-- One write more.
use Rattle.std.proofs.Common.{◌≡◌, ℕ, ◌++◌, List, Option, take, drop, Result, Ok, Err, ap, sym, subst, ◌∙◌, append_assoc}
use Rattle.std.proofs.lemmas.List.{take-append-drop}
use Rattle.std.specs.Io.KnownBytes.{Appends}
use Rattle.std.proofs.KnownBytes.{Appends-trans}
use Rattle.std.specs.Result.{IsErrAnd}
use Rattle.wt_trace.specs.Contract.{IsWritten}
use Rattle.wt_trace.specs.Replayed.{AppendsPrefix, Rises}
use Rattle.wt_trace.specs.Tally.{Tally}
use Rattle.wt_trace.specs.declared.fault.ReplayFault.{ReplayFault}
use Rattle.wt_trace.specs.declared.fault.ReplayFault.TheVariants.{WriteFault}

pub written_more : (a b c : Option (List ℕ)) (bytes front rest : List ℕ) (n : ℕ) → bytes ≡ front ++ rest
    → Appends a b front → Appends b c (take n rest) →
    (bytes ≡ (front ++ take n rest) ++ drop n rest) × Appends a c (front ++ take n rest)
written_more a b c bytes front rest n e one two = (
  e ∙ (ap (λ xs. front ++ xs) (sym (take-append-drop n rest))
      ∙ sym (append_assoc front (take n rest) (drop n rest))),
  Appends-trans a b c front (take n rest) one two,
)

-- a piece more is written
pub written_piece : (a b c : Option (List ℕ)) (bytes front piece rest : List ℕ)
    → bytes ≡ front ++ (piece ++ rest) → Appends a b front → Appends b c piece
    → (bytes ≡ (front ++ piece) ++ rest) × Appends a c (front ++ piece)
written_piece a b c bytes front piece rest e one two = (e ∙ sym (append_assoc front piece rest), Appends-trans a b c front piece one two)

-- a piece isn't written whole
pub written_part : (a b c : Option (List ℕ)) (bytes front piece rest : List ℕ)
    → bytes ≡ front ++ (piece ++ rest) → Appends a b front → AppendsPrefix b c piece → AppendsPrefix a c bytes
written_part a b c bytes front piece rest e one (part, left, is, two) = (
  front ++ part,
  left ++ rest,
  e
      ∙ ap (λ xs. front ++ xs) (ap (λ xs. xs ++ rest) is ∙ append_assoc part left rest)
      ∙ sym (append_assoc front part (left ++ rest)),
  Appends-trans a b c front part one two,
)

module _ {W : Type 0} (contents : W → Option (List ℕ)) (a b c : Tally W) (bytes front piece rest : List ℕ) where
  -- and ends the writing of all
  pub ended_within : (e : ReplayFault) → bytes ≡ front ++ (piece ++ rest)
      → Appends (contents a.inner) (contents b.inner) front → b.failures ≡ a.failures
      → IsWritten contents b c piece (Err e) → (r : Result (Unit {0}) ReplayFault) → IsErrAnd r (λ x. x ≡ e)
      → IsWritten contents a c bytes r
  ended_within e whole one same two (Ok u) is = absurd is
  ended_within e whole one same two (Err x) is =
      subst (λ y. IsWritten contents a c bytes (Err y)) (sym is) (record {
        ok = tt;
        err = (two.err.0, written_part (contents a.inner) (contents b.inner) (contents c.inner) bytes front piece rest whole one two.err.1);
        kind = two.kind;
        failed = subst (λ n. Rises {X = Unit {0}} n c.failures (Err e) WriteFault) same two.failed;
        fine = tt;
      })
