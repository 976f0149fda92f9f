-- A text in pieces.
use Rattle.std.proofs.Common.{◌≡◌, ℕ, zero, suc, ◌-◌, ◌<◌, ◌≤◌, List, [], ◌∷◌, ◌++◌, length, take, drop, get_or, refl, ap, ◌∙◌, arith, length-append}
use Rattle.std.proofs.lemmas.List.{take_all, take-append-le, drop-append-le, length-drop}
use Rattle.std.proofs.Math.Seq.{drop-append_seam}
use Rattle.std.specs.Prelude.{slice_range}
use Rattle.wt_trace.specs.Pieces.{pieces, AreEnds, last_end}

-- the piece at a place
pub pieces-at : (text : List ℕ) (start : ℕ) (ends : List ℕ) (i : ℕ) → i < length ends → AreEnds (length text) start ends
    → (slice_range text (get_or (start ∷ ends) i 0) (get_or ends i 0) ≡ get_or (pieces text start ends) i [])
    × (get_or (start ∷ ends) i 0 ≤ get_or ends i 0) × (get_or ends i 0 ≤ length text)
pieces-at text start [] i within are = absurd (omega arith)
pieces-at text start (end ∷ ends) zero within are = (refl, are.0, are.1)
pieces-at text start (end ∷ ends) (suc i) within are = pieces-at text end ends i (omega arith) are.2

pub length-pieces : (text : List ℕ) (start : ℕ) (ends : List ℕ) → length (pieces text start ends) ≡ length ends
length-pieces text start [] = refl
length-pieces text start (end ∷ ends) = ap suc (length-pieces text end ends)

-- a piece within a text is a piece of a longer one
slice_range-append : (text more : List ℕ) (start end : ℕ) → start ≤ end → end ≤ length text
    → slice_range (text ++ more) start end ≡ slice_range text start end
slice_range-append text more start end order within =
    ap (λ xs. take (end - start) xs) (drop-append-le start text more (omega (arith, order, within)))
    ∙ take-append-le (end - start) (drop start text) more (omega (arith, length-drop start text, within))

-- a piece more
pub pieces-append : (text more : List ℕ) (start : ℕ) (ends : List ℕ) → AreEnds (length text) start ends → last_end start ends ≡ length text
    → pieces (text ++ more) start (ends ++ length (text ++ more) ∷ []) ≡ pieces text start ends ++ more ∷ []
pieces-append text more start [] are last =
    let whole = length-append text more in
    let rest : drop start (text ++ more) ≡ more = ap (λ n. drop n (text ++ more)) last ∙ drop-append_seam text more in
    ap (λ xs. xs ∷ []) (ap (λ xs. take (length (text ++ more) - start) xs) rest
    ∙ take_all (length (text ++ more) - start) more (omega (arith, whole, last)))
pieces-append text more start (end ∷ ends) are last =
    λ i. slice_range-append text more start end are.0 are.1 i ∷ pieces-append text more end ends are.2 last i

pub AreEnds-append : (len longer : ℕ) (start : ℕ) (ends : List ℕ) → len ≤ longer → AreEnds len start ends
    → last_end start ends ≤ longer → AreEnds longer start (ends ++ longer ∷ [])
AreEnds-append len longer start [] more are last = (last, omega arith, tt)
AreEnds-append len longer start (end ∷ ends) more are last =
    (are.0, omega (arith, are.1), AreEnds-append len longer end ends more are.2 last)

pub last_end-append : (start : ℕ) (ends : List ℕ) (end : ℕ) → last_end start (ends ++ end ∷ []) ≡ end
last_end-append start [] end = refl
last_end-append start (e ∷ ends) end = last_end-append e ends end
