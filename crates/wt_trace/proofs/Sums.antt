-- Sums over the shards.
use Rattle.std.proofs.Common.{◌≡◌, ℕ, zero, suc, ◌+◌, List, [], ◌∷◌, ◌++◌, ap, refl, sym, ◌∙◌, append-nil, append_assoc, arith}
use Rattle.std.proofs.lemmas.Grind.{flat_map-append}
use Rattle.std.proofs.lemmas.List.{map-id}
use Rattle.std.proofs.lemmas.List.FromFn.{map-range_with_len_more}
use Rattle.std.specs.List.{flat_map, range_with_len}
use Rattle.wt_trace.specs.Answers.{ShardAnswers}
use Rattle.wt_trace.specs.Report.{summary, summary_of}
use Rattle.wt_core.specs.Sums.{AreSums}
use Rattle.wt_core.specs.declared.stats.Stats.{Stats}

pub summary_of-totals : (t : Stats) (all : List ShardAnswers) → AreSums (λ (a : ShardAnswers). a.stats) t all → summary_of t ≡ summary all
unfolding summary
summary_of-totals t all are = ap summary_of (λ i. record {
  lookups = are.lookups i;
  hits = are.hits i;
  misses = are.misses i;
  loads = are.loads i;
  failed = are.failed i;
  evicted = are.evicted i;
  entries = are.entries i;
  weight = are.weight i;
})

-- one line more
pub flat_map-range_with_len : (f : ℕ → List ℕ) (a n j : ℕ) → a + n ≡ j
    → flat_map f (range_with_len a (n + 1)) ≡ flat_map f (range_with_len a n) ++ f j
flat_map-range_with_len f a n j is =
    let more : range_with_len a (n + 1) ≡ range_with_len a n ++ j ∷ [] =
    sym (map-id (range_with_len a (n + 1))) ∙ map-range_with_len_more (λ x. x) a n j is
    ∙ ap (λ xs. xs ++ j ∷ []) (map-id (range_with_len a n)) in
    ap (flat_map f) more ∙ flat_map-append f (range_with_len a n) (j ∷ [])
    ∙ ap (λ xs. flat_map f (range_with_len a n) ++ xs) (append-nil (f j))

-- lines behind those before them
pub flat_map-ranges : (f : ℕ → List ℕ) (a n : ℕ)
    → flat_map f (range_with_len 0 a) ++ flat_map f (range_with_len a n) ≡ flat_map f (range_with_len 0 (a + n))
flat_map-ranges f a zero = append-nil (flat_map f (range_with_len 0 a)) ∙ ap (λ n. flat_map f (range_with_len 0 n)) (omega arith)
flat_map-ranges f a (suc n) =
    let before : List ℕ = flat_map f (range_with_len 0 a) in
    let one : suc n ≡ n + 1 = omega arith in
    let all : a + n + 1 ≡ a + suc n = omega arith in
    let more : flat_map f (range_with_len a (suc n)) ≡ flat_map f (range_with_len a n) ++ f (a + n) =
    ap (λ m. flat_map f (range_with_len a m)) one ∙ flat_map-range_with_len f a n (a + n) refl in
    let last : flat_map f (range_with_len 0 (a + n + 1)) ≡ flat_map f (range_with_len 0 (a + n)) ++ f (a + n) =
    flat_map-range_with_len f 0 (a + n) (a + n) (omega arith) in
    ap (λ xs. before ++ xs) more ∙ sym (append_assoc before (flat_map f (range_with_len a n)) (f (a + n)))
    ∙ ap (λ xs. xs ++ f (a + n)) (flat_map-ranges f a n) ∙ sym last
    ∙ ap (λ m. flat_map f (range_with_len 0 m)) all

-- what is appended to a text, before what is appended behind it
pub appended_before : (before after added rest : List ℕ) → after ≡ before ++ added → after ++ rest ≡ before ++ (added ++ rest)
appended_before before after added rest is = ap (λ xs. xs ++ rest) is ∙ append_assoc before added rest
