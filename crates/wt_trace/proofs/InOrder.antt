-- What a shard answers, a line at a time.
use Rattle.std.proofs.Common.{◌≡◌, ℕ, suc, ◌+◌, ◌≤◌, None, List, [], ◌∷◌, ◌++◌, length, refl, ap, sym, subst, ◌∙◌, arith, append_assoc, append-nil, length-append}
use Rattle.std.specs.Prelude.{All, map, slice_index_or}
use Rattle.std.proofs.lemmas.List.Elements.{All-map}
use Rattle.std.proofs.lemmas.List.FromFn.{length-map-range_with_len}
use Rattle.std.specs.List.{range_with_len}
use Rattle.wt_core.specs.State.{stats_of}
use Rattle.wt_trace.specs.Answers.{Cache, ShardAnswers, Stepped, line_step, answers_from, answers, new_cache}
use Rattle.wt_trace.specs.Keys.{Keys}
use Rattle.wt_trace.specs.Pieces.{pieces, AreEnds, last_end}
use Rattle.wt_trace.specs.declared.trace.line.Line.{Line}
use Rattle.wt_trace.specs.Options.{option_fault}
use Rattle.wt_trace.specs.declared.options.Options.{Options}
use Rattle.wt_trace.proofs.Ranges.{shards_few}
use Rattle.wt_trace.proofs.Ends.{pieces-append, AreEnds-append, last_end-append}

-- the text so far, and what the lines that are left add to it, are what the shard answers in all
pub record IsSoFar {K : Type 0} (keys : Keys K) (o : Options) (shard : ℕ) (all : ShardAnswers) (text ends : List ℕ) (n : ℕ)
    (rest : List (Line K)) (s : Cache K) : Type 0 where
  pub texts : pieces text 0 ends ++ (answers_from keys o shard n rest s).texts ≡ all.texts
  pub stats : (answers_from keys o shard n rest s).stats ≡ all.stats
  pub are : AreEnds (length text) 0 ends
  pub last : last_end 0 ends ≡ length text

module _ {K : Type 0} (keys : Keys K) (o : Options) (shard : ℕ) (all : ShardAnswers) (text ends : List ℕ) (n : ℕ) where
  more_at : (line : Line K) (after : List (Line K)) (s : Cache K) → (let one : Stepped K = line_step keys o shard n line s in
      IsSoFar keys o shard all text ends n (line ∷ after) s
      → IsSoFar keys o shard all (text ++ one.text) (ends ++ length (text ++ one.text) ∷ []) (n + 1) after one.cache)
  more_at line after s far =
      let one : Stepped K = line_step keys o shard n line s in
      let left : ShardAnswers = answers_from keys o shard (n + 1) after one.cache in
      let longer = length-append text one.text in
      record {
        texts = ap (λ ts. ts ++ left.texts) (pieces-append text one.text 0 ends far.are far.last)
            ∙ append_assoc (pieces text 0 ends) (one.text ∷ []) left.texts ∙ far.texts;
        stats = far.stats;
        are = AreEnds-append (length text) (length (text ++ one.text)) 0 ends (omega (arith, longer)) far.are
            (omega (arith, longer, far.last));
        last = last_end-append 0 ends (length (text ++ one.text));
      }

  -- a line more
  pub more_line : (line : Line K) (rest after : List (Line K)) (s t : Cache K) (longer : List ℕ)
      → (let one : Stepped K = line_step keys o shard n line s in
      rest ≡ line ∷ after → t ≡ one.cache → longer ≡ text ++ one.text
      → IsSoFar keys o shard all text ends n rest s → IsSoFar keys o shard all longer (ends ++ length longer ∷ []) (n + 1) after t)
  more_line line rest after s t longer first cache more far =
      let next = more_at line after s (subst (λ (ls : List (Line K)). IsSoFar keys o shard all text ends n ls s) first far) in
      let one : Stepped K = line_step keys o shard n line s in
      let shown = subst (λ xs. IsSoFar keys o shard all xs (ends ++ length xs ∷ []) (n + 1) after one.cache) (sym more) next in
      subst (λ (x : Cache K). IsSoFar keys o shard all longer (ends ++ length longer ∷ []) (n + 1) after x) (sym cache) shown

  -- no line is left
  pub no_line : (rest : List (Line K)) (s : Cache K) → length rest ≡ 0 → IsSoFar keys o shard all text ends n rest s
      → record { texts = pieces text 0 ends; stats = stats_of s.state } ≡ all
  no_line [] s none far = λ i. record { texts = (sym (append-nil (pieces text 0 ends)) ∙ far.texts) i; stats = far.stats i }
  no_line (line ∷ after) s none far = absurd (omega arith)

-- a new shard answers all of the lines
module _ {K : Type 0} (keys : Keys K) (o : Options) where
  pub answers-all : (n : ℕ) (ls : List (Line K)) (shard : ℕ)
      → answers_from keys o shard n ls (new_cache o) ≡ answers keys o n ls shard
  unfolding answers
  answers-all n ls shard = refl

-- a shard adds a text to each line, an empty one to that of another
module _ {K : Type 0} (keys : Keys K) (o : Options) where
  length-answers_from : (shard n : ℕ) (ls : List (Line K)) (s : Cache K)
      → length (answers_from keys o shard n ls s).texts ≡ length ls
  length-answers_from shard n [] s = refl
  length-answers_from shard n (l ∷ ls) s = ap suc (length-answers_from shard (n + 1) ls (line_step keys o shard n l s).cache)

  pub length-answers : (n : ℕ) (ls : List (Line K)) (shard : ℕ) → length (answers keys o n ls shard).texts ≡ length ls
  unfolding answers
  length-answers n ls shard = length-answers_from shard n ls (new_cache o)

  -- and so of all shards
  pub whole-answers : (n count : ℕ) (ls : List (Line K)) (all : List ShardAnswers) → length ls ≡ count
      → all ≡ map (answers keys o n ls) (range_with_len 0 o.shards) → All (λ (a : ShardAnswers). length a.texts ≡ count) all
  whole-answers n count ls all len are =
      let whole : ShardAnswers → Type 0 = λ a. length a.texts ≡ count in
      let shards = range_with_len 0 o.shards in
      let each = All-map whole (answers keys o n ls) shards (λ k d within. length-answers n ls (slice_index_or shards k d) ∙ len) in
      subst (λ (xs : List ShardAnswers). All whole xs) (sym are) each

  -- of which there are few
  pub few-answers : (n : ℕ) (ls : List (Line K)) (all : List ShardAnswers) → option_fault o ≡ None
      → all ≡ map (answers keys o n ls) (range_with_len 0 o.shards) → length all ≤ 4
  few-answers n ls all none are =
      let count : length all ≡ o.shards = ap length are ∙ length-map-range_with_len (answers keys o n ls) 0 o.shards in
      let few = shards_few o none in
      omega (arith, count, few)
