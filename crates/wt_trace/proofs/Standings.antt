-- The report of shards, a line at a time.
use Rattle.std.proofs.Common.{◌≡◌, ℕ, zero, suc, ◌+◌, ◌<◌, List, [], ◌∷◌, ◌++◌, length, take, drop, set, map, get_or, Ok, Err, Bool, true, false, codes, decimal, refl, ap, sym, ◌∙◌, arith, append_assoc, append-nil}
use Rattle.std.specs.Prelude.{is_ok, is_err}
use Rattle.std.specs.List.{flat_map, fold, range_with_len, sum_by}
use Rattle.std.proofs.lemmas.List.{flat_map_more, get_or-map, map-set, map_push, take_more}
use Rattle.std.proofs.lemmas.List.FromFn.{map-range_with_len_more}
use Rattle.std.proofs.lemmas.List.Edits.{map_over_more}
use Rattle.wt_core.specs.State.{stats_of}
use Rattle.wt_core.specs.Sums.{AreSums}
use Rattle.wt_core.specs.declared.stats.Stats.{Stats}
use Rattle.wt_trace.specs.Answers.{ShardAnswers, Work, answers, answers_from, line_step, new_cache}
use Rattle.wt_trace.specs.Keys.{Keys}
use Rattle.wt_trace.specs.Report.{line_text, lines_text, printed, summary, summary_of}
use Rattle.wt_trace.specs.Standing.{Standing, standing_of, new_standing, new_standings, added_text, next_standing, line_by, lines_by, standings_after}
use Rattle.wt_trace.specs.Trace.{Trace, Verdict, onto_trace}
use Rattle.wt_trace.specs.declared.trace.line.Line.{Line}
use Rattle.wt_trace.specs.declared.options.Options.{Options}
use Rattle.wt_trace.proofs.Sums.{summary_of-totals}

-- ---- the shards, one after another

-- those before place i have done the line, and the one at place i hasn't
at_place : {X : Type 0} (f : X → X) (xs : List X) (i : ℕ) (d : X) → get_or (map f (take i xs) ++ drop i xs) i d ≡ get_or xs i d
at_place f xs zero d = refl
at_place f [] (suc i) d = refl
at_place f (x ∷ xs) (suc i) d = at_place f xs i d

module _ {K : Type 0} (keys : Keys K) (n : ℕ) (line : Line K) (shards now : List (Standing K)) (i : ℕ) (s : Standing K) where
  -- a shard more does the line
  pub one_shard : (before out longer : List ℕ) → i < length shards → now ≡ map (next_standing keys n line) (take i shards) ++ drop i shards
      → s ≡ get_or now i s
      → out ≡ before ++ flat_map (added_text keys n line) (take i shards) → longer ≡ out ++ added_text keys n line s
      → (longer ≡ before ++ flat_map (added_text keys n line) (take (i + 1) shards))
      × (set now i (next_standing keys n line s) ≡ map (next_standing keys n line) (take (i + 1) shards) ++ drop (i + 1) shards)
  one_shard before out longer within are at text more =
      let next : Standing K → Standing K = next_standing keys n line in
      let adds : Standing K → List ℕ = added_text keys n line in
      let here : s ≡ get_or shards i s = at ∙ ap (λ (xs : List (Standing K)). get_or xs i s) are ∙ at_place next shards i s in
      let one : take (i + 1) shards ≡ take i shards ++ s ∷ [] =
      take_more shards i s within ∙ ap (λ (x : Standing K). take i shards ++ x ∷ []) (sym here) in
      let grown = flat_map_more adds before (take i shards) s ∙ ap (λ (xs : List (Standing K)). before ++ flat_map adds xs) (sym one) in
      (more ∙ ap (λ xs. xs ++ adds s) text ∙ grown, map_over_more next shards now i s within are at)

-- a new shard more
pub new_more : {K : Type 0} (o : Options) (n : ℕ) (ws longer : List (Work K)) (w : Work K)
    → map standing_of ws ≡ map (new_standing o) (range_with_len 0 n) → longer ≡ ws ++ w ∷ []
    → w.options ≡ o → w.shard ≡ n → w.cache ≡ new_cache o
    → map standing_of longer ≡ map (new_standing o) (range_with_len 0 (n + 1))
new_more {K} o n ws longer w made more options number cache =
    let stands : standing_of w ≡ new_standing o n = λ j. record { options = options j; shard = number j; cache = cache j } in
    ap (λ (xs : List (Work K)). map standing_of xs) more ∙ map_push standing_of ws w ∙ (λ j. made j ++ stands j ∷ [])
    ∙ sym (map-range_with_len_more (new_standing o) 0 n n (omega arith))

-- the same, of the shards at work
pub one_work : {K : Type 0} (keys : Keys K) (n : ℕ) (line : Line K) (shards : List (Standing K)) (ws : List (Work K)) (i : ℕ)
    (old new : Work K) (before out longer : List ℕ) → i < length shards → i < length ws
    → map standing_of ws ≡ map (next_standing keys n line) (take i shards) ++ drop i shards → old ≡ get_or ws i old
    → out ≡ before ++ flat_map (added_text keys n line) (take i shards)
    → new.options ≡ old.options → new.shard ≡ old.shard → new.cache ≡ (line_step keys old.options old.shard n line old.cache).cache
    → longer ≡ out ++ added_text keys n line (standing_of old)
    → (longer ≡ before ++ flat_map (added_text keys n line) (take (i + 1) shards))
    × (map standing_of (set ws i new) ≡ map (next_standing keys n line) (take (i + 1) shards) ++ drop (i + 1) shards)
one_work {K} keys n line shards ws i old new before out longer within here are at text options number cache more =
    let stands : standing_of new ≡ next_standing keys n line (standing_of old) =
    λ j. record { options = options j; shard = number j; cache = cache j } in
    let found : standing_of old ≡ get_or (map standing_of ws) i (standing_of old) =
    ap (λ (w : Work K). standing_of w) at ∙ sym (get_or-map standing_of ws i old (standing_of old) here) in
    let both = one_shard keys n line shards (map standing_of ws) i (standing_of old) before out longer within are found text more in
    (both.0, map-set standing_of ws i new ∙ ap (λ (s : Standing K). set (map standing_of ws) i s) stands ∙ both.1)

-- ---- the lines, one after another
module _ {K : Type 0} (keys : Keys K) (n : ℕ) (shards : List (Standing K)) (out whole : List ℕ) (end : List (Standing K)) where
  -- a good line more
  pub next_shown : (line : Line K) (trace more : Trace K) (later : List (Standing K)) (longer : List ℕ) → trace ≡ onto_trace (Ok line) more
      → longer ≡ out ++ line_by keys n line shards → later ≡ map (next_standing keys n line) shards
      → out ++ lines_by keys n trace.lines shards ≡ whole → standings_after keys n trace.lines shards ≡ end
      → (longer ++ lines_by keys (n + 1) more.lines later ≡ whole) × (standings_after keys (n + 1) more.lines later ≡ end)
  next_shown line trace more later longer first text stand whole_text whole_stand =
      let next : List (Standing K) = map (next_standing keys n line) shards in (
        (λ i. text i ++ lines_by keys (n + 1) more.lines (stand i))
            ∙ append_assoc out (line_by keys n line shards) (lines_by keys (n + 1) more.lines next)
            ∙ ap (λ (t : Trace K). out ++ lines_by keys n t.lines shards) (sym first) ∙ whole_text,
        ap (λ (ss : List (Standing K)). standings_after keys (n + 1) more.lines ss) stand
            ∙ ap (λ (t : Trace K). standings_after keys n t.lines shards) (sym first) ∙ whole_stand,
      )

  -- no line is left
  pub last_shown : (lines : List (Line K)) → lines ≡ [] → out ++ lines_by keys n lines shards ≡ whole
      → standings_after keys n lines shards ≡ end → (out ≡ whole) × (shards ≡ end)
  last_shown lines none text stand = (
    sym (append-nil out) ∙ ap (λ (ls : List (Line K)). out ++ lines_by keys n ls shards) (sym none) ∙ text,
    ap (λ (ls : List (Line K)). standings_after keys n ls shards) (sym none) ∙ stand,
  )

-- ---- the report by what each shard answers
shifted : (f g : ℕ → List ℕ) → ((i : ℕ) → f (suc i) ≡ g i) → (a m : ℕ)
    → flat_map f (range_with_len (a + 1) m) ≡ flat_map g (range_with_len a m)
shifted f g same a zero = refl
shifted f g same a (suc m) =
    let one : a + 1 ≡ suc a = omega arith in
    λ j. (ap f one ∙ same a) j ++ shifted f g same (a + 1) m j

module _ {K : Type 0} (keys : Keys K) where
  -- what a shard that stands so answers to the lines from line n on
  abbrev answers_by : ℕ → List (Line K) → Standing K → ShardAnswers
  answers_by n ls s = answers_from keys s.options s.shard n ls s.cache

  texts-first : (n : ℕ) (l : Line K) (ls : List (Line K)) (ss : List (Standing K))
      → flat_map (λ (a : ShardAnswers). get_or a.texts 0 []) (map (answers_by n (l ∷ ls)) ss) ≡ flat_map (added_text keys n l) ss
  texts-first n l ls [] = refl
  texts-first n l ls (s ∷ ss) = ap (λ xs. added_text keys n l s ++ xs) (texts-first n l ls ss)

  texts-later : (n : ℕ) (l : Line K) (ls : List (Line K)) (i : ℕ) (ss : List (Standing K))
      → flat_map (λ (a : ShardAnswers). get_or a.texts (suc i) []) (map (answers_by n (l ∷ ls)) ss)
      ≡ flat_map (λ (a : ShardAnswers). get_or a.texts i []) (map (answers_by (n + 1) ls) (map (next_standing keys n l) ss))
  texts-later n l ls i [] = refl
  texts-later n l ls i (s ∷ ss) =
      ap (λ xs. get_or (answers_by (n + 1) ls (next_standing keys n l s)).texts i [] ++ xs) (texts-later n l ls i ss)

  lines_text-lines_by : (n : ℕ) (ls : List (Line K)) (ss : List (Standing K))
      → lines_text n (map (answers_by n ls) ss) 0 (length ls) ≡ lines_by keys n ls ss
  unfolding line_text
  lines_text-lines_by n [] ss = refl
  lines_text-lines_by n (l ∷ ls) ss =
      let all : List ShardAnswers = map (answers_by n (l ∷ ls)) ss in
      let left : List ShardAnswers = map (answers_by (n + 1) ls) (map (next_standing keys n l) ss) in
      let zeroth : n + 0 ≡ n = omega arith in
      let first : line_text n all 0 ≡ line_by keys n l ss = λ j. decimal (zeroth j) ++ (texts-first n l ls ss j ++ codes "\n") in
      let later : (i : ℕ) → line_text n all (suc i) ≡ line_text (n + 1) left i =
      λ i. let at : n + suc i ≡ n + 1 + i = omega arith in (λ j. decimal (at j) ++ (texts-later n l ls i ss j ++ codes "\n")) in
      let rest = shifted (line_text n all) (line_text (n + 1) left) later 0 (length ls)
      ∙ lines_text-lines_by (n + 1) ls (map (next_standing keys n l) ss) in
      λ j. first j ++ rest j

  answers-new : (o : Options) (n : ℕ) (ls : List (Line K)) (shards : List ℕ)
      → map (answers_by n ls) (map (new_standing o) shards) ≡ map (answers keys o n ls) shards
  unfolding answers
  answers-new o n ls [] = refl
  answers-new o n ls (shard ∷ shards) = ap (λ (more : List ShardAnswers). answers keys o n ls shard ∷ more) (answers-new o n ls shards)

  -- the lines of new shards
  pub lines_by-new : (o : Options) (n : ℕ) (ls : List (Line K))
      → lines_by keys n ls (new_standings o) ≡ lines_text n (map (answers keys o n ls) (range_with_len 0 o.shards)) 0 (length ls)
  lines_by-new o n ls = sym (lines_text-lines_by n ls (new_standings o))
      ∙ ap (λ (all : List ShardAnswers). lines_text n all 0 (length ls)) (answers-new o n ls (range_with_len 0 o.shards))

  -- ---- and their numbers
  numbers-none : (n : ℕ) (ss : List (Standing K))
      → map (λ (a : ShardAnswers). a.stats) (map (answers_by n []) ss) ≡ map (λ (s : Standing K). stats_of s.cache.state) ss
  numbers-none n [] = refl
  numbers-none n (s ∷ ss) = ap (λ (ts : List Stats). stats_of s.cache.state ∷ ts) (numbers-none n ss)

  numbers-later : (n : ℕ) (l : Line K) (ls : List (Line K)) (ss : List (Standing K))
      → map (λ (a : ShardAnswers). a.stats) (map (answers_by n (l ∷ ls)) ss)
      ≡ map (λ (a : ShardAnswers). a.stats) (map (answers_by (n + 1) ls) (map (next_standing keys n l) ss))
  numbers-later n l ls [] = refl
  numbers-later n l ls (s ∷ ss) =
      ap (λ (ts : List Stats). (answers_by (n + 1) ls (next_standing keys n l s)).stats ∷ ts) (numbers-later n l ls ss)

  numbers-after : (n : ℕ) (ls : List (Line K)) (ss : List (Standing K))
      → map (λ (a : ShardAnswers). a.stats) (map (answers_by n ls) ss)
      ≡ map (λ (s : Standing K). stats_of s.cache.state) (standings_after keys n ls ss)
  numbers-after n [] ss = numbers-none n ss
  numbers-after n (l ∷ ls) ss = numbers-later n l ls ss ∙ numbers-after (n + 1) ls (map (next_standing keys n l) ss)

  numbers-standing : (ws : List (Work K))
      → map (λ (w : Work K). stats_of w.cache.state) ws ≡ map (λ (s : Standing K). stats_of s.cache.state) (map standing_of ws)
  numbers-standing [] = refl
  numbers-standing (w ∷ ws) = ap (λ (ts : List Stats). stats_of w.cache.state ∷ ts) (numbers-standing ws)

-- sums are those of the numbers
fold-map : {X Y : Type 0} (f : Y → ℕ) (g : X → Y) (k : ℕ) (xs : List X)
    → fold (λ a y. a + f y) k (map g xs) ≡ fold (λ a x. a + f (g x)) k xs
fold-map f g k [] = refl
fold-map f g k (x ∷ xs) = fold-map f g (k + f (g x)) xs

same_sum : {X Y : Type 0} (g : X → Stats) (h : Y → Stats) (number : Stats → ℕ) (xs : List X) (ys : List Y) → map g xs ≡ map h ys
    → sum_by (λ x. number (g x)) xs ≡ sum_by (λ y. number (h y)) ys
same_sum g h number xs ys is = sym (fold-map number g 0 xs) ∙ ap (λ (ts : List Stats). sum_by number ts) is ∙ fold-map number h 0 ys

AreSums-same : {X Y : Type 0} (g : X → Stats) (h : Y → Stats) (t : Stats) (xs : List X) (ys : List Y) → map g xs ≡ map h ys → AreSums g t xs
    → AreSums h t ys
AreSums-same g h t xs ys is are = record {
  lookups = are.lookups ∙ same_sum g h (λ s. s.lookups) xs ys is;
  hits = are.hits ∙ same_sum g h (λ s. s.hits) xs ys is;
  misses = are.misses ∙ same_sum g h (λ s. s.misses) xs ys is;
  loads = are.loads ∙ same_sum g h (λ s. s.loads) xs ys is;
  failed = are.failed ∙ same_sum g h (λ s. s.failed) xs ys is;
  evicted = are.evicted ∙ same_sum g h (λ s. s.evicted) xs ys is;
  entries = are.entries ∙ same_sum g h (λ s. s.entries) xs ys is;
  weight = are.weight ∙ same_sum g h (λ s. s.weight) xs ys is;
}

-- the summary of new shards that did the lines
pub summary_of-new : {K : Type 0} (keys : Keys K) (o : Options) (n : ℕ) (ls : List (Line K)) (ws : List (Work K)) (t : Stats)
    → map standing_of ws ≡ standings_after keys n ls (new_standings o) → AreSums (λ (w : Work K). stats_of w.cache.state) t ws
    → summary_of t ≡ summary (map (answers keys o n ls) (range_with_len 0 o.shards))
summary_of-new {K} keys o n ls ws t stand are =
    let all : List ShardAnswers = map (answers keys o n ls) (range_with_len 0 o.shards) in
    let numbers : map (λ (w : Work K). stats_of w.cache.state) ws ≡ map (λ (a : ShardAnswers). a.stats) all =
    numbers-standing keys ws ∙ ap (λ (ss : List (Standing K)). map (λ (s : Standing K). stats_of s.cache.state) ss) stand
    ∙ sym (numbers-after keys n ls (new_standings o))
    ∙ ap (λ (all : List ShardAnswers). map (λ (a : ShardAnswers). a.stats) all) (answers-new keys o n ls (range_with_len 0 o.shards)) in
    summary_of-totals t all (AreSums-same (λ (w : Work K). stats_of w.cache.state) (λ (a : ShardAnswers). a.stats) t ws all numbers are)

-- a verdict is good or not
pub not_ok : (v : Verdict) (t : Bool) → t ≡ true → t ≡ is_err v → is_ok v ≡ false
not_ok (Ok u) t is_true is = absurd (cc)
not_ok (Err fault) t is_true is = refl

pub not_err : (v : Verdict) (t : Bool) → t ≡ false → t ≡ is_err v → is_ok v ≡ true
not_err (Ok u) t is_false is = refl
not_err (Err fault) t is_false is = absurd (cc)

-- ---- what is printed of new shards that did the lines
module _ {K : Type 0} (keys : Keys K) (o : Options) (n : ℕ) (ls : List (Line K)) (out : List ℕ) where
  abbrev all_answers : List ShardAnswers
  all_answers = map (answers keys o n ls) (range_with_len 0 o.shards)

  -- with the summary
  pub printed-whole : (ws : List (Work K)) (t : Stats) (longer : List ℕ) → out ≡ lines_by keys n ls (new_standings o)
      → map standing_of ws ≡ standings_after keys n ls (new_standings o)
      → AreSums (λ (w : Work K). stats_of w.cache.state) t ws → longer ≡ out ++ summary_of t → longer ≡ printed n (length ls) true all_answers
  unfolding printed
  printed-whole ws t longer text stand are more =
      let lines : out ≡ lines_text n all_answers 0 (length ls) = text ∙ lines_by-new keys o n ls in
      let numbers : summary_of t ≡ summary all_answers = summary_of-new keys o n ls ws t stand are in
      more ∙ (λ i. lines i ++ numbers i)

  -- without it
  pub printed-cut : out ≡ lines_by keys n ls (new_standings o) → out ≡ printed n (length ls) false all_answers
  unfolding printed
  printed-cut text = text ∙ lines_by-new keys o n ls ∙ sym (append-nil (lines_text n all_answers 0 (length ls)))
