use Rattle.std.proofs.Common.{◌≡◌, ℕ, ◌+◌, ◌<◌, List, length, take, get_or, sym, ap, ◌∙◌, arith, rules}
use Rattle.std.proofs.lemmas.Grind.{common_steps}
use Rattle.std.proofs.lemmas.List.Sums.{fold_more}
use Rattle.wt_keys.specs.Hash.{places, bits_for}
use Rattle.wt_sketch.specs.Sketch.{Counters, counted, counted_word, counted_words}
use Rattle.wt_sketch.proofs.Over.{never_less_at}
use Rattle.wt_sketch.proofs.sketch.Sketch.count_all.Invariants.{IsCounting}
use Rattle.wt_sketch.proofs.sketch.Sketch.count_all.Goals as goal

one_more : (old new next : Counters) (words ps : List ℕ) (bits i : ℕ) → i < length words
    → IsCounting old new (take i words) bits → ps ≡ places (get_or words i 0) bits → next ≡ counted ps new
    → next.entries ≡ new.entries → IsCounting old next (take (i + 1) words) bits
unfolding counted_word
one_more old new next words ps bits i inside was at_word counts same = record {
  counted = counts ∙ ap (λ qs. counted qs new)
      (at_word ∙ ap (λ b. places (get_or words i 0) b) (was.wide ∙ ap (λ n. bits_for n) (sym was.same)))
      ∙ ap (λ s. counted_word s (get_or words i 0)) was.counted ∙ sym (fold_more counted_word old words i 0 inside);
  same = same ∙ was.same;
  wide = was.wide;
}

pub loop-word-preserved : goal.loop-word-preserved
loop-word-preserved c = one_more _ _ _ _ _ _ _
    (omega arith) c.loop-word.invariant c.places-places.ensures.places c.count.ensures.counted c.count.ensures.same

pub returns-clause-never_less : goal.returns-clause-never_less
returns-clause-never_less c =
    let all : c.loop-word.self ≡ counted_words c.args.self.now c.args.words.now = search (rules, common_steps) in
    λ is key. never_less_at c.args.self.now.entries key c.args.words.now c.args.self.now c.loop-word.self is all
