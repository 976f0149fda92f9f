use Rattle.std.proofs.Common.{◌≡◌, ◌+◌, ◌<◌, ◌≤◌, OnOk, List, length, take, sym, ap, ◌∙◌, subst, arith}
use Rattle.std.proofs.Math.ListN.{drop_of_length-le}
use Rattle.std.proofs.lemmas.List.{take_all}
use Rattle.std.proofs.lemmas.List.Sums.{fold_more}
use Rattle.wt_adviser.specs.declared.adviser.Seen.{Seen}
use Rattle.wt_adviser.specs.Advice.{Advice, all_seen, saw, saw_by, shown}
use Rattle.wt_adviser.proofs.Shown.{Leads, leads-all, leads-next, on-mapped}
use Rattle.wt_adviser.proofs.adviser.Adviser.saw_all.Goals as goal
use Rattle.wt_adviser.proofs.adviser.Adviser.saw_all.Goals.{then-not-is_whole, else-not-is_whole}

pub loop-key-preserved : goal.loop-key-preserved
loop-key-preserved g c =
    let K = g.row.K.Denot in
    let eq = g.K.PartialEq.eq in
    let word = g.K.CacheKey.word in
    let keys = c.args.keys.now in
    let i = c.loop-key.key-index in
    let k = c.key-item.result in
    let first : Advice K = c.args.self.now in
    let before : Advice K = c.loop-key.self in
    let seen : Seen = c.saw_by-seen.result in
    let after : Advice K → K → Advice K = λ a x. saw eq word x a in
    let inside : i < length keys = omega (arith, c.loop-key-test.true) in
    let more : seen ≡ all_seen → before ≡ shown eq word (take i keys) first
    → c.saw_by-seen.new.self ≡ shown eq word (take (i + 1) keys) first =
    λ whole is. c.saw_by-seen.ensures
    ∙ ap (λ (s : Seen). saw_by eq word s k before) whole
    ∙ ap (λ (a : Advice K). after a k) is
    ∙ ap (after (shown eq word (take i keys) first)) c.key-item.is
    ∙ sym (fold_more after first keys i k inside) in
    record {
      saw = elim c.if-not-is_whole.branch [
        | then-not-is_whole w ↦ subst (λ o. OnOk o (c.saw_by-seen.new.self ≡ shown eq word (take (i + 1) keys) first)) (sym w.outcome-is) tt
        | else-not-is_whole w ↦ subst (λ o. OnOk o (c.saw_by-seen.new.self ≡ shown eq word (take (i + 1) keys) first)) (sym w.outcome-is)
            (on-mapped {A = before ≡ shown eq word (take i keys) first} {B = c.saw_by-seen.new.self ≡ shown eq word (take (i + 1) keys) first} (more (c.is_whole.ensures w.if-not-is_whole.false)) c.loop-key.outcome c.loop-key.invariant.saw)
      ];
      leads = subst (Leads eq word keys (i + 1) first) (sym c.saw_by-seen.ensures)
          (leads-next eq word keys i k seen first before inside (sym c.key-item.is) c.loop-key.invariant.leads);
    }

pub returns-clause-state : goal.returns-clause-state
returns-clause-state g c =
    let K = g.row.K.Denot in
    let eq = g.K.PartialEq.eq in
    let word = g.K.CacheKey.word in
    let keys = c.args.keys.now in
    let i = c.loop-key.key-index in
    let first : Advice K = c.args.self.now in
    let last : Advice K = c.loop-key.self in
    let whole : take i keys ≡ keys = take_all i keys (omega (arith, c.loop-key-test.false)) in
    let all : last ≡ shown eq word (take i keys) first → last ≡ shown eq word keys first =
    λ is. is ∙ ap (λ (ks : List K). shown eq word ks first) whole in
    on-mapped {A = last ≡ shown eq word (take i keys) first} {B = last ≡ shown eq word keys first} all c.loop-key.outcome c.loop-key.invariant.saw

pub returns-clause-part : goal.returns-clause-part
returns-clause-part g c =
    let keys = c.args.keys.now in
    let past : length keys ≤ c.loop-key.key-index = omega (arith, c.loop-key-test.false) in
    leads-all g.K.PartialEq.eq g.K.CacheKey.word keys c.loop-key.key-index c.args.self.now c.loop-key.self (drop_of_length-le keys past)
    c.loop-key.invariant.leads
