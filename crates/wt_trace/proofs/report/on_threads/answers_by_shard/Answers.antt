use Rattle.std.proofs.Common.{rules, arith, ap, sym, subst, ◌∙◌, ◌≡◌, ◌<◌, ◌%◌, [], ◌∷◌, ◌++◌, ◌+◌, ℕ, List, Option, Result, map, length, get_or, Some, Ok, IfOk, OnOk, IfErr, false, true, refl}
use Rattle.std.specs.List.{range_with_len}
use Rattle.std.proofs.lemmas.List.FromFn.{map-range_with_len_more}
use Rattle.wt_trace.specs.Answers.{ShardAnswers, answers, belongs}
use Rattle.wt_trace.specs.declared.fault.ReplayFault.{ReplayFault}
use Rattle.wt_trace.specs.Keys.{keys_by}
use Rattle.wt_trace.specs.Stops.{IsStop, AreAsked}
use Rattle.wt_trace.proofs.Places.{AreLeft, room_at, found_at, left-next, left-first, below_threads, same_some, asked_at, asked_more, mod_one}
use Rattle.wt_trace.proofs.Stopped.{stopped_all}
use Rattle.wt_trace.proofs.report.on_threads.answers_by_shard.Goals as goal

pub loop-shard-init : goal.loop-shard-init
loop-shard-init g c =
    let keys = keys_by g.K.PartialEq.eq g.K.CacheKey.word g.K.TraceKey.read g.K.TraceKey.shown in
    let o = c.args.job.now.options.now in
    let threads = c.args.job.now.threads in
    let gate = g.G.Gate.answers c.args.job.now.gate.now in
    let stops : ℕ → Type 0 = λ m. gate m false in
    let lines = c.args.read.now.lines in
    let made = answers keys o c.args.first lines in
    let asked : ℕ → Type 0 = λ s. AreAsked (belongs keys o s) (λ m. gate m true) c.args.first lines in
    let parts = c.in_ok-parts.parts.items in
    let len : length parts ≡ threads = search rules in
    record {
      all = c.new-all.ensures.items;
      left = left-first made stops asked o.shards threads parts c.requires.threads len c.in_ok-parts.ensures.each;
      asked = λ s below. absurd (omega (arith, below));
    }

pub take_answers-requires-clause-place : goal.take_answers-requires-clause-place
take_answers-requires-clause-place g c =
    let keys = keys_by g.K.PartialEq.eq g.K.CacheKey.word g.K.TraceKey.read g.K.TraceKey.shown in
    let o = c.args.job.now.options.now in
    let threads = c.args.job.now.threads in
    let gate = g.G.Gate.answers c.args.job.now.gate.now in
    let stops : ℕ → Type 0 = λ m. gate m false in
    let lines = c.args.read.now.lines in
    let made = answers keys o c.args.first lines in
    let asked : ℕ → Type 0 = λ s. AreAsked (belongs keys o s) (λ m. gate m true) c.args.first lines in
    let inv = c.loop-shard.invariant in
    let n = c.loop-shard.shard in
    let end = c.shards-shard-end.ensures.value in
    let below : n < o.shards = omega (arith, c.loop-shard.auto.shard-end, c.loop-shard-test.true, end) in
    let part = get_or c.loop-shard.parts.items (n % threads) (Ok []) in
    let placed = inv.left.at n (omega arith) below in
    room_at made stops asked o.shards n part below placed

pub returns-in_err-one : goal.returns-in_err-one
returns-in_err-one g c =
    let keys = keys_by g.K.PartialEq.eq g.K.CacheKey.word g.K.TraceKey.read g.K.TraceKey.shown in
    let o = c.args.job.now.options.now in
    let threads = c.args.job.now.threads in
    let gate = g.G.Gate.answers c.args.job.now.gate.now in
    let stops : ℕ → Type 0 = λ m. gate m false in
    let lines = c.args.read.now.lines in
    let made = answers keys o c.args.first lines in
    let asked : ℕ → Type 0 = λ s. AreAsked (belongs keys o s) (λ m. gate m true) c.args.first lines in
    let inv = c.loop-shard.invariant in
    let n = c.loop-shard.shard in
    let end = c.shards-shard-end.ensures.value in
    let below : n < o.shards = omega (arith, c.loop-shard.auto.shard-end, c.loop-shard-test.true, end) in
    let part = get_or c.loop-shard.parts.items (n % threads) (Ok []) in
    let placed = inv.left.at n (omega arith) below in
    let taken = sym c.in_err-one.ensures.taken in
    let found = (found_at made stops asked o.shards n part placed).1 in
    let stop = subst (λ (r : Result (Option ShardAnswers) ReplayFault). IfErr r (IsStop stops)) taken found in
    let passed_on = c.from_residual-in_err-one in
    stopped_all keys o gate c.args.first lines passed_on.result c.in_err-one.field-0.0 passed_on.ensures.1 stop

pub loop-shard-preserved-in_default : goal.loop-shard-preserved-in_default
loop-shard-preserved-in_default g c =
    let keys = keys_by g.K.PartialEq.eq g.K.CacheKey.word g.K.TraceKey.read g.K.TraceKey.shown in
    let o = c.args.job.now.options.now in
    let threads = c.args.job.now.threads in
    let gate = g.G.Gate.answers c.args.job.now.gate.now in
    let stops : ℕ → Type 0 = λ m. gate m false in
    let lines = c.args.read.now.lines in
    let made = answers keys o c.args.first lines in
    let asked : ℕ → Type 0 = λ s. AreAsked (belongs keys o s) (λ m. gate m true) c.args.first lines in
    let inv = c.loop-shard.invariant in
    let n = c.loop-shard.shard in
    let end = c.shards-shard-end.ensures.value in
    let below : n < o.shards = omega (arith, c.loop-shard.auto.shard-end, c.loop-shard-test.true, end) in
    let part = get_or c.loop-shard.parts.items (n % threads) (Ok []) in
    let placed = inv.left.at n (omega arith) below in
    let found = (found_at made stops asked o.shards n part placed).0 in
    let is : Result (Option ShardAnswers) ReplayFault → Type 0 = λ r. IfOk r (λ a. a ≡ Some (made n)) in
    let one : c.in_ok-one.field-0 ≡ Some (made n) = subst is (sym c.in_ok-one.ensures.taken) found in
    absurd (c.in_default.not-Some (made n) one)

pub loop-shard-preserved : goal.loop-shard-preserved
loop-shard-preserved g c =
    let keys = keys_by g.K.PartialEq.eq g.K.CacheKey.word g.K.TraceKey.read g.K.TraceKey.shown in
    let o = c.args.job.now.options.now in
    let threads = c.args.job.now.threads in
    let gate = g.G.Gate.answers c.args.job.now.gate.now in
    let stops : ℕ → Type 0 = λ m. gate m false in
    let lines = c.args.read.now.lines in
    let made = answers keys o c.args.first lines in
    let asked : ℕ → Type 0 = λ s. AreAsked (belongs keys o s) (λ m. gate m true) c.args.first lines in
    let inv = c.loop-shard.invariant in
    let n = c.loop-shard.shard in
    let end = c.shards-shard-end.ensures.value in
    let below : n < o.shards = omega (arith, c.loop-shard.auto.shard-end, c.loop-shard-test.true, end) in
    let part = get_or c.loop-shard.parts.items (n % threads) (Ok []) in
    let placed = inv.left.at n (omega arith) below in
    let found = (found_at made stops asked o.shards n part placed).0 in
    let is : Result (Option ShardAnswers) ReplayFault → Type 0 = λ r. IfOk r (λ a. a ≡ Some (made n)) in
    let one : c.in_ok-one.field-0 ≡ Some (made n) = subst is (sym c.in_ok-one.ensures.taken) found in
    let through = asked_at made stops asked o.shards n part placed in
    let now : asked n = subst (λ (r : Result (Option ShardAnswers) ReplayFault). OnOk r (asked n)) (sym c.in_ok-one.ensures.taken) through
    in
    let same : c.in-Some.one ≡ made n = same_some (sym c.in-Some.is ∙ one) in
    let some = c.requires.threads in
    let own = n % threads in
    let next = left-next made stops asked o.shards threads n own c.loop-shard.parts.items some refl (below_threads n threads some) inv.left
    in
    let still : List (Result (List (Option ShardAnswers)) ReplayFault)
    → Type 0 = λ ps. AreLeft made stops asked o.shards threads (n + 1) ps in
    record {
      all = c.in_ok-push.ensures.items ∙ (λ i. inv.all i ++ same i ∷ []) ∙ sym (map-range_with_len_more made 0 n n (omega arith));
      left = subst still (sym c.in_ok-one.ensures.left) next;
      asked = λ s before. asked_more asked 1 0 n (λ e. now) (λ u earlier e. inv.asked u earlier) s before (mod_one s);
    }

pub returns : goal.returns
returns g c =
    let keys = keys_by g.K.PartialEq.eq g.K.CacheKey.word g.K.TraceKey.read g.K.TraceKey.shown in
    let o = c.args.job.now.options.now in
    let made = answers keys o c.args.first c.args.read.now.lines in
    let end = c.shards-shard-end.ensures.value in
    let count : c.loop-shard.shard ≡ o.shards = omega (arith, c.loop-shard.auto.shard-end, c.loop-shard-test.false, end) in
    record {
      answers = c.loop-shard.invariant.all ∙ ap (λ n. map made (range_with_len 0 n)) count;
      asked = λ s below. c.loop-shard.invariant.asked s (omega (arith, below, count));
      err = tt;
    }
