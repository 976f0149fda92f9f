use Rattle.std.proofs.Common.{arith, ℕ, List, ap, sym, subst, ◌∙◌, ◌≡◌, ◌==◌, ◌%◌, [], ◌∷◌, ◌++◌, map, Some, false, true}
use Rattle.std.proofs.lemmas.Bool.Decides.{nat_tests}
use Rattle.std.specs.List.{range_with_len}
use Rattle.std.proofs.lemmas.List.FromFn.{map-range_with_len_more}
use Rattle.wt_trace.specs.Answers.{answers, belongs}
use Rattle.wt_trace.specs.Keys.{keys_by}
use Rattle.wt_trace.specs.declared.trace.line.Line.{Line}
use Rattle.wt_trace.specs.Parts.{part_at}
use Rattle.wt_trace.specs.Stops.{AreAsked}
use Rattle.wt_trace.proofs.Places.{own_at, other_at, asked_more, not_own}
use Rattle.wt_trace.proofs.Stopped.{stopped_part}
use Rattle.wt_trace.proofs.report.on_threads.part_of.Goals as goal

pub loop-shard-preserved-then-shard-job : goal.loop-shard-preserved-then-shard-job
loop-shard-preserved-then-shard-job g c =
    let keys = keys_by g.K.PartialEq.eq g.K.CacheKey.word g.K.TraceKey.read g.K.TraceKey.shown in
    let o = c.args.job.now.options.now in
    let threads = c.args.job.now.threads in
    let passed : ℕ → Type 0 = λ m. g.G.Gate.answers c.args.job.now.gate.now m true in
    let made = answers keys o c.args.first c.args.read.now.lines in
    let asked : ℕ → Type 0 = λ s. AreAsked (belongs keys o s) passed c.args.first c.args.read.now.lines in
    let inv = c.loop-shard.invariant in
    let n = c.loop-shard.shard in
    let other : (n % threads == c.args.t) ≡ false = grind (arith, nat_tests, c.if-shard-job.true) in
    record {
      made = c.in_ok-push.ensures.items
          ∙ (λ i. inv.made i ++ sym (other_at made threads c.args.t n other) i ∷ [])
          ∙ sym (map-range_with_len_more (part_at made threads c.args.t) 0 n n (omega arith));
      asked = λ s below own. asked_more asked threads c.args.t n (λ e. absurd (not_own n threads c.args.t other e)) inv.asked s below own;
    }

pub loop-shard-preserved : goal.loop-shard-preserved
loop-shard-preserved g c =
    let keys = keys_by g.K.PartialEq.eq g.K.CacheKey.word g.K.TraceKey.read g.K.TraceKey.shown in
    let o = c.args.job.now.options.now in
    let threads = c.args.job.now.threads in
    let passed : ℕ → Type 0 = λ m. g.G.Gate.answers c.args.job.now.gate.now m true in
    let made = answers keys o c.args.first c.args.read.now.lines in
    let asked : ℕ → Type 0 = λ s. AreAsked (belongs keys o s) passed c.args.first c.args.read.now.lines in
    let inv = c.loop-shard.invariant in
    let n = c.loop-shard.shard in
    let done = c.in_ok-one.ensures.made in
    let own : (n % threads == c.args.t) ≡ true = grind (arith, nat_tests, c.if-shard-job.false) in
    let walked = ap (λ (ls : List (Line g.row.K.Denot)). answers keys o c.args.first ls n) c.walk.ensures in
    let one = ap Some (done.answers ∙ walked) ∙ sym (own_at made threads c.args.t n own) in
    let through : asked n = subst (λ (ls : List (Line g.row.K.Denot)). AreAsked (belongs keys o n) passed c.args.first ls) c.walk.ensures
    done.asked in
    record {
      made = c.in_ok-push-2.ensures.items
          ∙ (λ i. inv.made i ++ one i ∷ [])
          ∙ sym (map-range_with_len_more (part_at made threads c.args.t) 0 n n (omega arith));
      asked = λ s below own. asked_more asked threads c.args.t n (λ e. through) inv.asked s below own;
    }

pub returns-in_err-one : goal.returns-in_err-one
returns-in_err-one g c =
    let keys = keys_by g.K.PartialEq.eq g.K.CacheKey.word g.K.TraceKey.read g.K.TraceKey.shown in
    let job = c.args.job.now in
    let stop = c.from_residual-in_err-one in
    stopped_part keys job.options.now (g.G.Gate.answers job.gate.now) c.args.first c.args.read.now.lines job.threads c.args.t
    stop.result c.in_err-one.field-0.0 stop.ensures.1 c.in_err-one.ensures.made.err

pub returns : goal.returns
returns g c =
    let keys = keys_by g.K.PartialEq.eq g.K.CacheKey.word g.K.TraceKey.read g.K.TraceKey.shown in
    let o = c.args.job.now.options.now in
    let made = answers keys o c.args.first c.args.read.now.lines in
    let end = c.shards-shard-end.ensures.value in
    let count : c.loop-shard.shard ≡ o.shards = omega (arith, c.loop-shard.auto.shard-end, c.loop-shard-test.false, end) in
    record {
      answers = c.loop-shard.invariant.made ∙ ap (λ n. map (part_at made c.args.job.now.threads c.args.t) (range_with_len 0 n)) count;
      err = tt;
      asked = λ s below own. c.loop-shard.invariant.asked s (omega (arith, below, count)) own;
    }
