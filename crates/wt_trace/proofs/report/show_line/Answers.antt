use Rattle.std.proofs.Common.{rules, ◌≡◌, ◌<◌, ◌++◌, List, map, length, get_or, ap, arith}
use Rattle.std.proofs.lemmas.List.{length-map}
use Rattle.wt_trace.specs.Answers.{Work, line_step}
use Rattle.wt_trace.specs.Keys.{keys_by}
use Rattle.wt_trace.specs.Standing.{Standing, standing_of, added_text}
use Rattle.wt_trace.proofs.Standings.{one_work}
use Rattle.wt_trace.proofs.report.show_line.Goals as goal

pub loop-shard-preserved : goal.loop-shard-preserved
loop-shard-preserved g c =
    let keys = keys_by g.K.PartialEq.eq g.K.CacheKey.word g.K.TraceKey.read g.K.TraceKey.shown in
    let inv = c.loop-shard.invariant in
    let done = c.in_ok-do_line.ensures.made in
    let first : List (Standing g.row.K.Denot) = map standing_of c.args.shards.now in
    let ws = c.loop-shard.shards in
    let here : c.loop-shard.shard-index < length ws = search rules in
    let within : c.loop-shard.shard-index < length first =
    omega (arith, length-map c.args.shards.now standing_of, c.loop-shard.auto.shards, here) in
    let old = get_or ws c.loop-shard.shard-index c.shard-item.result in
    let options : c.do_line.new.self.options ≡ old.options = done.same.0 in
    let number : c.do_line.new.self.shard ≡ old.shard = done.same.1 in
    let cache : c.do_line.new.self.cache ≡ (line_step keys old.options old.shard c.args.n c.args.line.now old.cache).cache = done.cache in
    let text : c.do_line.new.out.items ≡ c.loop-shard.out.items ++ added_text keys c.args.n c.args.line.now (standing_of old) = done.text in
    let both = one_work keys c.args.n c.args.line.now first ws c.loop-shard.shard-index old c.do_line.new.self _
    c.loop-shard.out.items c.do_line.new.out.items
    within here inv.standings (ap (λ (w : Work g.row.K.Denot). get_or ws c.loop-shard.shard-index w)
    c.shard-item.is) inv.text options number cache text in
    record { text = both.0; standings = both.1 }
