use Rattle.std.proofs.Common.{rules, ◌<◌, ℕ, IsNone, IsOk, get_or, refl, sym, subst}
use Rattle.wt_turns.specs.Turns.{AreDone, unmade}
use Rattle.wt_turns.proofs.Dealt.{done_asked}
use Rattle.wt_trace.specs.Keys.{keys_by}
use Rattle.wt_turns.proofs.Faulty.{not_there}
use Rattle.wt_turns.proofs.by_turn.passes_of.Goals as goal

pub returns-in-Ok-clause-asked : goal.returns-in-Ok-clause-asked
returns-in-Ok-clause-asked g c =
    let keys = keys_by g.K.PartialEq.eq g.K.CacheKey.word g.K.TraceKey.read g.K.TraceKey.shown in
    let options = c.args.deal.now.aids.now.loader.options in
    let answers = g.G.Gate.answers c.args.gate.now in
    let deal = c.args.deal.now in
    let done : AreDone keys options c.args.cache.now answers deal.first deal.lines.now deal.threads c.in-Ok-Ok.ran.items = search rules in
    let none : IsNone c.stop_of.result = subst IsNone (sym (not_there c.stop_of.result c.in_default-stop_of.not-Some)) refl in
    let ok : (t : ℕ) → t < deal.threads
    → IsOk (get_or c.in-Ok-Ok.ran.items t unmade) =
    λ t within. c.stop_of.ensures.none none t (search rules) in
    done_asked keys options c.args.cache.now answers deal.first deal.lines.now deal.threads
    c.in-Ok-Ok.ran.items deal.ready.some_line deal.ready.some done ok
