use Rattle.std.proofs.Common.{◌≡◌, Option, ap, sym, subst, ◌∙◌, arith}
use Rattle.std.specs.Prelude.{◌≢◌}
use Rattle.std.proofs.lemmas.Bool.Decides.{nat_tests}
use Rattle.wt_shards.specs.Endings.{Ending, FallsShort}
use Rattle.wt_shards.specs.Passes.{ShardPass, counts_of, front_of}
use Rattle.wt_shards.specs.declared.total.Total.{Total}
use Rattle.wt_shards.proofs.Endings.{short_none}
use Rattle.wt_shards.proofs.ends.is_all.Goals as goal

pub returns-then-total-ne0-clause-short : goal.returns-then-total-ne0-clause-short
returns-then-total-ne0-clause-short g c _ =
    let K = g.row.K.Denot in
    let V = g.row.V.Denot in
    let e : Ending K V = c.args.ended.now in
    let same : c.total-total.result.steps ≡ e.total.steps =
    ap (λ (t : Total). t.steps) (c.total-total.ensures ∙ ap (λ (x : Ending K V). x.total) c.ended.view_is) in
    let made : 0 ≢ e.total.steps = λ none. (let some = c.if-total-ne0.true in grind (arith, nat_tests, some, same, none)) in
    subst (λ (m : Option (ShardPass K V)). FallsShort e (counts_of m) (front_of m)) (sym c.in_default.is) (short_none e made)
