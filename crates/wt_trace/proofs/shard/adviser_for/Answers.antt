use Rattle.std.proofs.Common.{◌≡◌, ◌<◌, Bool, true, Some, None, Option, sym, ap, ◌∙◌, arith}
use Rattle.std.specs.Prelude.{nat_lt, if◌then◌else◌}
use Rattle.std.proofs.lemmas.Bool.{lt-ltb}
use Rattle.std.proofs.lemmas.Bool.Decides.{nat_tests}
use Rattle.wt_adviser.specs.Advice.{Advice, opening}
use Rattle.wt_trace.proofs.shard.adviser_for.Goals as goal

pub returns-in-Ok : goal.returns-in-Ok
returns-in-Ok g c =
    let K = g.row.K.Denot in
    let o = c.args.options.now in
    let some : 0 < o.adaptive = grind (arith, nat_tests, c.if-options-eq0.false) in
    let is : nat_lt 0 o.adaptive ≡ true = lt-ltb 0 o.adaptive some in
    let made : Option (Advice K) = Some (opening o.entries) in
    ap (λ (a : Advice K). Some a) c.in-Ok.ensures.ok
    ∙ sym (ap (λ (b : Bool). if b then made else None) is)
