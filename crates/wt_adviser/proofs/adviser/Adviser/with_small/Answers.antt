use Rattle.std.proofs.Common.{◌≡◌, ◌*◌, ◌≤◌, ◌<◌, arith}
use Rattle.std.proofs.lemmas.Nat.{le-div}
use Rattle.wt_adviser.proofs.adviser.Adviser.with_small.Goals as goal

pub nonzero_div-result-2 : goal.nonzero_div-result-2
nonzero_div-result-2 g c =
    let some : 0 < c.args.small = rw c.requires.made_for (omega arith) in
    let fits : 1 * c.args.small ≤ c.args.entries = rw c.requires.made_for (omega (arith, c.requires.within)) in
    le-div 1 c.args.entries c.args.small some fits
