use Rattle.std.proofs.Common.{rules, ◌≡◌, true, false, is_some}
use Rattle.std.specs.Map.{lookup}
use Rattle.wt_regions.proofs.Weights.{others_with, others_without}
use Rattle.wt_regions.proofs.trim.holds_other.Goals as goal
use Rattle.wt_regions.proofs.trim.holds_other.Goals.{then-contains, else-contains}

pub returns : goal.returns
returns g c =
    let laws = (g.met.K.Eq g.world.𝓛 g.world.𝓜 g.world.𝓡 ((λ s x. x), (λ x. x), (λ x. x), λ x. x)).laws in
    elim c.if-contains.branch [
      | then-contains w ↦
          let there : is_some (lookup (g.K.PartialEq.eq c.args.key) c.args.cache.now.entries) ≡ true = search rules in
          rw (w.own-is, c.len.ensures.len)
          (others_with g.K.PartialEq.eq laws c.args.key c.args.cache.now.entries c.len.ensures.valid.0 there)
      | else-contains w ↦
          let there : is_some (lookup (g.K.PartialEq.eq c.args.key) c.args.cache.now.entries) ≡ false = search rules in
          rw (w.own-is, c.len.ensures.len) (others_without g.K.PartialEq.eq c.args.key c.args.cache.now.entries there)
    ]
