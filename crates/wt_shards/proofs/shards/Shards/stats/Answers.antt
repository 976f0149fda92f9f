use Rattle.std.proofs.Common.{◌*◌, sym, subst}
use Rattle.wt_core.specs.declared.stats.Stats.{Stats}
use Rattle.wt_shards.specs.Numbers.{AreWithin}
use Rattle.wt_shards.specs.Place.{Layout, Place}
use Rattle.wt_shards.proofs.AllNumbers.{all-within, none-beyond, sums-of_four}
use Rattle.wt_shards.proofs.shards.Shards.stats.Goals as goal

pub returns-clause-within : goal.returns-clause-within
returns-clause-within g c =
    let s = c.self.inside in
    let sum = sums-of_four _ _ _ _ _ _ _ c.plus.ensures c.plus-2.ensures c.plus-3.ensures in
    let all = all-within s.shards s.config.entries s.config.bound c.stats_at-zero.result c.stats_at-one.result c.stats_at-two.result
    c.stats_at-three.result c.self.invariant.0
    (subst (λ (p : Place). AreWithin p.config.entries p.config.bound c.stats_at-zero.result) c.self.invariant.1 c.stats_at-zero.ensures.within)
    (λ less. subst (λ (p : Place). AreWithin p.config.entries p.config.bound c.stats_at-one.result) (c.self.invariant.2 less) c.stats_at-one.ensures.within)
    (λ less. subst (λ (p : Place). AreWithin p.config.entries p.config.bound c.stats_at-two.result) (c.self.invariant.3 less) c.stats_at-two.ensures.within)
    (λ less. subst (λ (p : Place). AreWithin p.config.entries p.config.bound c.stats_at-three.result) (c.self.invariant.4 less) c.stats_at-three.ensures.within)
    (λ few. c.stats_at-one.ensures.none (none-beyond _ 1 s.shards c.self.invariant.6 few))
    (λ few. c.stats_at-two.ensures.none (none-beyond _ 2 s.shards c.self.invariant.7 few))
    (λ few. c.stats_at-three.ensures.none (none-beyond _ 3 s.shards c.self.invariant.8 few)) in
    subst (λ (l : Layout). AreWithin (l.shards * l.config.entries) (l.shards * l.config.bound) c.plus-3.result) c.self.view_is
    (subst (AreWithin (s.shards * s.config.entries) (s.shards * s.config.bound)) (sym sum) all)
