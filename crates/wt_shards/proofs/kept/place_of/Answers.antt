use Rattle.std.proofs.Common.{arith, rules, ltb, ◌<◌, ◌≤◌, length, get_or, sym, subst}
use Rattle.std.proofs.lemmas.Bool.{ltb-true, ltb-false}
use Rattle.std.proofs.lemmas.List.Sorted.{IsPartitionPoint-from_clause, IsPartitionedBy-ltb}
use Rattle.wt_flights.specs.Outcomes.{Leading}
use Rattle.wt_shards.specs.Audited.{AreRising}
use Rattle.wt_shards.proofs.Finds.{rising-weakly}
use Rattle.wt_shards.proofs.kept.place_of.Goals as goal

pub returns-clause-below : goal.returns-clause-below
returns-clause-below g c =
    let parted = IsPartitionedBy-ltb (λ (l : Leading g.row.K.Denot). l.id) c.as_slice.result.now c.args.id
    (rising-weakly c.as_slice.result.now (subst AreRising (sym c.as_slice.ensures.value) c.requires.rising))
    in
    let point = IsPartitionPoint-from_clause
    (λ (l : Leading g.row.K.Denot). ltb l.id c.args.id) c.as_slice.result.now _
    c.partition_point.ensures.partitioned parted (λ a r q k. search rules) in
    λ i d h. subst (λ ls. (get_or ls i d).id < c.args.id) c.as_slice.ensures.value (ltb-true _ _ (point.0 i d (omega arith) h))

pub returns-clause-above : goal.returns-clause-above
returns-clause-above g c =
    let parted = IsPartitionedBy-ltb (λ (l : Leading g.row.K.Denot). l.id) c.as_slice.result.now c.args.id
    (rising-weakly c.as_slice.result.now (subst AreRising (sym c.as_slice.ensures.value) c.requires.rising))
    in
    let point = IsPartitionPoint-from_clause
    (λ (l : Leading g.row.K.Denot). ltb l.id c.args.id) c.as_slice.result.now _
    c.partition_point.ensures.partitioned parted (λ a r q k. search rules) in
    λ i d h k. subst (λ ls. c.args.id ≤ (get_or ls i d).id) c.as_slice.ensures.value
    (ltb-false _ _ (point.1 i d h (subst (λ ls. i < length ls) (sym c.as_slice.ensures.value) k)))
