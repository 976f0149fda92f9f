use Rattle.std.proofs.Common.{◌≡◌, Option, None, ap, sym, subst, ◌∙◌}
use Rattle.std.specs.Option.{option_copied_mut}
use Rattle.wt_shards.specs.Endings.{IsAddedTo}
use Rattle.wt_shards.specs.Passes.{ShardPass, counts_of, front_of}
use Rattle.wt_shards.proofs.Endings.{added_first, added_same}
use Rattle.wt_shards.proofs.sums.absorb_at.Goals as goal

pub returns-in_default : goal.returns-in_default
returns-in_default g c =
    let M = ShardPass g.row.K.Denot g.row.V.Denot in
    let sum : Option M = c.args.sum.now in
    record {
      added = subst (λ (m : Option M). IsAddedTo (counts_of sum) (counts_of m) (counts_of sum) (front_of sum) (front_of m) (front_of sum))
          (sym c.in_default.is) (added_same (counts_of sum) (front_of sum));
    }

pub returns-in-None : goal.returns-in-None
returns-in-None g c =
    let M = ShardPass g.row.K.Denot g.row.V.Denot in
    let w : M = c.in-Some.more in
    let sum : Option M = c.args.sum.now in
    let none : sum ≡ None = sym c.as_mut.ensures.value ∙ ap option_copied_mut c.in-None.is in
    record {
      added = subst (λ (m : Option M). IsAddedTo (counts_of sum) (counts_of m) w.counts (front_of sum) (front_of m) w.front) (sym c.in-Some.is)
          (subst (λ (s : Option M). IsAddedTo (counts_of s) w.counts w.counts (front_of s) w.front w.front) (sym none)
          (added_first w.counts w.front));
    }
