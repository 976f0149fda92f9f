use Rattle.std.proofs.Common.{refl}
use Rattle.wt_core.specs.declared.calls.Call.TheVariants.{Look}
use Rattle.wt_shards.specs.Place.{home_at}
use Rattle.examples.proofs.shards.reading.read.Goals as goal

pub returns : goal.returns
returns g c =
    c.reads_are_young.ensures (home_at g.K.CacheKey.word c.args.key c.args.shards.now) c.args.key c.args.now
    (Look c.args.key c.args.now) _ _ _ _ _ _
    c.in_ok-found.ensures.made.step (refl, refl)
