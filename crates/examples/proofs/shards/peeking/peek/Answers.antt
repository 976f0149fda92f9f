use Rattle.wt_shards.specs.Place.{home_at}
use Rattle.examples.proofs.shards.peeking.peek.Goals as goal

pub returns : goal.returns
returns g c =
    c.found_values_are_young.ensures (home_at g.K.CacheKey.word c.args.key c.args.shards.now) c.args.key c.args.now _ _ _
    c.in_ok-found.ensures.made.made
