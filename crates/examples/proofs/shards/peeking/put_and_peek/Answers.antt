use Rattle.wt_shards.specs.Place.{home_at, home_of}
use Rattle.examples.proofs.shards.peeking.put_and_peek.Goals as goal

pub returns : goal.returns
returns g c =
    let home = home_of g.K.CacheKey.word c.args.key c.args.shards.now in
    c.own_put_is_found.ensures (home_at g.K.CacheKey.word c.args.key c.args.shards.now) c.args.key c.args.value c.args.now c.args.now
    _ _ _ _ _ _ _ _ _
    c.in_ok-stored.ensures.made.step (c.meet.ensures.that home) c.in_ok-found.ensures.made.made
