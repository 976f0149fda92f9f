use Rattle.wt_shards.specs.Place.{home_at, home_of}
use Rattle.examples.proofs.Handed.{handed-over}
use Rattle.examples.proofs.shards.handing.hand_over.Goals as goal

pub returns : goal.returns
returns g c =
    let home = home_of g.K.CacheKey.word c.args.key c.args.shards.now in
    let place = home_at g.K.CacheKey.word c.args.key c.args.shards.now in
    handed-over g.K.PartialEq.eq g.K.CacheKey.word g.V.Weighs.measure g.V.Answers.answers place
    (c.own_put_is_read.ensures place.config) c.args.key c.args.value c.args.now c.args.now
    _ _ _ _ _ _ _ _ _ _ _ _
    c.in_ok-stored.ensures.made.step (c.meet.ensures.that home) c.in_ok-found.ensures.made.step
