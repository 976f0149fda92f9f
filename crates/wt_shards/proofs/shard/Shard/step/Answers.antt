use Rattle.wt_shards.proofs.Loads.{closed-still_open}
use Rattle.wt_shards.proofs.shard.Shard.step.Goals as goal

pub make-requires-clause-landed : goal.make-requires-clause-landed
make-requires-clause-landed g c κs within =
    λ allowed before. closed-still_open g.K.PartialEq.eq g.K.CacheKey.word g.V.Weighs.measure
    c.args.self.now.core c.args.call c.args.self.now.landings c.requires.plain before.landed
    before.state.lawful.flights.rising
