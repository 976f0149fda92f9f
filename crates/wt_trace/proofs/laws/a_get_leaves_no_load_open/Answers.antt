use Rattle.wt_trace.specs.Keys.{keys_by}
use Rattle.wt_trace.proofs.Fetches.{get_leaves, not_next}
use Rattle.wt_trace.proofs.laws.a_get_leaves_no_load_open.Goals as goal

pub returns : goal.returns
returns g c =
    let keys = keys_by g.K.PartialEq.eq g.K.CacheKey.word g.K.TraceKey.read g.K.TraceKey.shown in
    let laws = (g.met.K.Eq g.world.𝓛 g.world.𝓜 g.world.𝓡 ((λ s x. x), (λ x. x), (λ x. x), λ x. x)).laws in
    λ o shard n moment key s lawful. get_leaves keys o n moment key (laws.refl key) shard s
    (not_next s.flights.next s.flights.rows lawful.below)
