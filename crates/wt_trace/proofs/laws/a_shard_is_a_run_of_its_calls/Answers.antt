use Rattle.wt_trace.specs.Keys.{keys_by}
use Rattle.wt_trace.proofs.Histories.{lines_are_a_run}
use Rattle.wt_trace.proofs.laws.a_shard_is_a_run_of_its_calls.Goals as goal

pub returns : goal.returns
returns g c = λ options first shard lines. lines_are_a_run
    (keys_by g.K.PartialEq.eq g.K.CacheKey.word g.K.TraceKey.read g.K.TraceKey.shown) options first lines shard
