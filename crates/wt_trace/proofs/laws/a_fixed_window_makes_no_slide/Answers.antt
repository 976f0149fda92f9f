use Rattle.wt_trace.specs.Keys.{keys_by}
use Rattle.wt_trace.proofs.Histories.{acts_alone}
use Rattle.wt_trace.proofs.laws.a_fixed_window_makes_no_slide.Goals as goal

pub returns : goal.returns
returns g c = acts_alone (keys_by g.K.PartialEq.eq g.K.CacheKey.word g.K.TraceKey.read g.K.TraceKey.shown)
