-- The laws of the report's definition.
use Rattle.std.specs.Prelude.{◌≡◌, ℕ, true, List, None, map}
use Rattle.wt_flights.specs.Lawful.{IsLawful}
use Rattle.wt_core.specs.State.{State}
use Rattle.wt_trace.specs.Answers.{act_step, line_if, new_cache}
use Rattle.wt_trace.specs.Calls.{IsRun}
use Rattle.wt_trace.specs.Keys.{Keys}
use Rattle.wt_trace.specs.declared.trace.line.Act.TheVariants as act
use Rattle.wt_trace.specs.declared.trace.line.Line.{Line}
use Rattle.wt_trace.specs.declared.options.Options.{Options}
use Rattle.wt_trace.specs.declared.shard.version.Version.{Version}

module _ {K : Type 0} (keys : Keys K) where
  -- after a line of letter G the same loads are open as before it, at each shard, whatever its state
  abbrev pub GetsLeaveLoads : Type 0
  GetsLeaveLoads = (options : Options) (shard n moment : ℕ) (key : K) (s : State K (Version K)) → IsLawful keys.eq s.flights
      → map (λ r. r.id) (act_step keys options shard n moment (act.Get key) s).state.flights.rows ≡ map (λ r. r.id) s.flights.rows

  -- a new shard that isn't adaptive has no adviser, and without one a line does what its act does, and no more
  pub record ActsAlone : Type 0 where
    pub none : (options : Options) → options.adaptive ≡ 0 → (new_cache {K = K} options).advice ≡ None
    pub alone : (options : Options) (shard n : ℕ) (line : Line K) (s : State K (Version K))
        → line_if keys options true shard n line (record { state = s; advice = None })
        ≡ (let one = act_step keys options shard n line.moment line.act s in record { cache = record { state = one.state; advice = None }; text = one.text })

  -- the lines of a trace leave each shard as a run of their calls leaves the cache
  abbrev pub AreRuns : Type 0
  AreRuns = (options : Options) (first shard : ℕ) (lines : List (Line K)) → IsRun keys options first lines shard
