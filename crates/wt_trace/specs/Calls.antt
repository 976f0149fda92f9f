-- The calls that the lines of a trace make at a shard.
use Rattle.std.specs.Prelude.{◌≡◌, ℕ, zero, suc, ◌+◌, ◌==◌, nat_lt, Bool, if◌then◌else◌, List, [], ◌∷◌, ◌++◌, Option, Some}
use Rattle.std.specs.Option.{option_map_or}
use Rattle.wt_regions.specs.Lists.{lasting}
use Rattle.wt_flights.specs.Rows.{oldest_load}
use Rattle.wt_core.specs.declared.calls.Call.{Call}
use Rattle.wt_core.specs.declared.calls.Call.TheVariants as call
use Rattle.wt_core.specs.declared.calls.Reply.{Reply}
use Rattle.wt_core.specs.declared.calls.Reply.TheVariants as reply
use Rattle.wt_core.specs.State.{State, opening, stats_of}
use Rattle.wt_adviser.specs.Advice.{Advice, saw, wanted}
use Rattle.wt_adviser.specs.Follow.{slid_by}
use Rattle.wt_core.specs.Run.{run}
use Rattle.wt_trace.specs.declared.trace.line.Act.{Act}
use Rattle.wt_trace.specs.declared.trace.line.Act.TheVariants as act
use Rattle.wt_trace.specs.declared.trace.line.Line.{Line}
use Rattle.wt_trace.specs.declared.shard.version.Version.{Version}
use Rattle.wt_trace.specs.declared.options.Options.{Options}
use Rattle.wt_trace.specs.Answers.{Cache, act_step, answers, belongs, landing_of, line_step, new_cache, take, version}
use Rattle.wt_trace.specs.Keys.{Keys}
use Rattle.wt_trace.specs.Line.{looked_up}
use Rattle.wt_trace.specs.Options.{config_of}

module _ {K : Type 0} (keys : Keys K) (o : Options) where
  -- what follows the seek of a G line, by its reply
  abbrev pub landing_calls : ℕ → ℕ → K → Reply (Version K) → List (Call K (Version K))
  landing_calls n moment k (reply.Lead id) = landing_of keys o id n k moment ∷ []
  landing_calls n moment k (reply.HitLead v id) = landing_of keys o id n k moment ∷ []
  landing_calls n moment k r = []

  -- the calls of line n at a shard that it belongs to
  abbrev pub act_calls : ℕ → ℕ → Act K → State K (Version K) → List (Call K (Version K))
  act_calls n moment (act.Look k) s = call.Look k moment ∷ []
  act_calls n moment (act.Put k) s = call.Put k (version keys o n k) moment ∷ []
  act_calls n moment (act.Seek k) s = call.Seek k moment ∷ []
  act_calls n moment (act.Get k) s = call.Seek k moment ∷ landing_calls n moment k (take keys s (call.Seek k moment)).reply
  act_calls n moment (act.Land k) s = option_map_or (λ row. landing_of keys o row.id n k moment ∷ []) (oldest_load keys.eq k s.flights) []
  act_calls n moment (act.Drop k) s = call.DropKey k moment ∷ []
  act_calls n moment (act.Forget k) s = call.Forget k moment ∷ []
  act_calls n moment act.Clean s = call.Clean moment ∷ []
  act_calls n moment act.Clear s = call.Clear moment ∷ []

  -- the slide towards the window that is wanted, unless it is that wide
  abbrev pub slide_if : Bool → Bool → ℕ → List (Call K (Version K))
  slide_if as_wide wider moment = if as_wide then [] else call.Slide wider moment ∷ []

  -- so many of them
  abbrev pub slide_calls : ℕ → ℕ → ℕ → State K (Version K) → List (Call K (Version K))
  slide_calls zero want moment s = []
  slide_calls (suc slides) want moment s =
      let now : State K (Version K) = slid_by keys.eq keys.word (λ v. lasting v.weight) slides want moment s in
      slide_calls slides want moment s ++ slide_if (now.regions.caps.window == want) (nat_lt now.regions.caps.window want) moment

  -- the slides that follow a look-up of the key, if one was made and there is an adviser
  abbrev pub following_calls : Option K → Option (Advice K) → ℕ → State K (Version K) → List (Call K (Version K))
  following_calls (Some k) (Some a) moment s = slide_calls 4 (wanted (saw keys.eq keys.word k a)) moment s
  following_calls looked advice moment s = []

  -- the calls of line n at a shard that it belongs to: those of its act, and the slides behind them
  abbrev pub own_calls : ℕ → ℕ → Line K → Cache K → List (Call K (Version K))
  own_calls shard n l c =
      act_calls n l.moment l.act c.state
      ++ following_calls (looked_up l.act) c.advice l.moment (act_step keys o shard n l.moment l.act c.state).state

  -- the calls of line n at a shard
  abbrev pub line_calls : ℕ → ℕ → Line K → Cache K → List (Call K (Version K))
  line_calls shard n l c = if belongs keys o shard l.act then own_calls shard n l c else []

  -- the calls of the lines from line n on, at a shard
  abbrev pub calls_from : ℕ → ℕ → List (Line K) → Cache K → List (Call K (Version K))
  calls_from shard n [] c = []
  calls_from shard n (l ∷ ls) c = line_calls shard n l c ++ calls_from shard (n + 1) ls (line_step keys o shard n l c).cache

  -- the cache of a shard after the lines from line n on
  abbrev pub cache_from : ℕ → ℕ → List (Line K) → Cache K → Cache K
  cache_from shard n [] c = c
  cache_from shard n (l ∷ ls) c = cache_from shard (n + 1) ls (line_step keys o shard n l c).cache

  -- the lines leave a shard as a run of their calls leaves the cache, and its numbers are told at the end
  pub record IsRun (n : ℕ) (lines : List (Line K)) (shard : ℕ) : Type 0 where
    pub state : (cache_from shard n lines (new_cache o)).state ≡ run keys.eq keys.word (λ v. lasting v.weight) (opening (config_of o)) (calls_from shard n lines (new_cache o))
    pub stats : (answers keys o n lines shard).stats ≡ stats_of (cache_from shard n lines (new_cache o)).state
