-- What one shard answers to the lines of a trace.
use Rattle.std.specs.Prelude.{ℕ, ◌+◌, ◌%◌, ◌==◌, nat_lt, Bool, true, false, if◌then◌else◌, List, [], ◌∷◌, ◌++◌, Option, None, Some, codes}
use Rattle.std.specs.Option.{option_map_or}
use Rattle.wt_keys.specs.Hash.{shard_of}
use Rattle.wt_regions.specs.Lists.{lasting}
use Rattle.wt_regions.specs.declared.notices.Notice.{Notice}
use Rattle.wt_flights.specs.Rows.{oldest_load}
use Rattle.wt_core.specs.declared.calls.Call.{Call}
use Rattle.wt_core.specs.declared.calls.Call.TheVariants as call
use Rattle.wt_core.specs.declared.calls.Land.{Land}
use Rattle.wt_core.specs.declared.calls.Land.TheVariants as land
use Rattle.wt_core.specs.declared.calls.Reply.{Reply}
use Rattle.wt_core.specs.declared.calls.Reply.TheVariants as reply
use Rattle.wt_core.specs.declared.stats.Stats.{Stats}
use Rattle.wt_core.specs.State.{State, Made, opening, stats_of}
use Rattle.wt_core.specs.Run.{taken}
use Rattle.wt_adviser.specs.Advice.{Advice, opening as nothing_seen, saw, wanted}
use Rattle.wt_adviser.specs.Follow.{slid_by}
use Rattle.wt_trace.specs.declared.trace.line.Act.{Act}
use Rattle.wt_trace.specs.declared.trace.line.Act.TheVariants as act
use Rattle.wt_trace.specs.declared.trace.line.Line.{Line}
use Rattle.wt_trace.specs.declared.options.Options.{Options}
use Rattle.wt_trace.specs.declared.shard.version.Version.{Version}
use Rattle.wt_trace.specs.Keys.{Keys}
use Rattle.wt_trace.specs.Line.{key_of, looked_up}
use Rattle.wt_trace.specs.Words.{words_of, loaded_words, notices_text}
use Rattle.wt_trace.specs.Options.{config_of}

-- what a shard answers: the text that it adds to each line, of another shard's line nothing, and its numbers at the end
pub record ShardAnswers : Type 0 where
  pub texts : List (List ℕ)
  pub stats : Stats

-- a state, and the text added to a line on the way there
pub record Shown (K : Type 0) : Type 0 where
  pub state : State K (Version K)
  pub text : List ℕ

-- a shard's cache, and its adviser if its window follows the stream
pub record Cache (K : Type 0) : Type 0 where
  pub state : State K (Version K)
  pub advice : Option (Advice K)

-- a cache, and the text added to a line on the way there
pub record Stepped (K : Type 0) : Type 0 where
  pub cache : Cache K
  pub text : List ℕ

-- a shard at work: its cache, and what its latest call told
pub record Work (K : Type 0) : Type 0 where
  pub options : Options
  pub shard : ℕ
  pub cache : Cache K
  pub told : List (Notice K (Version K))

-- the cache of a new shard
abbrev pub new_cache : {K : Type 0} → Options → Cache K
new_cache o = record { state = opening (config_of o); advice = if nat_lt 0 o.adaptive then Some (nothing_seen o.entries) else None }

module _ {K : Type 0} (keys : Keys K) where
  -- what a call makes of a state, for values of a trace
  abbrev pub take : State K (Version K) → Call K (Version K) → Made K (Version K)
  take s c = taken keys.eq keys.word (λ v. lasting v.weight) s c

  -- the window follows a look-up of the key, if one was made and there is an adviser
  abbrev pub followed_by : Option K → Option (Advice K) → ℕ → State K (Version K) → Cache K
  followed_by (Some k) (Some a) moment s =
      let advice : Advice K = saw keys.eq keys.word k a in
      record { state = slid_by keys.eq keys.word (λ v. lasting v.weight) 4 (wanted advice) moment s; advice = Some advice }
  followed_by looked advice moment s = record { state = s; advice = advice }

  -- the same of a cache
  abbrev pub followed : Option K → ℕ → Cache K → Cache K
  followed looked moment c = followed_by looked c.advice moment c.state

  -- the words, then the notices
  abbrev pub shown : List ℕ → List (Notice K (Version K)) → State K (Version K) → Shown K
  shown words notices s = record { state = s; text = words ++ notices_text keys.shown notices }

  -- one call: its words and its notices
  abbrev pub one_call : ℕ → State K (Version K) → Call K (Version K) → Shown K
  one_call shard s c = let m = take s c in shown (words_of shard m.reply) m.notices m.state

  -- a lead is landed at once: the words, then the seek's notices and the landing's
  abbrev pub landed_at_once : List ℕ → List (Notice K (Version K)) → Made K (Version K) → Shown K
  landed_at_once words before m = shown (words ++ loaded_words m.reply) (before ++ m.notices) m.state

module _ {K : Type 0} (keys : Keys K) (o : Options) where
  -- the value that line n makes
  abbrev pub version : ℕ → K → Version K
  version n k = record { key = k; line = n; weight = 1 + keys.word k % o.modulus }

  -- the load of line n, which fails by rule
  abbrev pub load : ℕ → K → Land (Version K)
  load n k = if option_map_or (λ f. keys.word k % f == 0) o.fail_mod false then land.Failed else land.Keep (version n k)

  -- the landing of the flight with an id by line n
  abbrev pub landing_of : ℕ → ℕ → K → ℕ → Call K (Version K)
  landing_of id n k moment = call.Land id k (load n k) moment

  -- after the seek of a G line
  abbrev pub fetched : ℕ → ℕ → K → Reply (Version K) → Made K (Version K) → Shown K
  fetched n moment k (reply.Lead id) m = landed_at_once keys [] m.notices (take keys m.state (landing_of id n k moment))
  fetched n moment k (reply.HitLead v id) m = landed_at_once keys (words_of 0 (reply.Hit v)) m.notices (take keys m.state (landing_of id n k moment))
  fetched n moment k r m = shown keys (words_of 0 r) m.notices m.state

  -- line n at the shards that it belongs to
  abbrev pub act_step : ℕ → ℕ → ℕ → Act K → State K (Version K) → Shown K
  act_step shard n moment (act.Look k) s = one_call keys shard s (call.Look k moment)
  act_step shard n moment (act.Put k) s = one_call keys shard s (call.Put k (version n k) moment)
  act_step shard n moment (act.Seek k) s = one_call keys shard s (call.Seek k moment)
  act_step shard n moment (act.Get k) s = let m = take keys s (call.Seek k moment) in fetched n moment k m.reply m
  act_step shard n moment (act.Land k) s = option_map_or (λ row. one_call keys shard s (landing_of row.id n k moment)) (oldest_load keys.eq k s.flights) (shown keys (codes " none") [] s)
  act_step shard n moment (act.Drop k) s = one_call keys shard s (call.DropKey k moment)
  act_step shard n moment (act.Forget k) s = one_call keys shard s (call.Forget k moment)
  act_step shard n moment act.Clean s = one_call keys shard s (call.Clean moment)
  act_step shard n moment act.Clear s = one_call keys shard s (call.Clear moment)

  -- whether a line belongs to the shard: one without a key belongs to each
  abbrev pub belongs : ℕ → Act K → Bool
  belongs shard a = option_map_or (λ k. shard_of (keys.word k) o.shards == shard) (key_of a) true

  -- a line's act, and then the window follows
  abbrev pub stepped_by : Line K → Option (Advice K) → Shown K → Stepped K
  stepped_by l advice one = record { cache = followed_by keys (looked_up l.act) advice l.moment one.state; text = one.text }

  -- by whether the line belongs to the shard
  abbrev pub line_if : Bool → ℕ → ℕ → Line K → Cache K → Stepped K
  line_if true shard n l c = stepped_by l c.advice (act_step shard n l.moment l.act c.state)
  line_if false shard n l c = record { cache = c; text = [] }

  -- line n at a shard
  unfoldable pub line_step : ℕ → ℕ → Line K → Cache K → Stepped K
  line_step shard n l c = line_if (belongs shard l.act) shard n l c

  -- the lines from line n on, at a shard
  abbrev pub answers_from : ℕ → ℕ → List (Line K) → Cache K → ShardAnswers
  answers_from shard n [] c = record { texts = []; stats = stats_of c.state }
  answers_from shard n (l ∷ ls) c =
      let one = line_step shard n l c in
      let rest = answers_from shard (n + 1) ls one.cache in
      record rest { texts = one.text ∷ rest.texts }

  -- all of them, at a shard that is new
  unfoldable pub answers : ℕ → List (Line K) → ℕ → ShardAnswers
  answers n ls shard = answers_from shard n ls (new_cache o)

module _ {K : Type 0} (keys : Keys K) (w : Work K) where
  -- what line n's act makes of a shard at work
  abbrev pub done_by : ℕ → ℕ → Act K → Shown K
  done_by n moment a = act_step keys w.options w.shard n moment a w.cache.state

  -- and what a flight's landing does, by line n behind the seek that its latest call was
  abbrev pub landed_by : ℕ → ℕ → K → ℕ → Shown K
  landed_by id n k moment = landed_at_once keys [] w.told (take keys w.cache.state (landing_of keys w.options id n k moment))
