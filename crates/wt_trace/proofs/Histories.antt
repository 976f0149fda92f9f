-- What the lines of a trace do to a shard is a run of the calls that they make.
use Rattle.std.proofs.Common.{◌≡◌, ℕ, zero, suc, ◌+◌, ◌==◌, Bool, true, false, List, [], ◌∷◌, ◌++◌, Option, Some, None, refl, sym, ap, ◌∙◌}
use Rattle.std.specs.Prelude.{codes, nat_lt, if◌then◌else◌}
use Rattle.std.specs.Option.{option_map_or}
use Rattle.wt_regions.specs.Lists.{lasting}
use Rattle.wt_flights.specs.declared.row.Row.{Row}
use Rattle.wt_flights.specs.Rows.{oldest_load}
use Rattle.wt_core.specs.declared.calls.Call.{Call}
use Rattle.wt_core.specs.declared.calls.Call.TheVariants as call
use Rattle.wt_core.specs.declared.calls.Reply.{Reply}
use Rattle.wt_core.specs.declared.calls.Reply.TheVariants as reply
use Rattle.wt_core.specs.State.{State, Made, stats_of}
use Rattle.wt_core.specs.Run.{run}
use Rattle.wt_adviser.specs.Advice.{Advice, opening as nothing_seen, saw, wanted}
use Rattle.wt_adviser.specs.Follow.{slid_by, slid_towards}
use Rattle.wt_trace.specs.declared.trace.line.Act.{Act}
use Rattle.wt_trace.specs.declared.trace.line.Act.TheVariants as act
use Rattle.wt_trace.specs.declared.trace.line.Line.{Line}
use Rattle.wt_trace.specs.declared.shard.version.Version.{Version}
use Rattle.wt_trace.specs.declared.options.Options.{Options}
use Rattle.wt_trace.specs.Answers.{Cache, Shown, act_step, answers, answers_from, belongs, fetched, followed_by, line_step, line_if, landing_of, new_cache, one_call, shown, take}
use Rattle.wt_trace.specs.Calls.{landing_calls, act_calls, slide_if, slide_calls, following_calls, own_calls, line_calls, calls_from, cache_from, IsRun}
use Rattle.wt_trace.specs.Keys.{Keys}
use Rattle.wt_trace.specs.Laws.{ActsAlone}
use Rattle.wt_trace.specs.Line.{looked_up}

module _ {K : Type 0} (keys : Keys K) (o : Options) where
  -- a run of a trace's calls
  abbrev ran : State K (Version K) → List (Call K (Version K)) → State K (Version K)
  ran s calls = run keys.eq keys.word (λ v. lasting v.weight) s calls

  ran-append : (s : State K (Version K)) (before after : List (Call K (Version K))) → ran s (before ++ after) ≡ ran (ran s before) after
  ran-append s [] after = refl
  ran-append s (c ∷ cs) after = ran-append (take keys s c).state cs after

  get-ran : (n moment : ℕ) (k : K) (r : Reply (Version K)) (m : Made K (Version K))
      → (fetched keys o n moment k r m).state ≡ ran m.state (landing_calls keys o n moment k r)
  get-ran n moment k (reply.Lead id) m = refl
  get-ran n moment k (reply.HitLead v id) m = refl
  get-ran n moment k (reply.Hit v) m = refl
  get-ran n moment k reply.Absent m = refl
  get-ran n moment k (reply.Join id) m = refl
  get-ran n moment k (reply.Kept sharers) m = refl
  get-ran n moment k (reply.Loose sharers) m = refl
  get-ran n moment k (reply.Failed sharers) m = refl
  get-ran n moment k reply.Gone m = refl
  get-ran n moment k reply.Stored m = refl
  get-ran n moment k (reply.Dropped left) m = refl
  get-ran n moment k reply.Cleared m = refl
  get-ran n moment k (reply.Forgot was) m = refl
  get-ran n moment k reply.Cleaned m = refl
  get-ran n moment k (reply.Slid moved) m = refl
  get-ran n moment k (reply.Refused fault) m = refl

  land-ran : (shard n moment : ℕ) (k : K) (s : State K (Version K)) (row : Option (Row K))
      → (option_map_or (λ r. one_call keys shard s (landing_of keys o r.id n k moment)) row (shown keys (codes " none") [] s)).state ≡ ran s (option_map_or (λ r. landing_of keys o r.id n k moment ∷ []) row [])
  land-ran shard n moment k s (Some r) = refl
  land-ran shard n moment k s None = refl

  act-ran : (shard n moment : ℕ) (a : Act K) (s : State K (Version K))
      → (act_step keys o shard n moment a s).state ≡ ran s (act_calls keys o n moment a s)
  act-ran shard n moment (act.Look k) s = refl
  act-ran shard n moment (act.Put k) s = refl
  act-ran shard n moment (act.Seek k) s = refl
  act-ran shard n moment (act.Get k) s = get-ran n moment k (take keys s (call.Seek k moment)).reply (take keys s (call.Seek k moment))
  act-ran shard n moment (act.Land k) s = land-ran shard n moment k s (oldest_load keys.eq k s.flights)
  act-ran shard n moment (act.Drop k) s = refl
  act-ran shard n moment (act.Forget k) s = refl
  act-ran shard n moment act.Clean s = refl
  act-ran shard n moment act.Clear s = refl

  slide-ran : (as_wide wider : Bool) (moment : ℕ) (s : State K (Version K))
      → (if as_wide then s else (take keys s (call.Slide wider moment)).state) ≡ ran s (slide_if keys o as_wide wider moment)
  slide-ran true wider moment s = refl
  slide-ran false wider moment s = refl

  slides-ran : (slides want moment : ℕ) (s : State K (Version K))
      → slid_by keys.eq keys.word (λ v. lasting v.weight) slides want moment s ≡ ran s (slide_calls keys o slides want moment s)
  unfolding slid_by slid_towards
  slides-ran zero want moment s = refl
  slides-ran (suc slides) want moment s =
      let now : State K (Version K) = slid_by keys.eq keys.word (λ v. lasting v.weight) slides want moment s in
      let last : List (Call K (Version K)) =
      slide_if keys o (now.regions.caps.window == want) (nat_lt now.regions.caps.window want) moment in
      slide-ran (now.regions.caps.window == want) (nat_lt now.regions.caps.window want) moment now
      ∙ ap (λ x. ran x last) (slides-ran slides want moment s) ∙ sym (ran-append s (slide_calls keys o slides want moment s) last)

  following-ran : (looked : Option K) (advice : Option (Advice K)) (moment : ℕ) (s : State K (Version K))
      → (followed_by keys looked advice moment s).state ≡ ran s (following_calls keys o looked advice moment s)
  following-ran (Some k) (Some a) moment s = slides-ran 4 (wanted (saw keys.eq keys.word k a)) moment s
  following-ran (Some k) None moment s = refl
  following-ran None (Some a) moment s = refl
  following-ran None None moment s = refl

  own-ran : (shard n : ℕ) (l : Line K) (c : Cache K)
      → (line_if keys o true shard n l c).cache.state ≡ ran c.state (own_calls keys o shard n l c)
  own-ran shard n l c =
      let acted : State K (Version K) = (act_step keys o shard n l.moment l.act c.state).state in
      let follow : List (Call K (Version K)) = following_calls keys o (looked_up l.act) c.advice l.moment acted in
      following-ran (looked_up l.act) c.advice l.moment acted
      ∙ ap (λ x. ran x follow) (act-ran shard n l.moment l.act c.state)
      ∙ sym (ran-append c.state (act_calls keys o n l.moment l.act c.state) follow)

  if-ran : (b : Bool) (shard n : ℕ) (l : Line K) (c : Cache K)
      → (line_if keys o b shard n l c).cache.state ≡ ran c.state (if b then own_calls keys o shard n l c else [])
  if-ran true shard n l c = own-ran shard n l c
  if-ran false shard n l c = refl

  line-ran : (shard n : ℕ) (l : Line K) (c : Cache K)
      → (line_step keys o shard n l c).cache.state ≡ ran c.state (line_calls keys o shard n l c)
  unfolding line_step
  line-ran shard n l c = if-ran (belongs keys o shard l.act) shard n l c

  lines-ran : (shard n : ℕ) (ls : List (Line K)) (c : Cache K)
      → (cache_from keys o shard n ls c).state ≡ ran c.state (calls_from keys o shard n ls c)
  lines-ran shard n [] c = refl
  lines-ran shard n (l ∷ ls) c =
      lines-ran shard (n + 1) ls (line_step keys o shard n l c).cache
      ∙ ap (λ x. ran x (calls_from keys o shard (n + 1) ls (line_step keys o shard n l c).cache)) (line-ran shard n l c)
      ∙ sym (ran-append c.state (line_calls keys o shard n l c) (calls_from keys o shard (n + 1) ls (line_step keys o shard n l c).cache))

  stats-told : (shard n : ℕ) (ls : List (Line K)) (c : Cache K)
      → (answers_from keys o shard n ls c).stats ≡ stats_of (cache_from keys o shard n ls c).state
  stats-told shard n [] c = refl
  stats-told shard n (l ∷ ls) c = stats-told shard (n + 1) ls (line_step keys o shard n l c).cache

  answers-told : (n : ℕ) (ls : List (Line K)) (shard : ℕ)
      → (answers keys o n ls shard).stats ≡ stats_of (cache_from keys o shard n ls (new_cache o)).state
  unfolding answers
  answers-told n ls shard = stats-told shard n ls (new_cache o)

  pub lines_are_a_run : (n : ℕ) (ls : List (Line K)) (shard : ℕ) → IsRun keys o n ls shard
  lines_are_a_run n ls shard = record { state = lines-ran shard n ls (new_cache o); stats = answers-told n ls shard }

-- nothing follows without an adviser
module _ {K : Type 0} (keys : Keys K) where
  unfollowed : (looked : Option K) (moment : ℕ) (s : State K (Version K))
      → followed_by keys looked None moment s ≡ record { state = s; advice = None }
  unfollowed (Some k) moment s = refl
  unfollowed None moment s = refl

  no_adviser : (o : Options) → o.adaptive ≡ 0 → (new_cache {K = K} o).advice ≡ None
  no_adviser o is = λ i. if nat_lt 0 (is i) then Some (nothing_seen o.entries) else None

  pub acts_alone : ActsAlone keys
  acts_alone = record {
    none = no_adviser;
    alone = λ o shard n line s.
        let one : Shown K = act_step keys o shard n line.moment line.act s in
        (λ i. record { cache = unfollowed (looked_up line.act) line.moment one.state i; text = one.text });
  }
