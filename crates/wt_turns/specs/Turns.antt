-- What one thread does of a replay turn by turn.
use Rattle.std.specs.Prelude.{◌≡◌, ◌⊎◌, ℕ, ◌+◌, ◌-◌, ◌<◌, ◌%◌, ◌==◌, nat_lt, Bool, true, false, if◌then◌else◌, List, [], ◌∷◌, All, Option, Some, None, Result, Ok, Err, IfOk, IfErr, get_or}
use Rattle.wt_keys.specs.declared.fault.Fault.{Fault}
use Rattle.wt_keys.specs.declared.fault.Fault.TheVariants.{NoMemory, LoadFailed, TooHeavy, TooManyFlights}
use Rattle.wt_regions.specs.declared.weighs.Measure.{Measure}
use Rattle.wt_regions.specs.Lists.{lasting}
use Rattle.wt_regions.specs.Notices.{NoticeList}
use Rattle.wt_core.specs.declared.calls.Call.{Call}
use Rattle.wt_core.specs.declared.calls.Call.TheVariants as call
use Rattle.wt_core.specs.declared.calls.Reply.{Reply}
use Rattle.wt_shards.specs.Counts.{is_hit}
use Rattle.wt_shards.specs.History.{IsMade}
use Rattle.wt_shards.specs.Members.{Members, members_by}
use Rattle.wt_shards.specs.Passes.{Seen, SeenAt, front_at, new_pass, with_step, with_steps}
use Rattle.wt_shards.specs.Place.{Place, home_of, home_at}
use Rattle.wt_shards.specs.Sweeps.{AreSwept}
use Rattle.wt_cache.specs.Cached.{Cached}
use Rattle.wt_cache.specs.Gets.{HasTriedIn, IsSought}
use Rattle.wt_cache.specs.Loads.{MayReturn}
use Rattle.wt_cache.specs.Follows.{IsFollowed}
use Rattle.wt_cache.specs.Moves.{HasGotIn}
use Rattle.wt_cache.specs.declared.got.Got.{Got}
use Rattle.wt_trace.specs.Answers.{version}
use Rattle.wt_trace.specs.Keys.{Keys}
use Rattle.wt_trace.specs.Line.{looked_up}
use Rattle.wt_trace.specs.Replayed.{is_config_fault}
use Rattle.wt_trace.specs.declared.fault.ReplayFault.TheVariants.{Cache}
use Rattle.wt_trace.specs.declared.trace.line.Act.{Act}
use Rattle.wt_trace.specs.declared.trace.line.Act.TheVariants as act
use Rattle.wt_trace.specs.declared.trace.line.Line.{Line}
use Rattle.wt_trace.specs.declared.options.Options.{Options}
use Rattle.wt_trace.specs.declared.shard.version.Version.{Version}
use Rattle.wt_turns.specs.Loading.{loaded}
use Rattle.wt_turns.specs.declared.by_turn.loader.TraceLoader.{TraceLoader}
use Rattle.wt_turns.specs.declared.by_turn.turns.RunFault.{RunFault}
use Rattle.wt_turns.specs.declared.by_turn.turns.RunFault.TheVariants as run

-- whether line n is thread t's: lines are dealt out in turn
abbrev pub is_turn : ℕ → ℕ → ℕ → Bool
is_turn threads t n = (n - 1) % threads == t

-- a fault of a line that doesn't end the run: a load that failed, a value too heavy, no place for a load
abbrev pub is_passed_over : Fault → Bool
is_passed_over (LoadFailed code) = true
is_passed_over (TooHeavy weight bound) = true
is_passed_over (TooManyFlights limit) = true
is_passed_over fault = false

module _ {K : Type 0} (keys : Keys K) where
  -- a value weighs as it says, and has no life of its own
  abbrev pub measure_of : Version K → Measure
  measure_of v = lasting v.weight

  -- a value answers the key that it was made for
  abbrev pub answers_for : Version K → K → Bool
  answers_for v k = keys.eq v.key k

  -- what a cache asks of the keys of a trace and of their values
  abbrev pub members : Members K (Version K)
  members = members_by keys.eq keys.word measure_of answers_for

  -- what a load of the key may return: how it ends by the options of a loader
  abbrev pub returns : K → Result (Version K) ℕ → Type 0
  returns = MayReturn {L = TraceLoader} (λ loader k result. result ≡ loaded keys.word loader.options k)

  module _ (o : Options) (c : Cached) (old new : Seen K (Version K)) where
    -- the number of a key's shard
    abbrev pub home : K → ℕ
    home k = home_of keys.word k c.layout

    -- where a key's shard stands
    abbrev pub place : K → Place
    place k = home_at keys.word k c.layout

    -- the pass made one step at the key's shard: this call stands in that shard's history, behind all that the thread had seen of it
    pub record HasMade (k : K) (call : Call K (Version K)) : Type 0 where
      pub reply : Reply (Version K)
      pub number : ℕ
      pub before : NoticeList K (Version K)
      pub after : NoticeList K (Version K)
      pub step : IsMade members (place k) call reply number (front_at (home k) old) (front_at (home k) new) before after
      pub moved : new.counts ≡ with_step (home k) (is_hit reply) old.counts
      pub elsewhere : SeenAt (home k) old new

    -- the pass made one step at each shard: this call stands in the history of each
    pub record HasSwept (call : Call K (Version K)) : Type 0 where
      pub before : NoticeList K (Version K)
      pub after : NoticeList K (Version K)
      pub steps : AreSwept members c.layout call c.layout.shards old new before after
      pub moved : new.counts ≡ with_steps c.layout.shards old.counts

    -- a get gave a value
    pub record HasGiven (k : K) (now : ℕ) : Type 0 where
      pub got : Got (Version K)
      pub before : NoticeList K (Version K)
      pub after : NoticeList K (Version K)
      pub sought : IsSought members returns k now c old new before after got
      pub moved : HasGotIn keys.word k c old.counts new.counts got

    -- a get ended by a fault that is passed over
    pub record HasFailed (k : K) (now : ℕ) : Type 0 where
      pub fault : Fault
      pub passed_over : is_passed_over fault ≡ true
      pub before : NoticeList K (Version K)
      pub after : NoticeList K (Version K)
      pub tried : HasTriedIn members returns k now c old new before after fault

    -- the window of the key's shard followed a look-up of the key: the pass made up to four slides there, and nothing else
    pub record IsFollowing (k : K) (now : ℕ) : Type 0 where
      pub slides : ℕ
      pub before : NoticeList K (Version K)
      pub after : NoticeList K (Version K)
      pub followed : IsFollowed members (place k) now old new before after (Ok slides)

    -- a value is stored, unless it is too heavy
    abbrev pub HasPut : K → Version K → ℕ → Type 0
    HasPut k v now = HasMade k (call.Put k v now) ⊎ ((c.layout.config.bound < v.weight) × (new.counts ≡ old.counts) × SeenAt (home k) old new)

    -- what line n does, at this moment, with the pass of its thread: its call and no other
    abbrev pub HasDone : ℕ → ℕ → Act K → Type 0
    HasDone n now (act.Look k) = HasMade k (call.Look k now)
    HasDone n now (act.Put k) = HasPut k (version keys o n k) now
    HasDone n now (act.Seek k) = new ≡ old
    HasDone n now (act.Get k) = HasGiven k now ⊎ HasFailed k now
    HasDone n now (act.Land k) = new ≡ old
    HasDone n now (act.Drop k) = HasMade k (call.DropKey k now)
    HasDone n now (act.Forget k) = HasMade k (call.Forget k now)
    HasDone n now act.Clean = HasSwept (call.Clean now)
    HasDone n now act.Clear = HasSwept (call.Clear now)

  -- what line n does
  abbrev pub HasActed : Options → Cached → ℕ → Line K → Seen K (Version K) → Seen K (Version K) → Type 0
  HasActed o c n l old new = HasDone o c old new n l.moment l.act

  -- by whether the windows follow, and by the key that a line looks up: the slides behind the look-up, or nothing
  abbrev pub HasSlid : Bool → Option K → Options → Cached → ℕ → Seen K (Version K) → Seen K (Version K) → Type 0
  HasSlid true (Some k) o c now old new = IsFollowing o c old new k now
  HasSlid true None o c now old new = new ≡ old
  HasSlid false k o c now old new = new ≡ old

  -- what the windows do behind a line: with the option they follow its look-up, and without it nothing happens
  abbrev pub HasFollowed : Options → Cached → Line K → Seen K (Version K) → Seen K (Version K) → Type 0
  HasFollowed o c l old new = HasSlid (nat_lt 0 o.adaptive) (looked_up l.act) o c l.moment old new

  -- what line n does, and behind it the windows
  pub record HasHandled (o : Options) (c : Cached) (n : ℕ) (l : Line K) (old new : Seen K (Version K)) : Type 0 where
    pub between : Seen K (Version K)
    pub acted : HasActed o c n l old between
    pub followed : HasFollowed o c l between new

-- a line of the thread's own was let through and done, once; another thread's line is left alone
abbrev pub IsTurn : {P : Type 0} → Bool → Type 0 → (P → P → Type 0) → P → P → Type 0
IsTurn true passed acted old new = passed × acted old new
IsTurn false passed acted old new = new ≡ old

-- a thread's turns with the lines from line n on, in their order
abbrev pub AreTurns : {K P : Type 0} → (ℕ → Bool) → (ℕ → Type 0) → (ℕ → Line K → P → P → Type 0) → ℕ → List (Line K) → P → P → Type 0
AreTurns own passed acted n [] old new = new ≡ old
AreTurns own passed acted n (l ∷ ls) old new = (next : _) × IsTurn (own n) (passed n) (acted n l) old next × AreTurns own passed acted (n + 1) ls next new

-- a fault of the cache, none of its options, or of a line before which the gate was shut
abbrev pub IsRunStop : (ℕ → Type 0) → RunFault → Type 0
IsRunStop shut (run.Cache fault) = is_config_fault (Cache fault) ≡ false
IsRunStop shut (run.GateShut n) = shut n

-- what workers hand back: no fault of it is one of the options
abbrev pub AreWorked : {P : Type 0} → List (Result P Fault) → Type 0
AreWorked worked = All (λ one. IfErr one (λ f. is_config_fault (Cache f) ≡ false)) worked

-- what stands for a thread that isn't there
abbrev pub unmade : {P : Type 0} → Result P RunFault
unmade = Err (run.Cache NoMemory)

-- what thread t hands back
pub record IsDone {K : Type 0} (keys : Keys K) (o : Options) (c : Cached) (answers : ℕ → Bool → Type 0) (first : ℕ) (lines : List (Line K)) (threads t : ℕ)
    (share : Result (Seen K (Version K)) RunFault) : Type 0 where
  -- the pass with which it did its turns
  pub turns : IfOk share (AreTurns (is_turn threads t) (λ n. answers n true) (HasHandled keys o c) first lines (new_pass c.layout.shards))
  -- or why it stopped
  pub err : IfErr share (IsRunStop (λ n. answers n false))

-- what all threads hand back
abbrev pub AreDone : {K : Type 0} → Keys K → Options → Cached → (ℕ → Bool → Type 0) → ℕ → List (Line K) → ℕ → List (Result (Seen K (Version K)) RunFault) → Type 0
AreDone keys o c answers first lines threads ran = (t : ℕ) → t < threads → IsDone keys o c answers first lines threads t (get_or ran t unmade)
