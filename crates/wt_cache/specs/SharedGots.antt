-- What is seen of a get that may have shared a load.
use Rattle.std.specs.Prelude.{◌≡◌, ℕ, ◌==◌, Bool, false, Option, Some, None, Result, Ok, Err, IfSome}
use Rattle.std.specs.Option.{option_map_or}
use Rattle.wt_history.specs.Names.{Book}
use Rattle.wt_flights.specs.declared.outcome.Outcome.TheVariants.{Value}
use Rattle.wt_shards.specs.Landings.{IsLandingOf}
use Rattle.wt_keys.specs.declared.fault.Fault.{Fault}
use Rattle.wt_regions.specs.Notices.{NoticeList}
use Rattle.wt_core.specs.declared.calls.Reply.{Reply}
use Rattle.wt_core.specs.declared.calls.Reply.TheVariants.{Join, Lead}
use Rattle.wt_shards.specs.Members.{Members}
use Rattle.wt_shards.specs.Passes.{Seen}
use Rattle.wt_cache.specs.Cached.{Cached}
use Rattle.wt_cache.specs.Gets.{IsSought}
use Rattle.wt_cache.specs.declared.cache.get.Led.{Led}
use Rattle.wt_cache.specs.declared.got.Got.{Got}
use Rattle.wt_cache.specs.declared.shared_got.LoadShare.{LoadShare}

-- which load was shared: the history of its shard, and its id
pub record Share : Type 0 where
  pub book : Book
  pub id : ℕ

-- what is seen of a get: what it returned, and which load it shared, if it shared one
pub record SharedGot (V : Type 0) : Type 0 where
  pub got : Got V
  pub share : Option Share

-- the load of a share
abbrev pub share_of : {K V : Type 0} → LoadShare K V → Share
share_of s = record { book = s.landings.book; id = s.ticket.id }

-- a share whose ticket knows the value, and is of the landing of its load
abbrev pub IsShareOf : {K V : Type 0} → V → LoadShare K V → Type 0
IsShareOf v s = IsLandingOf s.landings.tags s.ticket.id s.ticket.landing × (s.ticket.known ≡ Some (Value v))

-- a load that is shared is of the shard with this history
abbrev pub IsOfShard : Book → Option Share → Type 0
IsOfShard book share = IfSome share (λ s. s.book ≡ book)

-- loads that are shared are of one shard
abbrev pub AreOfOneShard : Option Share → Option Share → Type 0
AreOfOneShard mine theirs = (book : Book) × IsOfShard book mine × IsOfShard book theirs

-- whether both have a share, of loads with one id
abbrev pub have_one_load : Option Share → Option Share → Bool
have_one_load mine theirs = option_map_or (λ a. option_map_or (λ b. b.id == a.id) theirs false) mine false

-- what a caller is told of a load that it opened
abbrev pub told_by : {K V : Type 0} → Result (Led K V) Fault → Result V Fault
told_by (Ok led) = Ok led.value
told_by (Err f) = Err f

-- which load a get shares, by the reply of its seek: the load that it joined or opened, and none if it found its value
abbrev pub SharesBy : {V : Type 0} → Book → Reply V → Option Share → Type 0
SharesBy book (Join id) share = share ≡ Some (record { book = book; id = id })
SharesBy book (Lead id) share = IfSome share (λ s. s ≡ record { book = book; id = id })
SharesBy book reply share = share ≡ None

-- a get that brought a value, and its share of the load that its seek joined or opened
pub record IsSoughtSharing {K V : Type 0} (members : Members K V) (returns : K → Result V ℕ → Type 0) (key : K) (now : ℕ) (cache : Cached)
    (book : Book) (old new : Seen K V) (before list : NoticeList K V) (shared : SharedGot V) : Type 0 where
  pub sought : IsSought members returns key now cache old new before list shared.got
  pub shares : SharesBy book sought.answer shared.share

-- the result of a get, without its share of a load
abbrev pub got_in : {V : Type 0} → Result (SharedGot V) Fault → Result (Got V) Fault
got_in (Ok shared) = Ok shared.got
got_in (Err f) = Err f
