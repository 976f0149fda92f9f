-- What a line does, by the call that was made for it.
use Rattle.std.proofs.Common.{◌≡◌, ℕ, Bool, true, Option, Some, Result, Ok, Err, OnOk, sym, subst}
use Rattle.std.specs.Prelude.{nat_lt}
use Rattle.wt_keys.specs.declared.fault.Fault.{Fault}
use Rattle.wt_regions.specs.Notices.{NoticeList}
use Rattle.wt_core.specs.declared.calls.Call.{Call}
use Rattle.wt_core.specs.declared.calls.Reply.{Reply}
use Rattle.wt_shards.specs.Contract.{IsHomeCall, IsSweepCall}
use Rattle.wt_shards.specs.Passes.{Seen}
use Rattle.wt_shards.specs.Place.{home_at}
use Rattle.wt_shards.specs.declared.done.Done.{Done}
use Rattle.wt_cache.specs.Cached.{Cached}
use Rattle.wt_turns.specs.Turns.{HasActed, HasDone, HasFollowed, HasMade, HasSlid, HasSwept, IsFollowing, members}
use Rattle.wt_trace.specs.Keys.{Keys}
use Rattle.wt_trace.specs.Line.{looked_up}
use Rattle.wt_trace.specs.declared.trace.line.Act.{Act}
use Rattle.wt_trace.specs.declared.trace.line.Line.{Line}
use Rattle.wt_trace.specs.declared.options.Options.{Options}
use Rattle.wt_trace.specs.declared.shard.version.Version.{Version}

module _ {K : Type 0} (keys : Keys K) (o : Options) (c : Cached) (old new : Seen K (Version K)) where
  -- a line whose letter is known
  pub acted : (n : ℕ) (l : Line K) (a : Act K) → l.act ≡ a → HasDone keys o c old new n l.moment a → HasActed keys o c n l old new
  acted n l a is done = subst (λ (b : Act K). HasDone keys o c old new n l.moment b) (sym is) done

  -- a call that was made
  pub made_of : {R : Type 0} (k : K) (call : Call K (Version K)) (to_reply : R → Reply (Version K))
      (before after : NoticeList K (Version K)) (done : Done R)
      → IsHomeCall (members keys) (home_at keys.word k c.layout) call to_reply old new before after (Ok done)
      → HasMade keys o c old new k call
  made_of k call to_reply before after done made =
      record {
        reply = to_reply done.reply;
        number = done.step;
        before = before;
        after = after;
        step = made.step;
        moved = made.moved;
        elsewhere = made.elsewhere;
      }

  -- a sweep, if it was made
  pub swept : (call : Call K (Version K)) (before after : NoticeList K (Version K)) (r : Result (Unit {0}) Fault)
      → IsSweepCall (members keys) c.layout call old new before after r
      → OnOk r (HasSwept keys o c old new call)
  swept call before after (Ok x) made = record { before = before; after = after; steps = made.steps; moved = made.moved }
  swept call before after (Err f) made = tt

  -- a look-up that the window follows
  pub followed : (l : Line K) (k : K) → nat_lt 0 o.adaptive ≡ true → looked_up l.act ≡ Some k
      → IsFollowing keys o c old new k l.moment → HasFollowed keys o c l old new
  followed l k follows looks slid =
      subst (λ (b : Bool). HasSlid keys b (looked_up l.act) o c l.moment old new) (sym follows)
      (subst (λ (j : Option K). HasSlid keys true j o c l.moment old new) (sym looks) slid)
