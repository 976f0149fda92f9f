-- A get whose seek opens no flight.
use Rattle.std.proofs.Common.{◌≡◌, ◌≢◌, ℕ, refl}
use Rattle.wt_core.specs.declared.calls.Reply.{Reply}
use Rattle.wt_core.specs.declared.calls.Reply.TheVariants as reply
use Rattle.wt_core.specs.State.{Made}
use Rattle.wt_trace.specs.Answers.{shown, fetched}
use Rattle.wt_trace.specs.Words.{words_of}
use Rattle.wt_trace.specs.Keys.{Keys}
use Rattle.wt_trace.specs.declared.shard.version.Version.{Version}
use Rattle.wt_trace.specs.declared.options.Options.{Options}

module _ {K : Type 0} (keys : Keys K) (o : Options) (n moment : ℕ) (k : K) where
  -- it adds the words and the notices of the seek
  pub fetched-otherwise : (r : Reply (Version K)) (m : Made K (Version K)) → ((id : ℕ) → r ≢ reply.Lead id)
      → ((v : Version K) (id : ℕ) → r ≢ reply.HitLead v id)
      → fetched keys o n moment k r m ≡ shown keys (words_of 0 r) m.notices m.state
  fetched-otherwise (reply.Lead id) m no_lead no_hit = absurd (no_lead id refl)
  fetched-otherwise (reply.HitLead v id) m no_lead no_hit = absurd (no_hit v id refl)
  fetched-otherwise (reply.Hit v) m no_lead no_hit = refl
  fetched-otherwise reply.Absent m no_lead no_hit = refl
  fetched-otherwise (reply.Join id) m no_lead no_hit = refl
  fetched-otherwise (reply.Kept sharers) m no_lead no_hit = refl
  fetched-otherwise (reply.Loose sharers) m no_lead no_hit = refl
  fetched-otherwise (reply.Failed sharers) m no_lead no_hit = refl
  fetched-otherwise reply.Gone m no_lead no_hit = refl
  fetched-otherwise reply.Stored m no_lead no_hit = refl
  fetched-otherwise (reply.Dropped left) m no_lead no_hit = refl
  fetched-otherwise reply.Cleared m no_lead no_hit = refl
  fetched-otherwise (reply.Forgot was) m no_lead no_hit = refl
  fetched-otherwise reply.Cleaned m no_lead no_hit = refl
  fetched-otherwise (reply.Slid moved) m no_lead no_hit = refl
  fetched-otherwise (reply.Refused fault) m no_lead no_hit = refl
