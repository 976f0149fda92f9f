use Rattle.std.proofs.Common.{◌≡◌, ◌+◌, List, ◌∷◌, ◌++◌, refl, subst}
use Rattle.std.specs.Prelude.{IfSome}
use Rattle.wt_core.specs.Laws.{joins, sharers_told}
use Rattle.wt_core.specs.Run.{taken}
use Rattle.wt_core.specs.State.{opening}
use Rattle.wt_core.specs.declared.calls.Call.{Call}
use Rattle.wt_core.specs.declared.calls.Call.TheVariants.{Land, Put}
use Rattle.wt_shards.specs.Brought.{IsFresh}
use Rattle.wt_shards.specs.Served.{IsBroughtYoung}
use Rattle.wt_shared.proofs.Serving.{serves-only}
use Rattle.wt_shared.specs.Shared.{state_after}
use Rattle.wt_shared.proofs.caller.Caller.laws.Goals as goal

pub returns : goal.returns
returns g c =
    let empty = opening c.args.self.now.known.config in
    let calls = c.args.self.now.known.seen.entries in
    let eq = g.K.PartialEq.eq in
    let word = g.K.CacheKey.word in
    let measure = g.V.Weighs.measure in
    record {
      current = c.one_current_load.ensures empty calls refl;
      landed = λ id. c.landed_once.ensures empty calls id refl;
      shared = λ before after id k what now is. subst
          (λ (run : List (Call g.row.K.Denot g.row.V.Denot)). IfSome (sharers_told (taken eq word measure (state_after eq word measure c.args.self.now.known.config before) (Land id k what now)).reply)
          (λ n. n ≡ joins eq word measure id empty run + 1))
          is (c.sharers_are_the_lead_and_joins.ensures empty before after refl id k what now);
      young = λ before after k now is. serves-only eq word measure (IsBroughtYoung eq word measure c.args.self.now.known.config before k now)
          (state_after eq word measure c.args.self.now.known.config before) k now
          (c.served_values_are_young.ensures c.args.self.now.known.config before k now).0;
      own = λ before between after k v now later is lawful allowed. serves-only eq word measure (IsFresh eq word measure c.args.self.now.known.config before (Put k v now) between k)
          (state_after eq word measure c.args.self.now.known.config (before ++ Put k v now ∷ between)) k later
          (c.own_put_is_read.ensures c.args.self.now.known.config before between k v now later lawful allowed);
      stale = c.stale_results_are_not_stored.ensures (state_after eq word measure c.args.self.now.known.config calls);
    }
