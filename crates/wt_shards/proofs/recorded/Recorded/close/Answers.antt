use Rattle.std.proofs.Common.{List, ap, sym, subst, ◌∙◌}
use Rattle.wt_core.specs.declared.calls.Call.{Call}
use Rattle.wt_core.specs.State.{State}
use Rattle.wt_shards.specs.History.{state_at}
use Rattle.wt_shards.specs.Members.{members_by}
use Rattle.wt_shards.specs.StateAt.{IsStateAt}
use Rattle.wt_shards.specs.Totals.{IsHistory, total_of}
use Rattle.wt_shards.proofs.recorded.Recorded.close.Goals as goal

pub returns-clause-sound : goal.returns-clause-sound
returns-clause-sound g c =
    let K = g.row.K.Denot in
    let V = g.row.V.Denot in
    let members = members_by g.K.PartialEq.eq g.K.CacheKey.word g.V.Weighs.measure g.V.Answers.answers in
    let place = g.S.ShardLedger.place in
    record {
      whole = subst (λ (calls : List (Call K V)). IsHistory members place calls) (sym c.seen.ensures) (record {
        lawful = subst (λ (s : State K V). IsStateAt members place s) c.self.invariant.0 c.close.ensures.lawful;
        all_made = ap (λ (s : State K V). s.step) (sym c.self.invariant.0) ∙ c.self.invariant.1;
      });
      total = c.close.ensures.total ∙ ap total_of (c.self.invariant.0 ∙ ap (λ (calls : List (Call K V)). state_at members place calls) (sym c.seen.ensures));
      looked = c.close.ensures.sound.0;
      weight = c.close.ensures.sound.1;
      small = c.close.ensures.small;
    }
