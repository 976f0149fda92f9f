use Rattle.std.proofs.Common.{rules, ◌≡◌, ℕ, List, [], ◌∷◌, ◌++◌, length, ap, sym, subst, ◌∙◌, refl}
use Rattle.std.specs.Option.{option_to_list}
use Rattle.wt_history.specs.declared.tags.Tagged.{Tagged}
use Rattle.wt_core.specs.declared.calls.Call.{Call}
use Rattle.wt_core.specs.Step.{refusal_of}
use Rattle.wt_shards.specs.Audited.{Audited}
use mathlib.Core.List.{IsPrefix}
use Rattle.wt_shards.specs.History.{state_after}
use Rattle.wt_shards.specs.Landings.{AreTagged}
use Rattle.wt_shards.specs.Passes.{ShardPass}
use Rattle.wt_shards.proofs.Histories.{cause-of, made-behind, recorded-after, refused-behind}
use Rattle.wt_shards.proofs.Tags.{plain-tagged}
use Rattle.wt_shards.proofs.recorded.Recorded.step.Goals as goal

pub invariant_of-self : goal.invariant_of-self
invariant_of-self g c =
    let K = g.row.K.Denot in
    let V = g.row.V.Denot in
    let config = g.S.ShardLedger.place.config in
    let call : Call K V = c.args.call in
    let calls : List (Call K V) = c.self.inside.history.entries in
    let made = c.in-Ok.ensures.made in
    let grown : c.write.new.self.entries ≡ calls ++ call ∷ [] = c.write.ensures.state
    ∙ ap (λ (e : Tagged (Call K V)). calls ++ e.entry ∷ []) c.ask-asked.ensures in
    let after = ap (λ (x : Audited K V). x.core) made.state in
    let kept = recorded-after g.K.PartialEq.eq g.K.CacheKey.word g.V.Weighs.measure config calls
    c.self.inside.shard.core c.step.new.self.core call c.self.invariant.0 c.self.invariant.1 made.allowed
    after in
    let tags : List ℕ = c.self.inside.history.tags in
    let tagged : c.write.new.self.tags ≡ tags ++ [] = c.write.ensures.tags
    ∙ ap (λ (e : Tagged (Call K V)). tags ++ option_to_list e.tag) c.ask-asked.ensures in
    let both = subst (λ (w : List (Call K V)).
    (c.step.new.self.core ≡ state_after g.K.PartialEq.eq g.K.CacheKey.word g.V.Weighs.measure config w)
    × (c.step.new.self.core.step ≡ length w)) (sym grown) kept in (
      both.0,
      both.1,
      subst (λ (w : List ℕ). AreTagged w c.step.new.self.core.flights.next c.step.new.self.landings) (sym tagged)
          (subst (λ (x : Audited K V). AreTagged (tags ++ []) x.core.flights.next x.landings) (sym made.state)
          (plain-tagged g.K.PartialEq.eq g.K.CacheKey.word g.V.Weighs.measure c.self.inside.shard.core call tags
          c.self.inside.shard.landings c.requires.plain c.self.invariant.2)),
    )

pub returns-in-Ok-clause-made : goal.returns-in-Ok-clause-made
returns-in-Ok-clause-made g c =
    let K = g.row.K.Denot in
    let V = g.row.V.Denot in
    let call : Call K V = c.args.call in
    let calls : List (Call K V) = c.self.inside.history.entries in
    let made = c.in-Ok.ensures.made in
    let grown : c.write.new.front ≡ calls ++ call ∷ [] = c.write.ensures.seen ∙ c.write.ensures.state
    ∙ ap (λ (e : Tagged (Call K V)). calls ++ e.entry ∷ []) c.ask-asked.ensures in
    let before = subst (λ (w : List (Call K V)). IsPrefix w calls) (ap (λ (m : ShardPass K V). m.front) c.pass.view_is) c.write.ensures.before in
    record {
      moved = search rules;
      later = search rules;
      step = made-behind g.K.PartialEq.eq g.K.CacheKey.word g.V.Weighs.measure g.V.Answers.answers
          g.S.ShardLedger.place call c.self.inside.shard.core calls _ _ _ _ _ _ c.self.invariant.0
          c.self.invariant.1 c.steps-step.ensures.lawful
          before grown made.allowed made.answer made.notices (search rules);
      faults = tt;
      cause = tt;
      told = made.told;
      err = tt;
    }

pub returns-in-Err-clause-made : goal.returns-in-Err-clause-made
returns-in-Err-clause-made g c =
    let K = g.row.K.Denot in
    let V = g.row.V.Denot in
    let call : Call K V = c.args.call in
    let calls : List (Call K V) = c.self.inside.history.entries in
    let made = c.in-Err.ensures.made in
    let before = subst (λ (w : List (Call K V)). IsPrefix w calls) (ap (λ (m : ShardPass K V). m.front) c.pass.view_is) c.show.ensures.before in
    record {
      moved = tt;
      later = tt;
      step = tt;
      faults = made.faults;
      cause = refused-behind g.K.PartialEq.eq g.K.CacheKey.word g.V.Weighs.measure g.V.Answers.answers
          g.S.ShardLedger.place call c.self.inside.shard.core calls _ _ c.in-Err.fault c.self.invariant.0
          c.self.invariant.1 c.steps-step.ensures.lawful
          before c.show.ensures.seen (cause-of _ _
          (refusal_of g.K.PartialEq.eq g.K.CacheKey.word g.V.Weighs.measure c.self.inside.shard.core call)
          c.in-Err.fault made.refusal) (λ empty. (let allowed = c.in-Err.ensures.empty_succeeds empty in cc));
      told = made.told;
      err = (made.err.1 ∙ ap (λ (m : ShardPass K V). m.counts) c.pass.view_is, made.err.2);
    }
