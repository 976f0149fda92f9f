use Rattle.std.proofs.Common.{Err, refl, sym, ap, ◌∙◌, subst, arith}
use Rattle.circular_buffer.specs.Buffer.{Buffer}
use Rattle.wt_regions.specs.Notices.{NoticeList}
use Rattle.wt_core.specs.declared.calls.Call.{Call}
use Rattle.wt_core.specs.Lawful.{IsLawful}
use Rattle.wt_core.specs.State.{State, config_fault}
use Rattle.wt_shards.specs.Members.{members_by}
use Rattle.wt_shards.specs.declared.shade.Shade.{Shade}
use Rattle.wt_shards.specs.Audited.{IsAudited, new_shard}
use Rattle.wt_shards.proofs.Audits.{audited-new, same_shard}
use Rattle.wt_shards.proofs.Configs.{accepted, refused-by_check}
use Rattle.wt_shards.proofs.shard.Shard.new.Goals as goal

pub returns-in-Err-clause-refusal : goal.returns-in-Err-clause-refusal
returns-in-Err-clause-refusal g c =
    refused-by_check (λ x. Err x) (config_fault c.args.config.now) c.check.result c.in-Err.fault
    c.check.ensures.refusal c.in-Err.is

pub returns-in_default-lists-clause-refusal : goal.returns-in_default-lists-clause-refusal
returns-in_default-lists-clause-refusal g c =
    accepted _ (λ x. Err x) (config_fault c.args.config.now) c.check.result c.check.ensures.refusal
    c.in_default.is refl

pub returns-clause-refusal : goal.returns-clause-refusal
returns-clause-refusal g c = accepted _ (λ x. Err x)
    (config_fault c.args.config.now) c.check.result c.check.ensures.refusal c.in_default.is tt

pub invariant_of-result : goal.invariant_of-result
invariant_of-result g c =
    let K = g.row.K.Denot in
    let V = g.row.V.Denot in
    let eq = g.K.PartialEq.eq in
    let word = g.K.CacheKey.word in
    let measure = g.V.Weighs.measure in
    let config = c.args.config.now in
    let core = c.in-Ok.ensures.0 in
    let lagging = c.in-Ok.ensures.1 in
    let ring = c.in-Ok-lists.ensures.0 in
    let aside = c.in-Ok-lists.ensures.3 in
    let is = same_shard (new_shard config)
    (record {
      config = config;
      core = c.in-Ok.core;
      lagging = c.in-Ok.lagging;
      records =
          c.in-Ok-lists.ring.items;
      landings = c.in-Ok-lists.landings.items;
      given = 0;
    })
    refl core lagging (ap (λ (b : Buffer (Call K Shade)). b.items) ring) c.in-Ok-lists.ensures.1 refl in (
      subst (IsAudited (members_by eq word measure g.V.Answers.answers) g.S.ShardLedger.place.shards
          g.S.ShardLedger.place.index) (sym is)
          (audited-new eq word measure g.V.Answers.answers g.S.ShardLedger.place.shards
          g.S.ShardLedger.place.index config c.in_default.ensures.within.ring_over
          (subst (IsLawful eq measure) core c.stats-stats.ensures.lawful)),
      ap (λ (b : Buffer (Call K Shade)). b.capacity) ring,
      c.in-Ok-lists.ensures.2,
      omega (arith, ap (λ (s : State K Shade). s.regions.caps.entries) lagging, ap (λ (n : NoticeList K Shade). n.room) aside),
      (λ i. (c.new.ensures i).steps.total) ∙ c.open-steps.ensures.total ∙ sym (ap (λ (s : State K V). s.step) core),
      (λ i. (c.new.ensures i).hits.total) ∙ c.open-hits.ensures.total ∙ sym (ap (λ (s : State K V). s.counts.hits) core),
      omega (arith, (λ i. (c.new.ensures i).steps_left.parts) ∙ c.open-steps.ensures.parts, c.requires.steps.1, c.requires.steps.2),
      omega (arith, (λ i. (c.new.ensures i).hits_left.parts) ∙ c.open-hits.ensures.parts, c.requires.hits.1, c.requires.hits.2),
      (λ i. (c.new.ensures i).steps_left.amount) ∙ c.open-steps.ensures.amount,
      (λ i. (c.new.ensures i).hits_left.amount) ∙ c.open-hits.ensures.amount,
      c.requires.made_for,
    )
