use Rattle.std.proofs.Common.{arith, ◌≤◌, length, refl, ap, ◌∙◌}
use Rattle.circular_buffer.specs.Buffer.{Buffer}
use Rattle.wt_core.specs.declared.calls.Call.{Call}
use Rattle.wt_shards.specs.declared.shade.Shade.{Shade}
use Rattle.wt_shards.specs.Audited.{Audited}
use Rattle.wt_shards.proofs.Audits.{few_records, lagged}
use Rattle.wt_shards.proofs.shard.Shard.make_room.Goals as goal

pub invariant_of-self : goal.invariant_of-self
invariant_of-self g c =
    let inside = c.self.inside in
    let inv = c.self.invariant in
    let s : Audited g.row.K.Denot g.row.V.Denot =
    record {
      config = inside.config;
      core = inside.core;
      lagging = inside.lagging;
      records =
          inside.ring.items;
      landings = inside.landings.items;
      given = inside.given;
    } in
    let m = c.catch_up.ensures.moved in
    let rows : c.args.rows ≤ inside.config.flights =
    omega (
      arith,
      c.requires.rows,
      ap
          (λ (a : Audited g.row.K.Denot g.row.V.Denot). a.config.flights) c.self.view_is,
    ) in
    let all = few_records g.K.PartialEq.eq g.K.CacheKey.word g.V.Weighs.measure g.V.Answers.answers
    g.S.ShardLedger.place.shards g.S.ShardLedger.place.index s c.args.rows inv.0 rows in
    let few : m.0 ≤ length inside.ring.items =
    omega (
      arith,
      m.1,
      c.saturating_sub-count.ensures,
      c.len.ensures.len,
      c.capacity.ensures.capacity,
      inv.1,
      all,
    ) in (
      lagged g.K.PartialEq.eq g.K.CacheKey.word g.V.Weighs.measure g.V.Answers.answers
          g.S.ShardLedger.place.shards g.S.ShardLedger.place.index s _ m.0 inv.0 few refl refl m.3
          (ap (λ (b : Buffer (Call g.row.K.Denot Shade)). b.items) m.4) refl refl,
      ap (λ (b : Buffer (Call g.row.K.Denot Shade)). b.capacity) m.4 ∙ inv.1,
      inv.2,
      c.catch_up.ensures.room,
      inv.4,
      inv.5,
      inv.6,
      inv.7,
      inv.8,
      inv.9,
      inv.10,
    )

pub invariant_of-self-2 : goal.invariant_of-self-2
invariant_of-self-2 g c =
    let inside = c.self.inside in
    let inv = c.self.invariant in
    let s : Audited g.row.K.Denot g.row.V.Denot =
    record {
      config = inside.config;
      core = inside.core;
      lagging = inside.lagging;
      records =
          inside.ring.items;
      landings = inside.landings.items;
      given = inside.given;
    } in
    let m = c.catch_up.ensures.moved in
    let rows : c.args.rows ≤ inside.config.flights =
    omega (
      arith,
      c.requires.rows,
      ap
          (λ (a : Audited g.row.K.Denot g.row.V.Denot). a.config.flights) c.self.view_is,
    ) in
    let all = few_records g.K.PartialEq.eq g.K.CacheKey.word g.V.Weighs.measure g.V.Answers.answers
    g.S.ShardLedger.place.shards g.S.ShardLedger.place.index s c.args.rows inv.0 rows in
    let few : m.0 ≤ length inside.ring.items =
    omega (
      arith,
      m.1,
      c.saturating_sub-count.ensures,
      c.len.ensures.len,
      c.capacity.ensures.capacity,
      inv.1,
      all,
    ) in (
      lagged g.K.PartialEq.eq g.K.CacheKey.word g.V.Weighs.measure g.V.Answers.answers
          g.S.ShardLedger.place.shards g.S.ShardLedger.place.index s _ m.0 inv.0 few refl refl m.3
          (ap (λ (b : Buffer (Call g.row.K.Denot Shade)). b.items) m.4) refl refl,
      ap (λ (b : Buffer (Call g.row.K.Denot Shade)). b.capacity) m.4 ∙ inv.1,
      inv.2,
      c.catch_up.ensures.room,
      inv.4,
      inv.5,
      inv.6,
      inv.7,
      inv.8,
      inv.9,
      inv.10,
    )
