use Rattle.std.proofs.Common.{arith, ◌≡◌, ◌+◌, ◌≤◌, ◌++◌, ◌∷◌, [], map, length, None, refl, sym, ap, ◌∙◌, subst}
use Rattle.std.specs.Prelude.{if◌then◌else◌, is_ok}
use Rattle.std.specs.Option.{option_to_list}
use Rattle.circular_buffer.specs.Buffer.{Buffer}
use Rattle.wt_core.specs.declared.calls.Call.{Call}
use Rattle.wt_core.specs.State.{State, Made}
use Rattle.wt_core.specs.Lawful.{IsLawful}
use Rattle.wt_core.specs.Step.{refusal_of, step}
use Rattle.wt_shards.specs.Members.{members_by}
use Rattle.wt_shards.specs.declared.shade.Shade.{Shade}
use Rattle.wt_shards.specs.Asked.{AnswersAsked}
use Rattle.wt_shards.specs.Audited.{Audited, IsAudited, load_at, load_of, moved, need, places, recorded, still_open}
use Rattle.wt_shards.specs.Counts.{is_hit}
use Rattle.wt_shards.proofs.Finds.{rising-landings}
use Rattle.wt_shards.proofs.Loads.{empty-landing, landing-place, limit-step}
use Rattle.wt_regions.specs.declared.caps.Caps.{Caps}
use Rattle.wt_regions.specs.Slide.{KeepsAllButWindow}
use Rattle.wt_core.specs.declared.config.Config.{Config}
use Rattle.wt_shards.proofs.Told.{told_by}
use Rattle.wt_shards.proofs.Numbers.{step-to, taken-made}
use Rattle.wt_shards.proofs.Audits.{audited-recorded, landings-fit, noted, outline-still_open, reply-answers, rows-fit, shard_state-step}
use Rattle.wt_shards.proofs.shard.Shard.make_allowed.Goals as goal

pub make_room-requires-clause-rows : goal.make_room-requires-clause-rows
make_room-requires-clause-rows g c κs within =
    let K = g.row.K.Denot in
    let V = g.row.V.Denot in
    let eq = g.K.PartialEq.eq in
    let word = g.K.CacheKey.word in
    let measure = g.V.Weighs.measure in
    let answers = g.V.Answers.answers in
    let shards = g.S.ShardLedger.place.shards in
    let index = g.S.ShardLedger.place.index in
    let call = c.args.call in
    let now = c.args.self.now in
    let whole : IsAudited (members_by eq word measure answers) shards index now = c.steps-steps.ensures.audited in
    let same = (g.met.K.CacheKey g.world.𝓛 g.world.𝓜 g.world.𝓡 ((λ s x. x), (λ x. x), (λ x. x), λ x. x)).same in
    let fit = rows-fit eq same word measure answers shards index now call
    (c.steps_keep_counts.ensures now.core call) whole c.requires.allowed in
    omega (arith, fit, c.requires.rows)

pub change-requires-clause-rising : goal.change-requires-clause-rising
change-requires-clause-rising g c κs within =
    let b = c.self.inside in
    let whole = c.self.invariant.0 in
    rising-landings b.landings.items b.core.flights.rows whole.landed whole.state.lawful.flights.rising

pub change-requires-clause-room : goal.change-requires-clause-room
change-requires-clause-room g c κs within =
    let K = g.row.K.Denot in
    let V = g.row.V.Denot in
    let eq = g.K.PartialEq.eq in
    let word = g.K.CacheKey.word in
    let measure = g.V.Weighs.measure in
    let answers = g.V.Answers.answers in
    let shards = g.S.ShardLedger.place.shards in
    let index = g.S.ShardLedger.place.index in
    let call = c.args.call in
    let now = c.args.self.now in
    let opened = option_to_list c.args.opened in
    let b = c.self.inside in
    let inv = c.self.invariant in
    let s2 : Audited K V = record {
      config = b.config;
      core = b.core;
      lagging = b.lagging;
      records =
          b.ring.items;
      landings = b.landings.items;
      given = b.given;
    } in
    let e2 : s2 ≡ moved eq word measure (need c.args.rows now) now = c.self.view_is ∙ c.in-Ok.ensures.ok in
    let core2 : s2.core ≡ now.core = ap (λ (x : Audited K V). x.core) e2 in
    let allowed2 : refusal_of eq word measure s2.core call ≡ None =
    ap (λ (x : State K V). refusal_of eq word measure x call) core2 ∙ c.requires.allowed in
    let landed : map load_at (still_open eq call s2.landings ++ opened)
    ≡ map load_of (step eq word measure s2.core call).state.flights.rows =
    subst (λ (x : Audited K V). map load_at (still_open eq call x.landings ++ opened)
    ≡ map load_of (step eq word measure x.core call).state.flights.rows) (sym e2)
    (c.requires.landed c.steps-steps.ensures.audited) in
    let same = (g.met.K.CacheKey g.world.𝓛 g.world.𝓜 g.world.𝓡 ((λ s x. x), (λ x. x), (λ x. x), λ x. x)).same in
    let fit = rows-fit eq same word measure answers shards index s2 call (c.steps_keep_counts.ensures s2.core call) inv.0 allowed2 in
    let count = landings-fit (still_open eq call s2.landings ++ opened) (step eq word measure s2.core call).state.flights.rows landed in
    let as_noted : length (still_open eq c.shaded-noted.result b.landings.items ++ opened)
    ≡ length (still_open eq call b.landings.items ++ opened) =
    (λ i. length (still_open eq (c.shaded-noted.ensures i) b.landings.items ++ opened))
    ∙ (λ i. length (outline-still_open eq measure call b.landings.items i ++ opened)) in
    omega (arith, fit, count, as_noted, inv.2)

pub invariant_of-self-2 : goal.invariant_of-self-2
invariant_of-self-2 g c =
    let K = g.row.K.Denot in
    let V = g.row.V.Denot in
    let eq = g.K.PartialEq.eq in
    let word = g.K.CacheKey.word in
    let measure = g.V.Weighs.measure in
    let answers = g.V.Answers.answers in
    let shards = g.S.ShardLedger.place.shards in
    let index = g.S.ShardLedger.place.index in
    let call = c.args.call in
    let now = c.args.self.now in
    let opened = option_to_list c.args.opened in
    let b = c.self.inside in
    let inv = c.self.invariant in
    let s2 : Audited K V = record {
      config = b.config;
      core = b.core;
      lagging = b.lagging;
      records =
          b.ring.items;
      landings = b.landings.items;
      given = b.given;
    } in
    let e2 : s2 ≡ moved eq word measure (need c.args.rows now) now = c.self.view_is ∙ c.in-Ok.ensures.ok in
    let core2 : s2.core ≡ now.core = ap (λ (x : Audited K V). x.core) e2 in
    let allowed2 : refusal_of eq word measure s2.core call ≡ None =
    ap (λ (x : State K V). refusal_of eq word measure x call) core2 ∙ c.requires.allowed in
    let landed : map load_at (still_open eq call s2.landings ++ opened)
    ≡ map load_of (step eq word measure s2.core call).state.flights.rows =
    subst (λ (x : Audited K V). map load_at (still_open eq call x.landings ++ opened)
    ≡ map load_of (step eq word measure x.core call).state.flights.rows) (sym e2)
    (c.requires.landed c.steps-steps.ensures.audited) in
    let made = c.in-Ok-take_met.ensures.state ∙ ap (λ (m : Made K V). m.state) (taken-made eq word measure s2.core call allowed2) in
    let told = c.in-Ok-take_met.ensures.answer ∙ ap (λ (m : Made K V). m.reply) (taken-made eq word measure s2.core call allowed2) in
    let to = step-to eq word measure s2.core call in
    let rows : c.args.rows ≡ length (step eq word measure s2.core call).state.flights.rows = c.requires.rows
    ∙ ap (λ (x : State K V). length (step eq word measure x call).state.flights.rows) (sym core2) in
    let room : length s2.records + 1 + length (step eq word measure s2.core call).state.flights.rows ≤ places s2 =
    omega (
      arith,
      c.in-Ok.ensures.room,
      rows,
      ap (λ (x : Audited K V). length x.records) c.self.view_is,
      ap (λ (x : Audited K V). places x) c.self.view_is,
    ) in
    let records = ap (λ (x : Buffer (Call K Shade)). x.items) c.in-Ok-try_push_back.ensures.ok
    ∙ (λ i. b.ring.items ++ c.shaded-noted.ensures i ∷ []) in
    let landings = c.change.ensures.items
    ∙ (λ i. still_open eq (c.shaded-noted.ensures i) b.landings.items ++ opened)
    ∙ (λ i. outline-still_open eq measure call b.landings.items i ++ opened) in
    let whole = noted eq word measure answers shards index s2
    (record {
      config = b.config;
      core = c.take_met.new.self;
      lagging = b.lagging;
      records =
          c.try_push_back.new.self.items;
      landings = c.change.new.landings.items;
      given = b.given;
    }) call
    opened refl made refl records landings refl in
    let same = (g.met.K.CacheKey g.world.𝓛 g.world.𝓜 g.world.𝓡 ((λ s x. x), (λ x. x), (λ x. x), λ x. x)).same in
    let law = subst (λ (x : State K V). IsLawful eq measure x) made c.stats-stats.ensures.lawful in
    let state = shard_state-step eq same word measure answers shards index s2.core call inv.0.state c.requires.asked.0 law in
    let limit = limit-step eq word measure s2.core call ∙ inv.0.limit in
    let caps = subst (λ (x : State K V). KeepsAllButWindow s2.core.regions.caps x.regions.caps) made c.in-Ok-take_met.ensures.same in (
      subst (IsAudited (members_by eq word measure answers) shards index) (sym whole)
          (audited-recorded eq word measure answers shards index s2 call opened inv.0 allowed2 room state limit
          caps landed),
      ap (λ (x : Buffer (Call K Shade)). x.capacity) c.in-Ok-try_push_back.ensures.ok ∙ inv.1,
      omega (arith, c.change.ensures.capacity, inv.2),
      inv.3,
      omega (arith, c.count.ensures.steps, ap (λ (x : State K V). x.step) made, to.number, (λ i. (c.ledgers.view_is i).steps.total) ∙ inv.4),
      c.count.ensures.hits ∙ (λ i. ((λ j. (c.ledgers.view_is j).hits.total) ∙ inv.5) i + (if (c.hits.ensures ∙ ap is_hit told) i then 1 else 0))
          ∙ sym to.hits ∙ sym (ap (λ (x : State K V). x.counts.hits) made),
      (λ i. (c.ledgers.view_is i).steps_left.parts + b.given) ∙ inv.6,
      (λ i. (c.ledgers.view_is i).hits_left.parts + b.given) ∙ inv.7,
      (λ i. (c.ledgers.view_is i).steps_left.amount) ∙ inv.8,
      (λ i. (c.ledgers.view_is i).hits_left.amount) ∙ inv.9,
      inv.10,
    )

pub returns-clause-state : goal.returns-clause-state
returns-clause-state g c =
    let K = g.row.K.Denot in
    let V = g.row.V.Denot in
    let eq = g.K.PartialEq.eq in
    let word = g.K.CacheKey.word in
    let measure = g.V.Weighs.measure in
    let answers = g.V.Answers.answers in
    let shards = g.S.ShardLedger.place.shards in
    let index = g.S.ShardLedger.place.index in
    let call = c.args.call in
    let now = c.args.self.now in
    let opened = option_to_list c.args.opened in
    let b = c.self.inside in
    let inv = c.self.invariant in
    let s2 : Audited K V = record {
      config = b.config;
      core = b.core;
      lagging = b.lagging;
      records =
          b.ring.items;
      landings = b.landings.items;
      given = b.given;
    } in
    let e2 : s2 ≡ moved eq word measure (need c.args.rows now) now = c.self.view_is ∙ c.in-Ok.ensures.ok in
    let core2 : s2.core ≡ now.core = ap (λ (x : Audited K V). x.core) e2 in
    let allowed2 : refusal_of eq word measure s2.core call ≡ None =
    ap (λ (x : State K V). refusal_of eq word measure x call) core2 ∙ c.requires.allowed in
    let made = c.in-Ok-take_met.ensures.state ∙ ap (λ (m : Made K V). m.state) (taken-made eq word measure s2.core call allowed2) in
    let rows : c.args.rows ≡ length (step eq word measure s2.core call).state.flights.rows = c.requires.rows
    ∙ ap (λ (x : State K V). length (step eq word measure x call).state.flights.rows) (sym core2) in
    let room : length s2.records + 1 + length (step eq word measure s2.core call).state.flights.rows ≤ places s2 =
    omega (
      arith,
      c.in-Ok.ensures.room,
      rows,
      ap (λ (x : Audited K V). length x.records) c.self.view_is,
      ap (λ (x : Audited K V). places x) c.self.view_is,
    ) in
    let records = ap (λ (x : Buffer (Call K Shade)). x.items) c.in-Ok-try_push_back.ensures.ok
    ∙ (λ i. b.ring.items ++ c.shaded-noted.ensures i ∷ []) in
    let landings = c.change.ensures.items
    ∙ (λ i. still_open eq (c.shaded-noted.ensures i) b.landings.items ++ opened)
    ∙ (λ i. outline-still_open eq measure call b.landings.items i ++ opened) in
    let whole = noted eq word measure answers shards index s2
    (record {
      config = b.config;
      core = c.take_met.new.self;
      lagging = b.lagging;
      records =
          c.try_push_back.new.self.items;
      landings = c.change.new.landings.items;
      given = b.given;
    }) call
    opened refl made refl records landings refl in
    whole ∙ ap (recorded eq word measure call opened) (e2 ∙ ap (λ k. moved eq word measure (need k now) now) c.requires.rows)

pub returns-clause-answers : goal.returns-clause-answers
returns-clause-answers g c =
    let K = g.row.K.Denot in
    let V = g.row.V.Denot in
    let eq = g.K.PartialEq.eq in
    let word = g.K.CacheKey.word in
    let measure = g.V.Weighs.measure in
    let answers = g.V.Answers.answers in
    let shards = g.S.ShardLedger.place.shards in
    let index = g.S.ShardLedger.place.index in
    let call = c.args.call in
    let now = c.args.self.now in
    let b = c.self.inside in
    let inv = c.self.invariant in
    let s2 : Audited K V = record {
      config = b.config;
      core = b.core;
      lagging = b.lagging;
      records =
          b.ring.items;
      landings = b.landings.items;
      given = b.given;
    } in
    let e2 : s2 ≡ moved eq word measure (need c.args.rows now) now = c.self.view_is ∙ c.in-Ok.ensures.ok in
    let core2 : s2.core ≡ now.core = ap (λ (x : Audited K V). x.core) e2 in
    let allowed2 : refusal_of eq word measure s2.core call ≡ None =
    ap (λ (x : State K V). refusal_of eq word measure x call) core2 ∙ c.requires.allowed in
    let told = c.in-Ok-take_met.ensures.answer ∙ ap (λ (m : Made K V). m.reply) (taken-made eq word measure s2.core call allowed2) in
    let same = (g.met.K.CacheKey g.world.𝓛 g.world.𝓜 g.world.𝓡 ((λ s x. x), (λ x. x), (λ x. x), λ x. x)).same in
    subst (AnswersAsked answers call) (sym told) (reply-answers eq same word measure answers shards index s2.core call inv.0.state.values)

pub returns-clause-place : goal.returns-clause-place
returns-clause-place g c =
    let eq = g.K.PartialEq.eq in
    let word = g.K.CacheKey.word in
    let measure = g.V.Weighs.measure in
    let answers = g.V.Answers.answers in
    let shards = g.S.ShardLedger.place.shards in
    let index = g.S.ShardLedger.place.index in
    let call = c.args.call in
    let now = c.args.self.now in
    let whole : IsAudited (members_by eq word measure answers) shards index now = c.steps-steps.ensures.audited in
    λ landing. landing-place eq word measure now.core call (length now.records)
    (places now) landing whole.state.lawful.flights.rising whole.room

pub returns-in_default-clause-place : goal.returns-in_default-clause-place
returns-in_default-clause-place g c =
    let eq = g.K.PartialEq.eq in
    let word = g.K.CacheKey.word in
    let measure = g.V.Weighs.measure in
    let answers = g.V.Answers.answers in
    let shards = g.S.ShardLedger.place.shards in
    let index = g.S.ShardLedger.place.index in
    let call = c.args.call in
    let now = c.args.self.now in
    let whole : IsAudited (members_by eq word measure answers) shards index now = c.steps-steps.ensures.audited in
    λ landing. landing-place eq word measure now.core call (length now.records)
    (places now) landing whole.state.lawful.flights.rising whole.room

pub returns-in_default-take_met-clause-place : goal.returns-in_default-take_met-clause-place
returns-in_default-take_met-clause-place g c =
    let eq = g.K.PartialEq.eq in
    let word = g.K.CacheKey.word in
    let measure = g.V.Weighs.measure in
    let answers = g.V.Answers.answers in
    let shards = g.S.ShardLedger.place.shards in
    let index = g.S.ShardLedger.place.index in
    let call = c.args.call in
    let now = c.args.self.now in
    let whole : IsAudited (members_by eq word measure answers) shards index now = c.steps-steps.ensures.audited in
    λ landing. landing-place eq word measure now.core call (length now.records)
    (places now) landing whole.state.lawful.flights.rising whole.room

pub returns-in_default-clause-empty_succeeds : goal.returns-in_default-clause-empty_succeeds
returns-in_default-clause-empty_succeeds g c =
    let eq = g.K.PartialEq.eq in
    let word = g.K.CacheKey.word in
    let measure = g.V.Weighs.measure in
    let answers = g.V.Answers.answers in
    let shards = g.S.ShardLedger.place.shards in
    let index = g.S.ShardLedger.place.index in
    let call = c.args.call in
    let now = c.args.self.now in
    let whole : IsAudited (members_by eq word measure answers) shards index now = c.steps-steps.ensures.audited in
    λ empty.
    let none = landing-place eq word measure now.core call (length now.records) (places now)
    (empty-landing eq word measure now.core call empty) whole.state.lawful.flights.rising whole.room in
    let made = c.make_room.ensures.none_succeeds (ap (λ k. need k now) c.requires.rows ∙ none) in
    sym (ap is_ok c.in_default.is) ∙ made

pub returns-clause-later : goal.returns-clause-later
returns-clause-later g c =
    let K = g.row.K.Denot in
    let V = g.row.V.Denot in
    let eq = g.K.PartialEq.eq in
    let word = g.K.CacheKey.word in
    let measure = g.V.Weighs.measure in
    let call = c.args.call in
    let now = c.args.self.now in
    let b = c.self.inside in
    let inv = c.self.invariant in
    let s2 : Audited K V = record {
      config = b.config;
      core = b.core;
      lagging = b.lagging;
      records =
          b.ring.items;
      landings = b.landings.items;
      given = b.given;
    } in
    let e2 : s2 ≡ moved eq word measure (need c.args.rows now) now = c.self.view_is ∙ c.in-Ok.ensures.ok in
    let core2 : s2.core ≡ now.core = ap (λ (x : Audited K V). x.core) e2 in
    let allowed2 : refusal_of eq word measure s2.core call ≡ None =
    ap (λ (x : State K V). refusal_of eq word measure x call) core2 ∙ c.requires.allowed in
    let made = c.in-Ok-take_met.ensures.state ∙ ap (λ (m : Made K V). m.state) (taken-made eq word measure s2.core call allowed2) in
    let to = step-to eq word measure s2.core call in
    let core_step : s2.core.step ≡ now.core.step = ap (λ (x : State K V). x.step) core2 in
    (omega (arith, c.count.ensures.later, (λ i. (c.ledgers.view_is i).steps.total) ∙ inv.4, core_step), omega (arith, ap (λ (x : State K V). x.step) made, to.number, core_step))

pub returns-clause-told : goal.returns-clause-told
returns-clause-told g c =
    let K = g.row.K.Denot in
    let V = g.row.V.Denot in
    let eq = g.K.PartialEq.eq in
    let word = g.K.CacheKey.word in
    let measure = g.V.Weighs.measure in
    let call = c.args.call in
    let now = c.args.self.now in
    let b = c.self.inside in
    let inv = c.self.invariant in
    let s2 : Audited K V = record {
      config = b.config;
      core = b.core;
      lagging = b.lagging;
      records =
          b.ring.items;
      landings = b.landings.items;
      given = b.given;
    } in
    let e2 : s2 ≡ moved eq word measure (need c.args.rows now) now = c.self.view_is ∙ c.in-Ok.ensures.ok in
    let core2 : s2.core ≡ now.core = ap (λ (x : Audited K V). x.core) e2 in
    let allowed2 : refusal_of eq word measure s2.core call ≡ None =
    ap (λ (x : State K V). refusal_of eq word measure x call) core2 ∙ c.requires.allowed in
    let few = c.steps_tell_few.ensures s2.core call inv.0.state.lawful allowed2 in
    told_by _ _ _ _ c.in-Ok-take_met.ensures.notices
    (omega (
      arith,
      few,
      ap (λ (m : Made K V). length m.notices)
          (taken-made eq word measure s2.core call allowed2),
      ap (λ (x : Caps). x.entries) inv.0.caps,
      ap (λ (x : Config). x.entries) inv.10,
    )) c.in-Ok-take_met.ensures.whole
