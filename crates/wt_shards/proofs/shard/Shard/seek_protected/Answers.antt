use Rattle.std.proofs.Common.{arith, ◌≡◌, ℕ, zero, suc, ◌+◌, ◌-◌, ◌<◌, ◌≤◌, true, false, true≢false, List, ◌∷◌, [], length, None, inr, refl, sym, ap, ◌∙◌, subst, append-nil}
use Rattle.std.specs.Prelude.{if◌then◌else◌}
use Rattle.circular_buffer.specs.Buffer.{Buffer}
use Rattle.wt_regions.specs.declared.caps.Caps.{Caps}
use Rattle.wt_regions.specs.declared.notices.Notice.{Notice}
use Rattle.wt_regions.specs.Notices.{NoticeList, appended}
use Rattle.wt_regions.specs.Slide.{KeepsAllButWindow}
use Rattle.wt_flights.specs.Rows.{Flights}
use Rattle.wt_core.specs.declared.calls.Call.{Call}
use Rattle.wt_core.specs.declared.calls.Call.TheVariants.{Seek}
use Rattle.wt_core.specs.declared.calls.Reply.{Reply}
use Rattle.wt_core.specs.declared.calls.Reply.TheVariants.{Hit}
use Rattle.wt_core.specs.Lawful.{IsLawful}
use Rattle.wt_core.specs.State.{State}
use Rattle.wt_core.proofs.Slid.{all-kept}
use Rattle.wt_core.specs.Step.{refusal_of, step}
use Rattle.wt_shards.specs.declared.shade.Shade.{Shade}
use Rattle.wt_shards.specs.Asked.{AnswersAsked}
use Rattle.wt_shards.specs.Audited.{Audited, IsAudited, excess, moved, need, places, recorded}
use Rattle.wt_shards.specs.Counts.{is_hit}
use Rattle.wt_shards.specs.Members.{members_by}
use Rattle.wt_shards.proofs.Audits.{audited-recorded, few_records, noted, reply-answers, shard_state-step}
use Rattle.wt_shards.proofs.Loads.{limit-step, nil-right}
use Rattle.wt_shards.proofs.Numbers.{step-to}
use Rattle.wt_shards.proofs.Seeks.{hit-flights, landed-found, seek-rows}
use Rattle.wt_shards.proofs.Told.{told_none}
use Rattle.wt_shards.proofs.shard.Shard.seek_protected.Goals as goal

-- a list with nothing appended
appended-none : {K V : Type 0} (list : NoticeList K V) → list ≡ appended [] list
appended-none list =
    let room : list.room ≡ list.room - 0 = omega arith in
    let same = sym (append-nil list.list) in
    λ i. record { list = same i; room = room i }

-- what isn't none
above-none : (n : ℕ) → (n ≡ 0 → false ≡ true) → 0 < n
above-none zero never = absurd (true≢false (sym (never refl)))
above-none (suc n) never = omega arith

pub returns-in_default-make_room-clause-err : goal.returns-in_default-make_room-clause-err
returns-in_default-make_room-clause-err g c =
    let K = g.row.K.Denot in
    let V = g.row.V.Denot in
    let eq = g.K.PartialEq.eq in
    let word = g.K.CacheKey.word in
    let measure = g.V.Weighs.measure in
    let answers = g.V.Answers.answers in
    let shards = g.S.ShardLedger.place.shards in
    let index = g.S.ShardLedger.place.index in
    let key = c.args.key in
    let now = c.args.now in
    let call = Seek key now in
    let old = c.args.self.now in
    let core : c.self.inside.core ≡ old.core = ap (λ (x : Audited K V). x.core) c.self.view_is in
    let allowed : refusal_of eq word measure old.core call ≡ None =
    ap (λ (x : State K V). refusal_of eq word measure x call) (sym core) ∙ c.in-Some.ensures.allowed refl key now in
    let rows : c.in-Some.rows ≡ length old.core.flights.rows = c.in-Some.ensures.rows.0
    ∙ ap (λ (x : State K V). length x.flights.rows) core in
    let audited : IsAudited (members_by eq word measure answers) shards index old =
    subst (IsAudited (members_by eq word measure answers) shards index) c.self.view_is c.self.invariant.0 in
    let room : c.in-Some.rows ≤ old.config.flights =
    omega (arith, c.in-Some.ensures.rows.1, ap (λ (x : State K V). x.flights.limit) core, audited.limit) in
    let there : need c.in-Some.rows old ≤ length old.records = few_records eq word measure answers shards index old c.in-Some.rows audited room in
    let grown : length old.core.flights.rows ≤ length (step eq word measure old.core call).state.flights.rows =
    seek-rows eq key word measure old.core now in
    let few : need c.in-Some.rows old ≤ excess eq word measure call old = omega (arith, rows, grown) in
    let left = c.in_default-make_room.ensures.err in
    let some = above-none (need c.in-Some.rows old) c.in_default-make_room.ensures.none_succeeds in (
      (left.0, omega (arith, left.1, few), omega (arith, left.1, there), left.2),
      refl,
      allowed,
      omega (arith, some, few),
    )

pub returns-in_default-hit_protected-clause-missed : goal.returns-in_default-hit_protected-clause-missed
returns-in_default-hit_protected-clause-missed g c = λ none.
    let K = g.row.K.Denot in
    let V = g.row.V.Denot in
    let eq = g.K.PartialEq.eq in
    let word = g.K.CacheKey.word in
    let measure = g.V.Weighs.measure in
    let answers = g.V.Answers.answers in
    let shards = g.S.ShardLedger.place.shards in
    let index = g.S.ShardLedger.place.index in
    let key = c.args.key in
    let now = c.args.now in
    let call = Seek key now in
    let old = c.args.self.now in
    let core : c.self.inside.core ≡ old.core = ap (λ (x : Audited K V). x.core) c.self.view_is in
    let allowed : refusal_of eq word measure old.core call ≡ None =
    ap (λ (x : State K V). refusal_of eq word measure x call) (sym core) ∙ c.in-Some.ensures.allowed refl key now in
    let rows : c.in-Some.rows ≡ length old.core.flights.rows = c.in-Some.ensures.rows.0
    ∙ ap (λ (x : State K V). length x.flights.rows) core in
    let audited : IsAudited (members_by eq word measure answers) shards index old =
    subst (IsAudited (members_by eq word measure answers) shards index) c.self.view_is c.self.invariant.0 in
    let room : c.in-Some.rows ≤ old.config.flights =
    omega (arith, c.in-Some.ensures.rows.1, ap (λ (x : State K V). x.flights.limit) core, audited.limit) in
    let there : need c.in-Some.rows old ≤ length old.records = few_records eq word measure answers shards index old c.in-Some.rows audited room in
    let grown : length old.core.flights.rows ≤ length (step eq word measure old.core call).state.flights.rows =
    seek-rows eq key word measure old.core now in
    let few : need c.in-Some.rows old ≤ excess eq word measure call old = omega (arith, rows, grown) in
    let b = c.self-2.inside in
    let inv = c.self-2.invariant in
    let s2 : Audited K V = record {
      config = b.config;
      core = b.core;
      lagging = b.lagging;
      records =
          b.ring.items;
      landings = b.landings.items;
      given = b.given;
    } in
    let e2 : s2 ≡ moved eq word measure (need c.in-Some.rows old) old = c.self-2.view_is ∙ c.in-Ok.ensures.ok in
    let still : c.hit_protected.new.self ≡ b.core = c.in_default-hit_protected.ensures.missed refl in (
      (need c.in-Some.rows old, few, there, (λ i. record s2 { core = still i }) ∙ e2),
      refl,
      inr allowed,
    )

pub invariant_of-self-2 : goal.invariant_of-self-2
invariant_of-self-2 g c =
    let K = g.row.K.Denot in
    let V = g.row.V.Denot in
    let eq = g.K.PartialEq.eq in
    let word = g.K.CacheKey.word in
    let measure = g.V.Weighs.measure in
    let answers = g.V.Answers.answers in
    let shards = g.S.ShardLedger.place.shards in
    let index = g.S.ShardLedger.place.index in
    let key = c.args.key in
    let now = c.args.now in
    let call = Seek key now in
    let old = c.args.self.now in
    let core : c.self.inside.core ≡ old.core = ap (λ (x : Audited K V). x.core) c.self.view_is in
    let allowed : refusal_of eq word measure old.core call ≡ None =
    ap (λ (x : State K V). refusal_of eq word measure x call) (sym core) ∙ c.in-Some.ensures.allowed refl key now in
    let rows : c.in-Some.rows ≡ length old.core.flights.rows = c.in-Some.ensures.rows.0
    ∙ ap (λ (x : State K V). length x.flights.rows) core in
    let b = c.self-2.inside in
    let inv = c.self-2.invariant in
    let s2 : Audited K V = record {
      config = b.config;
      core = b.core;
      lagging = b.lagging;
      records =
          b.ring.items;
      landings = b.landings.items;
      given = b.given;
    } in
    let e2 : s2 ≡ moved eq word measure (need c.in-Some.rows old) old = c.self-2.view_is ∙ c.in-Ok.ensures.ok in
    let core2 : s2.core ≡ old.core = ap (λ (x : Audited K V). x.core) e2 in
    let made : c.hit_protected.new.self ≡ (step eq word measure s2.core call).state = c.in-Some-hit_protected.ensures.state refl in
    let told : (step eq word measure s2.core call).reply ≡ Hit c.in-Some-hit_protected.value = c.in-Some-hit_protected.ensures.answer in
    let allowed2 : refusal_of eq word measure s2.core call ≡ None = c.in-Some-hit_protected.ensures.allowed refl in
    let flights : (step eq word measure s2.core call).state.flights ≡ s2.core.flights = hit-flights eq key word measure s2.core now c.in-Some-hit_protected.value told in
    let opened : length (step eq word measure s2.core call).state.flights.rows ≡ c.in-Some.rows =
    ap (λ (t : Flights K). length t.rows) flights ∙ ap (λ (x : State K V). length x.flights.rows) core2 ∙ sym rows in
    let records = ap (λ (x : Buffer (Call K Shade)). x.items) c.in-Ok-try_push_back.ensures.ok in
    let whole = noted eq word measure answers shards index s2
    (record {
      config = b.config;
      core = c.hit_protected.new.self;
      lagging = b.lagging;
      records = c.try_push_back.new.self.items;
      landings = b.landings.items;
      given = b.given;
    }) call [] refl made refl records (sym (nil-right b.landings.items)) refl in
    let room : length s2.records + 1 + length (step eq word measure s2.core call).state.flights.rows ≤ places s2 =
    omega (
      arith,
      c.in-Ok.ensures.room,
      opened,
      ap (λ (x : Audited K V). length x.records) c.self-2.view_is,
      ap (λ (x : Audited K V). places x) c.self-2.view_is,
    ) in
    let same = (g.met.K.CacheKey g.world.𝓛 g.world.𝓜 g.world.𝓡 ((λ s x. x), (λ x. x), (λ x. x), λ x. x)).same in
    let to = step-to eq word measure s2.core call in
    let law = subst (λ (x : State K V). IsLawful eq measure x) made c.stats-stats.ensures.lawful in
    let state = shard_state-step eq same word measure answers shards index s2.core call inv.0.state c.requires.asked law in
    let limit = limit-step eq word measure s2.core call ∙ inv.0.limit in
    let caps = subst (λ (x : State K V). KeepsAllButWindow s2.core.regions.caps x.regions.caps) made
    (all-kept s2.core.regions.caps c.hit_protected.new.self.regions.caps c.in-Some-hit_protected.ensures.same) in
    let one = to.hits ∙ ap (λ (r : Reply V). s2.core.counts.hits + (if is_hit r then 1 else 0)) told in
    let landed = landed-found eq key word measure s2.core now b.landings.items inv.0.landed c.in-Some-hit_protected.value told in (
      subst (IsAudited (members_by eq word measure answers) shards index) (sym whole)
          (audited-recorded eq word measure answers shards index s2 call [] inv.0 allowed2 room state limit caps landed),
      ap (λ (x : Buffer (Call K Shade)). x.capacity) c.in-Ok-try_push_back.ensures.ok ∙ inv.1,
      inv.2,
      inv.3,
      omega (arith, c.count.ensures.steps, ap (λ (x : State K V). x.step) made, to.number, (λ i. (c.ledgers.view_is i).steps.total) ∙ inv.4),
      omega (arith, c.count.ensures.hits, ap (λ (x : State K V). x.counts.hits) made, one, (λ i. (c.ledgers.view_is i).hits.total) ∙ inv.5),
      (λ i. (c.ledgers.view_is i).steps_left.parts + b.given) ∙ inv.6,
      (λ i. (c.ledgers.view_is i).hits_left.parts + b.given) ∙ inv.7,
      (λ i. (c.ledgers.view_is i).steps_left.amount) ∙ inv.8,
      (λ i. (c.ledgers.view_is i).hits_left.amount) ∙ inv.9,
      inv.10,
    )

pub returns-clause-made : goal.returns-clause-made
returns-clause-made g c = λ list.
    let K = g.row.K.Denot in
    let V = g.row.V.Denot in
    let eq = g.K.PartialEq.eq in
    let word = g.K.CacheKey.word in
    let measure = g.V.Weighs.measure in
    let answers = g.V.Answers.answers in
    let shards = g.S.ShardLedger.place.shards in
    let index = g.S.ShardLedger.place.index in
    let key = c.args.key in
    let now = c.args.now in
    let call = Seek key now in
    let old = c.args.self.now in
    let core : c.self.inside.core ≡ old.core = ap (λ (x : Audited K V). x.core) c.self.view_is in
    let allowed : refusal_of eq word measure old.core call ≡ None =
    ap (λ (x : State K V). refusal_of eq word measure x call) (sym core) ∙ c.in-Some.ensures.allowed refl key now in
    let rows : c.in-Some.rows ≡ length old.core.flights.rows = c.in-Some.ensures.rows.0
    ∙ ap (λ (x : State K V). length x.flights.rows) core in
    let b = c.self-2.inside in
    let inv = c.self-2.invariant in
    let s2 : Audited K V = record {
      config = b.config;
      core = b.core;
      lagging = b.lagging;
      records =
          b.ring.items;
      landings = b.landings.items;
      given = b.given;
    } in
    let e2 : s2 ≡ moved eq word measure (need c.in-Some.rows old) old = c.self-2.view_is ∙ c.in-Ok.ensures.ok in
    let core2 : s2.core ≡ old.core = ap (λ (x : Audited K V). x.core) e2 in
    let made : c.hit_protected.new.self ≡ (step eq word measure s2.core call).state = c.in-Some-hit_protected.ensures.state refl in
    let told : (step eq word measure s2.core call).reply ≡ Hit c.in-Some-hit_protected.value = c.in-Some-hit_protected.ensures.answer in
    let allowed2 : refusal_of eq word measure s2.core call ≡ None = c.in-Some-hit_protected.ensures.allowed refl in
    let flights : (step eq word measure s2.core call).state.flights ≡ s2.core.flights = hit-flights eq key word measure s2.core now c.in-Some-hit_protected.value told in
    let opened : length (step eq word measure s2.core call).state.flights.rows ≡ c.in-Some.rows =
    ap (λ (t : Flights K). length t.rows) flights ∙ ap (λ (x : State K V). length x.flights.rows) core2 ∙ sym rows in
    let records = ap (λ (x : Buffer (Call K Shade)). x.items) c.in-Ok-try_push_back.ensures.ok in
    let whole = noted eq word measure answers shards index s2
    (record {
      config = b.config;
      core = c.hit_protected.new.self;
      lagging = b.lagging;
      records = c.try_push_back.new.self.items;
      landings = b.landings.items;
      given = b.given;
    }) call [] refl made refl records (sym (nil-right b.landings.items)) refl in
    let alike : need c.in-Some.rows old ≡ excess eq word measure call old =
    omega (arith, opened, ap (λ (x : State K V). length (step eq word measure x call).state.flights.rows) core2) in
    let to = step-to eq word measure s2.core call in
    let core_step : s2.core.step ≡ old.core.step = ap (λ (x : State K V). x.step) core2 in
    record {
      state = whole ∙ ap (recorded eq word measure call []) (e2 ∙ ap (λ n. moved eq word measure n old) alike);
      answer = sym (ap (λ (x : State K V). (step eq word measure x call).reply) (sym core2) ∙ told);
      notices = appended-none list ∙ ap (λ (ns : List (Notice K V)). appended ns list)
          (sym (ap (λ (x : State K V). (step eq word measure x call).notices) (sym core2) ∙ c.in-Some-hit_protected.ensures.notices refl));
      moved = c.count.ensures.moved;
      later = (
        omega (arith, c.count.ensures.later, (λ i. (c.ledgers.view_is i).steps.total) ∙ inv.4, core_step),
        omega (arith, ap (λ (x : State K V). x.step) made, to.number, core_step),
      );
      allowed = allowed;
      refusal = rw allowed tt;
      faults = tt;
      none_succeeds = λ ok takes alone none. refl;
      told = told_none _ _;
      err = tt;
    }

pub returns-clause-answers : goal.returns-clause-answers
returns-clause-answers g c =
    let K = g.row.K.Denot in
    let V = g.row.V.Denot in
    let eq = g.K.PartialEq.eq in
    let word = g.K.CacheKey.word in
    let measure = g.V.Weighs.measure in
    let answers = g.V.Answers.answers in
    let shards = g.S.ShardLedger.place.shards in
    let index = g.S.ShardLedger.place.index in
    let key = c.args.key in
    let now = c.args.now in
    let call = Seek key now in
    let old = c.args.self.now in
    let b = c.self-2.inside in
    let inv = c.self-2.invariant in
    let s2 : Audited K V = record {
      config = b.config;
      core = b.core;
      lagging = b.lagging;
      records =
          b.ring.items;
      landings = b.landings.items;
      given = b.given;
    } in
    let e2 : s2 ≡ moved eq word measure (need c.in-Some.rows old) old = c.self-2.view_is ∙ c.in-Ok.ensures.ok in
    let core2 : s2.core ≡ old.core = ap (λ (x : Audited K V). x.core) e2 in
    let made : c.hit_protected.new.self ≡ (step eq word measure s2.core call).state = c.in-Some-hit_protected.ensures.state refl in
    let told : (step eq word measure s2.core call).reply ≡ Hit c.in-Some-hit_protected.value = c.in-Some-hit_protected.ensures.answer in
    let allowed2 : refusal_of eq word measure s2.core call ≡ None = c.in-Some-hit_protected.ensures.allowed refl in
    let same = (g.met.K.CacheKey g.world.𝓛 g.world.𝓜 g.world.𝓡 ((λ s x. x), (λ x. x), (λ x. x), λ x. x)).same in
    subst (AnswersAsked answers call) told (reply-answers eq same word measure answers shards index s2.core call inv.0.state.values)
