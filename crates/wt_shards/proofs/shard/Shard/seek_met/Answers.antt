use Rattle.std.proofs.Common.{rules, arith, ◌≡◌, refl, sym, ap, ◌∙◌, subst, None}
use Rattle.std.specs.Prelude.{◌==◌, option_copied, IsSomeAnd}
use Rattle.std.specs.List.{find}
use Rattle.wt_flights.specs.Outcomes.{Known, Leading, ticket_of}
use Rattle.wt_core.specs.declared.calls.Foreseen.TheVariants as foreseen
use Rattle.wt_core.specs.declared.calls.Reply.{Reply}
use Rattle.wt_core.specs.declared.calls.Reply.TheVariants.{Join, Lead}
use Rattle.wt_core.specs.Seek.{foreseen_at}
use Rattle.wt_shards.specs.Audited.{Audited, IsAudited}
use Rattle.wt_shards.specs.Counts.{is_hit, plus_step}
use Rattle.wt_shards.specs.Members.{members_by}
use Rattle.wt_shards.proofs.Finds.{kept-id, rising-landings}
use Rattle.wt_shards.proofs.Loads.{nil-right}
use Rattle.wt_shards.proofs.Told.{told_none}
use Rattle.wt_shards.proofs.Seeks.{joined-landing, landed-hit, landed-hit_lead, landed-join, landed-lead, seek-foreseen}
use Rattle.wt_shards.proofs.shard.Shard.seek_met.Goals as goal

pub returns-in-Err-clause-made : goal.returns-in-Err-clause-made
returns-in-Err-clause-made g c = record {
  state = tt;
  answer = tt;
  notices = tt;
  moved = tt;
  later = tt;
  allowed = tt;
  refusal = search rules;
  faults = search rules;
  none_succeeds = λ allowed takes alone none. (let clash = sym (rw (← c.self.view_is) at allowed) ∙ c.in-Err.ensures.refusal in cc);
  told = told_none _ _;
  err = ((0, omega arith, refl), refl, refl);
}

pub make_allowed-requires-clause-landed : goal.make_allowed-requires-clause-landed
make_allowed-requires-clause-landed g c κs within =
    let K = g.row.K.Denot in
    let V = g.row.V.Denot in
    let eq = g.K.PartialEq.eq in
    let word = g.K.CacheKey.word in
    let measure = g.V.Weighs.measure in
    let key = c.args.key in
    let now = c.args.now in
    let s = c.args.self.now in
    let seen = ap (λ (x : Audited K V). foreseen_at eq key now x.core) (sym c.self.view_is) ∙ sym c.foresee-met.ensures.answer ∙ c.in-Hit.is in
    λ before. landed-hit eq key word measure s.core now s.landings before.landed seen

pub unreachable-requires : goal.unreachable-requires
unreachable-requires g c =
    let K = g.row.K.Denot in
    let V = g.row.V.Denot in
    let eq = g.K.PartialEq.eq in
    let word = g.K.CacheKey.word in
    let measure = g.V.Weighs.measure in
    let key = c.args.key in
    let now = c.args.now in
    let s = c.args.self.now in
    let seen = ap (λ (x : Audited K V). foreseen_at eq key now x.core) (sym c.self.view_is) ∙ sym c.foresee-met.ensures.answer ∙ c.in-Hit.is in
    let f = seek-foreseen eq key word measure s.core now foreseen.Hit seen in
    c.in_default.not-Hit f.0.0 (c.in_ok-reply-in-Hit.ensures.answer ∙ f.0.1)

pub find_kept-requires : goal.find_kept-requires
find_kept-requires g c =
    let a = c.self.inside in
    let whole = c.self.invariant.0 in
    record { rising = rising-landings a.landings.items a.core.flights.rows whole.landed whole.state.lawful.flights.rising }

pub unreachable-requires-in_default-find_kept : goal.unreachable-requires-in_default-find_kept
unreachable-requires-in_default-find_kept g c =
    let K = g.row.K.Denot in
    let V = g.row.V.Denot in
    let eq = g.K.PartialEq.eq in
    let word = g.K.CacheKey.word in
    let measure = g.V.Weighs.measure in
    let key = c.args.key in
    let now = c.args.now in
    let s = c.args.self.now in
    let seen = ap (λ (x : Audited K V). foreseen_at eq key now x.core) (sym c.self.view_is) ∙ sym c.foresee-met.ensures.answer ∙ c.in-Join.is in
    let same = (g.met.K.CacheKey g.world.𝓛 g.world.𝓜 g.world.𝓡 ((λ s x. x), (λ x. x), (λ x. x), λ x. x)).same in
    let whole : IsAudited (members_by eq word measure g.V.Answers.answers) g.S.ShardLedger.place.shards
    g.S.ShardLedger.place.index s =
    subst (IsAudited (members_by eq word measure g.V.Answers.answers) g.S.ShardLedger.place.shards
    g.S.ShardLedger.place.index) c.self.view_is c.self.invariant.0 in
    let id = c.in-Join.id in
    let f = seek-foreseen eq key word measure s.core now (foreseen.Join id) seen in
    let there = joined-landing eq key id same s.core.flights s.landings whole.landed whole.state.lawful.flights.rising f.1 in
    let items : c.self.inside.landings.items ≡ s.landings = ap (λ (x : Audited K V). x.landings) c.self.view_is in
    let search_is = c.find_kept.ensures ∙ (λ i. find (λ (x : Leading K). x.id == id) (items i)) ∙ there.1 in
    let clash = sym (ap option_copied c.in_default-find_kept.is) ∙ search_is in
    cc

pub make_allowed-requires-in-Join-clause-landed : goal.make_allowed-requires-in-Join-clause-landed
make_allowed-requires-in-Join-clause-landed g c κs within =
    let K = g.row.K.Denot in
    let V = g.row.V.Denot in
    let eq = g.K.PartialEq.eq in
    let word = g.K.CacheKey.word in
    let measure = g.V.Weighs.measure in
    let key = c.args.key in
    let now = c.args.now in
    let s = c.args.self.now in
    let seen = ap (λ (x : Audited K V). foreseen_at eq key now x.core) (sym c.self.view_is) ∙ sym c.foresee-met.ensures.answer ∙ c.in-Join.is in
    λ before. landed-join eq key word measure s.core now s.landings before.landed c.in-Join.id seen

pub make_allowed-requires-in-Lead-clause-landed : goal.make_allowed-requires-in-Lead-clause-landed
make_allowed-requires-in-Lead-clause-landed g c κs within =
    let K = g.row.K.Denot in
    let V = g.row.V.Denot in
    let eq = g.K.PartialEq.eq in
    let word = g.K.CacheKey.word in
    let measure = g.V.Weighs.measure in
    let key = c.args.key in
    let now = c.args.now in
    let s = c.args.self.now in
    let seen = ap (λ (x : Audited K V). foreseen_at eq key now x.core) (sym c.self.view_is) ∙ sym c.foresee-met.ensures.answer ∙ c.in-Lead.is in
    let kept = c.in-Ok-start.ensures.landing in
    let lead = c.in-Ok-start.ensures.lead in
    λ before. landed-lead eq key word measure s.core now s.landings before.landed c.in-Lead.id c.in-Ok-start.kept
    seen (ap (λ (l : Leading K). l.id) kept ∙ lead.0) (ap (λ (l : Leading K). l.key) kept ∙ lead.1)

pub make_allowed-requires-in-HitLead-clause-landed : goal.make_allowed-requires-in-HitLead-clause-landed
make_allowed-requires-in-HitLead-clause-landed g c κs within =
    let K = g.row.K.Denot in
    let V = g.row.V.Denot in
    let eq = g.K.PartialEq.eq in
    let word = g.K.CacheKey.word in
    let measure = g.V.Weighs.measure in
    let key = c.args.key in
    let now = c.args.now in
    let s = c.args.self.now in
    let seen = ap (λ (x : Audited K V). foreseen_at eq key now x.core) (sym c.self.view_is) ∙ sym c.foresee-met.ensures.answer ∙ c.in-HitLead.is in
    let kept = c.in-Ok-start-2.ensures.landing in
    let lead = c.in-Ok-start-2.ensures.lead in
    λ before. landed-hit_lead eq key word measure s.core now s.landings before.landed c.in-HitLead.id
    c.in-Ok-start-2.kept seen (ap (λ (l : Leading K). l.id) kept ∙ lead.0)
    (ap (λ (l : Leading K). l.key) kept ∙ lead.1)

pub unreachable-requires-in_default-reply : goal.unreachable-requires-in_default-reply
unreachable-requires-in_default-reply g c =
    let K = g.row.K.Denot in
    let V = g.row.V.Denot in
    let eq = g.K.PartialEq.eq in
    let word = g.K.CacheKey.word in
    let measure = g.V.Weighs.measure in
    let key = c.args.key in
    let now = c.args.now in
    let s = c.args.self.now in
    let seen = ap (λ (x : Audited K V). foreseen_at eq key now x.core) (sym c.self.view_is) ∙ sym c.foresee-met.ensures.answer ∙ c.in-HitLead.is in
    let f = seek-foreseen eq key word measure s.core now (foreseen.HitLead c.in-HitLead.id) seen in
    c.in_default-reply.not-HitLead f.0.0 c.in-HitLead.id (c.in_ok-reply-in-HitLead.ensures.answer ∙ f.0.1)

pub returns-in_ok-make_allowed-in-Join-clause-made : goal.returns-in_ok-make_allowed-in-Join-clause-made
returns-in_ok-make_allowed-in-Join-clause-made g c =
    let K = g.row.K.Denot in
    let V = g.row.V.Denot in
    let eq = g.K.PartialEq.eq in
    let word = g.K.CacheKey.word in
    let measure = g.V.Weighs.measure in
    let key = c.args.key in
    let now = c.args.now in
    let s = c.args.self.now in
    let seen = ap (λ (x : Audited K V). foreseen_at eq key now x.core) (sym c.self.view_is) ∙ sym c.foresee-met.ensures.answer ∙ c.in-Join.is in
    let same = (g.met.K.CacheKey g.world.𝓛 g.world.𝓜 g.world.𝓡 ((λ s x. x), (λ x. x), (λ x. x), λ x. x)).same in
    let whole : IsAudited (members_by eq word measure g.V.Answers.answers) g.S.ShardLedger.place.shards
    g.S.ShardLedger.place.index s =
    subst (IsAudited (members_by eq word measure g.V.Answers.answers) g.S.ShardLedger.place.shards
    g.S.ShardLedger.place.index) c.self.view_is c.self.invariant.0 in
    let id = c.in-Join.id in
    let f = seek-foreseen eq key word measure s.core now (foreseen.Join id) seen in
    let there = joined-landing eq key id same s.core.flights s.landings whole.landed whole.state.lawful.flights.rising f.1 in
    let items : c.self.inside.landings.items ≡ s.landings = ap (λ (x : Audited K V). x.landings) c.self.view_is in
    let search_is = c.find_kept.ensures ∙ (λ i. find (λ (x : Leading K). x.id == id) (items i)) ∙ there.1 in
    let kept : c.in-Some.kept.now ≡ there.0 = (let both = sym (ap option_copied c.in-Some.is) ∙ search_is in cc) in
    let of_id : there.0.id ≡ id = kept-id id s.landings there.0 there.1 in
    let ticket : c.in-Ok-ticket.ticket ≡ ticket_of there.0 None = c.in-Ok-ticket.ensures ∙ ap (λ (l : Leading K). ticket_of l None) kept in
    let ticket_id : c.in-Ok-ticket.ticket.id ≡ id = ap (λ (t : Known K V). t.id) ticket ∙ of_id in
    record {
      state = c.in_ok-make_allowed-in-Join.ensures.state;
      answer = ap (λ x. Join x) ticket_id ∙ sym f.0;
      notices = c.in_ok-make_allowed-in-Join.ensures.notices;
      moved = c.in_ok-make_allowed-in-Join.ensures.moved
          ∙ ap (λ (r : Reply V). plus_step (is_hit r) c.args.shares.now)
          (c.in_ok-make_allowed-in-Join.ensures.answer ∙ f.0);
      later = c.in_ok-make_allowed-in-Join.ensures.later;
      allowed = search rules;
      refusal = search rules;
      faults = tt;
      none_succeeds = λ _ _ _ _. refl;
      told = c.in_ok-make_allowed-in-Join.ensures.told;
      err = tt;
    }

pub returns-in_ok-make_allowed-in-Join-clause-landings : goal.returns-in_ok-make_allowed-in-Join-clause-landings
returns-in_ok-make_allowed-in-Join-clause-landings g c =
    let K = g.row.K.Denot in
    let V = g.row.V.Denot in
    let eq = g.K.PartialEq.eq in
    let word = g.K.CacheKey.word in
    let measure = g.V.Weighs.measure in
    let key = c.args.key in
    let now = c.args.now in
    let s = c.args.self.now in
    let seen = ap (λ (x : Audited K V). foreseen_at eq key now x.core) (sym c.self.view_is) ∙ sym c.foresee-met.ensures.answer ∙ c.in-Join.is in
    let same = (g.met.K.CacheKey g.world.𝓛 g.world.𝓜 g.world.𝓡 ((λ s x. x), (λ x. x), (λ x. x), λ x. x)).same in
    let whole : IsAudited (members_by eq word measure g.V.Answers.answers) g.S.ShardLedger.place.shards
    g.S.ShardLedger.place.index s =
    subst (IsAudited (members_by eq word measure g.V.Answers.answers) g.S.ShardLedger.place.shards
    g.S.ShardLedger.place.index) c.self.view_is c.self.invariant.0 in
    let id = c.in-Join.id in
    let f = seek-foreseen eq key word measure s.core now (foreseen.Join id) seen in
    let there = joined-landing eq key id same s.core.flights s.landings whole.landed whole.state.lawful.flights.rising f.1 in
    let items : c.self.inside.landings.items ≡ s.landings = ap (λ (x : Audited K V). x.landings) c.self.view_is in
    let search_is = c.find_kept.ensures ∙ (λ i. find (λ (x : Leading K). x.id == id) (items i)) ∙ there.1 in
    let kept : c.in-Some.kept.now ≡ there.0 = (let both = sym (ap option_copied c.in-Some.is) ∙ search_is in cc) in
    let of_id : there.0.id ≡ id = kept-id id s.landings there.0 there.1 in
    let ticket : c.in-Ok-ticket.ticket ≡ ticket_of there.0 None = c.in-Ok-ticket.ensures ∙ ap (λ (l : Leading K). ticket_of l None) kept in
    let ticket_id : c.in-Ok-ticket.ticket.id ≡ id = ap (λ (t : Known K V). t.id) ticket ∙ of_id in
    let landings = ap (λ (x : Audited K V). x.landings) c.in_ok-make_allowed-in-Join.ensures.state ∙ nil-right s.landings in
    let found = (λ i. find (λ (x : Leading K). x.id == ticket_id i) (landings i)) ∙ there.1 in (
      ap (λ (t : Known K V). t.key) ticket ∙ there.2,
      subst (λ o. IsSomeAnd o (λ l. c.in-Ok-ticket.ticket ≡ ticket_of l None)) (sym found) ticket,
    )

pub returns-in_ok-make_allowed-in-Lead-clause-made : goal.returns-in_ok-make_allowed-in-Lead-clause-made
returns-in_ok-make_allowed-in-Lead-clause-made g c =
    let K = g.row.K.Denot in
    let V = g.row.V.Denot in
    let eq = g.K.PartialEq.eq in
    let word = g.K.CacheKey.word in
    let measure = g.V.Weighs.measure in
    let key = c.args.key in
    let now = c.args.now in
    let s = c.args.self.now in
    let seen = ap (λ (x : Audited K V). foreseen_at eq key now x.core) (sym c.self.view_is) ∙ sym c.foresee-met.ensures.answer ∙ c.in-Lead.is in
    let f = seek-foreseen eq key word measure s.core now (foreseen.Lead c.in-Lead.id) seen in
    record {
      state = search rules;
      answer = ap (λ x. Lead x) c.in-Ok-start.ensures.lead.0 ∙ sym f.0;
      notices = c.in_ok-make_allowed-in-Lead.ensures.notices;
      moved = c.in_ok-make_allowed-in-Lead.ensures.moved
          ∙ ap (λ (r : Reply V). plus_step (is_hit r) c.args.shares.now)
          (c.in_ok-make_allowed-in-Lead.ensures.answer ∙ f.0);
      later = c.in_ok-make_allowed-in-Lead.ensures.later;
      allowed = search rules;
      refusal = search rules;
      faults = tt;
      none_succeeds = λ _ _ _ _. refl;
      told = c.in_ok-make_allowed-in-Lead.ensures.told;
      err = tt;
    }
