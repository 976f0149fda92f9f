use Rattle.std.proofs.Common.{◌≡◌, ◌∙◌, Some, inl, refl, ap, sym, subst}
use Rattle.std.specs.Prelude.{IsSome}
use Rattle.wt_flights.specs.Outcomes.{IsRefusalOf, Known, KnowsError}
use Rattle.wt_flights.specs.Published.{Publishes}
use Rattle.wt_cache.specs.Loads.{outcome_of, value_in}
use Rattle.wt_cache.proofs.Shares.{err_by, polled_led, published_led, waited_led}
use Rattle.wt_cache.proofs.Telling.{told_refusal, told_value}
use Rattle.wt_cache.proofs.cache.LoadingCache.load.Goals as goal

pub returns-in-Some-2-clause-made : goal.returns-in-Some-2-clause-made
returns-in-Some-2-clause-made g c =
    let run = c.in-Some.ensures in
    let ticket = c.in-Published.ticket-is ∙ subst (λ p. Publishes c.args.lead (outcome_of run.loaded) p) c.in-Published.is run.published in
    let known = ap (λ (t : Known g.row.K.Denot g.row.V.Denot). t.known) ticket in
    let kept = c.poll.ensures.keeps (subst IsSome (sym known) refl) in
    let same : c.in-Some-2.outcome ≡ outcome_of run.loaded = cc (c.in-Some-2.is, c.in_ok-outcome-in-Published.ensures.told, kept, known) in
    inl (record {
      loaded = run.loaded;
      landed = c.in-Some.ran.landed;
      run = run.landed;
      tells = told_value g.V.Answers.answers c.args.lead.key run.loaded c.in-Some.ran.landed c.in_ok-ran.field-0 _ c.in_ok-ran.was
          (c.led_by-in-Some-2.ensures.told ∙ ap value_in same);
    })

pub returns-in_err-outcome-in-Published-clause-made : goal.returns-in_err-outcome-in-Published-clause-made
returns-in_err-outcome-in-Published-clause-made g c =
    let run = c.in-Some.ensures in
    let poll = c.in_err-outcome-in-Published.ensures in
    let f = c.in_err-outcome-in-Published.field-0.0 in
    let ticket = c.in-Published.ticket-is ∙ subst (λ p. Publishes c.args.lead (outcome_of run.loaded) p) c.in-Published.is run.published in
    let known = ap (λ (t : Known g.row.K.Denot g.row.V.Denot). t.known) ticket in
    let now = poll.keeps (subst IsSome (sym known) refl) ∙ known in
    let of_key = subst (λ k. IsRefusalOf g.V.Answers.answers k c.poll.new.self.known f) (ap (λ (t : Known g.row.K.Denot g.row.V.Denot). t.key) ticket) poll.refusal in
    inl (record {
      loaded = run.loaded;
      landed = c.in-Some.ran.landed;
      run = run.landed;
      tells = told_refusal g.V.Answers.answers c.args.lead.key run.loaded c.in-Some.ran.landed c.in_ok-ran.field-0 _ f c.in_ok-ran.was
          run.landed.fits (subst (λ o. IsRefusalOf g.V.Answers.answers c.args.lead.key o f) now of_key)
          (λ bad. cc (poll.error_succeeds (subst KnowsError (sym now) bad)))
          (err_by (λ h. h ≡ f) _ c.from_residual-in_err-outcome-in-Published.ensures.1);
    })

pub returns-in-Some-2-clause-told : goal.returns-in-Some-2-clause-told
returns-in-Some-2-clause-told g c =
    let run = c.in-Some.ensures in
    let ticket = c.in-Published.ticket-is ∙ subst (λ p. Publishes c.args.lead (outcome_of run.loaded) p) c.in-Published.is run.published in
    let known = ap (λ (t : Known g.row.K.Denot g.row.V.Denot). t.known) ticket in
    let kept = c.poll.ensures.keeps (subst IsSome (sym known) refl) in
    let same : c.in-Some-2.outcome ≡ outcome_of run.loaded = cc (c.in-Some-2.is, c.in_ok-outcome-in-Published.ensures.told, kept, known) in
    published_led c.args.lead c.in-Some-2.outcome _ _ c.led_by-in-Some-2.ensures.told c.led_by-in-Some-2.ensures.ticket
    (polled_led c.args.lead _ _ _ _ c.poll.ensures.same kept ticket same)
