use Rattle.std.proofs.Common.{◌≡◌, None, refl, sym, ap, ◌∙◌, subst}
use Rattle.wt_flights.specs.Rows.{no_flights}
use Rattle.wt_regions.specs.Lists.{no_entries}
use Rattle.wt_core.specs.State.{State, caps_of, config_fault, nothing_happened, opening}
use Rattle.wt_core.specs.Lawful.{IsCounted}
use Rattle.wt_core.proofs.Hits.{state_of}
use Rattle.wt_core.proofs.Ranges.{counted-opened}
use Rattle.wt_core.proofs.sequential.Core.new.Goals as goal

pub invariant_of-result : goal.invariant_of-result
invariant_of-result g c =
    let right : config_fault c.args.config.now ≡ None = sym c.fault.ensures ∙ c.in_default.is in
    let flights : c.in-Ok-new-2.flights ≡ no_flights c.args.config.now.flights = c.in-Ok-new-2.ensures.ok in
    let regions : c.in-Ok.regions ≡ no_entries (caps_of c.args.config.now) = c.in-Ok.ensures.ok ∙ ap no_entries c.caps.ensures in
    let opened : State g.row.K.Denot g.row.V.Denot = opening c.args.config.now in
    let is : state_of c.in-Ok.regions c.in-Ok-new.sketch c.in-Ok-new-2.flights nothing_happened 0 0 ≡ opened =
    λ i. state_of (regions i) (c.in-Ok-new.ensures.ok i) (flights i) nothing_happened 0 0 in
    let law : IsCounted opened = counted-opened c.args.config.now right in
    (subst IsCounted (sym is) law, rw regions refl, rw flights refl)

pub returns-clause-ok : goal.returns-clause-ok
returns-clause-ok g c =
    let right : config_fault c.args.config.now ≡ None = sym c.fault.ensures ∙ c.in_default.is in
    let flights : c.in-Ok-new-2.flights ≡ no_flights c.args.config.now.flights = c.in-Ok-new-2.ensures.ok in
    let regions : c.in-Ok.regions ≡ no_entries (caps_of c.args.config.now) = c.in-Ok.ensures.ok ∙ ap no_entries c.caps.ensures in
    λ i. state_of (regions i) (c.in-Ok-new.ensures.ok i) (flights i) nothing_happened 0 0
