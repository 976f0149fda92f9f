use Rattle.std.proofs.Common.{refl, sym, ◌∙◌, arith}
use Rattle.wt_core.proofs.Opens.{land-rows}
use Rattle.wt_core.proofs.Stored.{land-taken}
use Rattle.wt_core.proofs.sequential.Core.open_after.Goals as goal

pub returns-in-Some-clause-allowed : goal.returns-in-Some-clause-allowed
returns-in-Some-clause-allowed g c =
    let eq = g.K.PartialEq.eq in
    let word = g.K.CacheKey.word in
    let measure = g.V.Weighs.measure in
    let found = sym c.row_of.ensures ∙ c.in-Some.is in
    let less = land-rows eq word measure c.in-Land.key c.args.self.now c.in-Land.id c.in-Land.field-2 c.in-Land.field-3
    c.in-Some.field-0 found c.stats-stats.ensures.lawful.flights.rising in
    rw c.in-Land.is (
      land-taken eq word measure c.args.self.now c.in-Land.key c.in-Land.field-3 _ refl c.in-Land.id c.in-Some.field-0
          found c.in-Land.field-2,
      omega (arith, less, c.open_flights.ensures),
    )
