use Rattle.std.proofs.Common.{◌≡◌, ◌∙◌, sym, ap, ℕ, List, Option, None, Bool}
use Rattle.std.specs.HashMap.{get, hash_map_len}
use Rattle.std.specs.Prelude.{nat_eq}
use Rattle.std.proofs.lemmas.List.Elements.{recursion_from_All}
use Rattle.wt_flights.specs.declared.row.Open.{Open}
use Rattle.wt_flights.specs.Tables.{least_id}
use Rattle.wt_flights.proofs.Oldest.{oldest, has_from_get, get_from_has}
use Rattle.wt_flights.proofs.older.Older.oldest_load.Goals as goal

pub returns : goal.returns
returns g c =
    let test : Open g.row.K.Denot → Bool = λ o. g.K.PartialEq.eq c.args.key o.key in
    let entries : List (ℕ × Open g.row.K.Denot) = c.self.inside.by_id.entries in
    let by_id : ℕ → Option (Open g.row.K.Denot) = get nat_eq c.self.inside.by_id in
    let done : least_id test c.loop-id.least c.loop-id.id-iterator ≡ c.loop-id.least =
    ap (least_id test c.loop-id.least) c.in-None.ensures.steps.0 in
    let start : c.into_iter-id-iterator.result ≡ entries = cc in
    rw (← c.self.view_is)
    (sym done ∙ c.loop-id.invariant ∙ ap (least_id test None) start
    ∙ oldest g.K.PartialEq.eq c.args.key by_id (get g.K.PartialEq.eq c.self.inside.by_key) c.self.inside.next
    (hash_map_len c.self.inside.by_id) entries c.self.invariant.tied
    (λ i o e. has_from_get entries i o e)
    (λ i o h. get_from_has by_id entries (recursion_from_All _ _ c.iter-id-items.ensures.found) i o h))
