use Rattle.std.proofs.Common.{◌≡◌, List, [], sym, subst, ◌∙◌}
use Rattle.std.specs.Prelude.{slice_index_or}
use Rattle.wt_regions.specs.Notices.{emptied}
use Rattle.wt_core.specs.declared.calls.Call.{Call}
use Rattle.wt_core.specs.declared.calls.Call.TheVariants.{Look}
use Rattle.wt_shards.specs.History.{IsMade}
use Rattle.wt_shards.specs.Members.{Members, members_by}
use Rattle.wt_shards.specs.Passes.{front_at}
use Rattle.wt_shards.specs.Place.{home_at, home_of}
use Rattle.wt_shards.specs.Served.{IsHandedOver}
use Rattle.wt_cache.specs.Cached.{Cached}
use Rattle.examples.proofs.Handed.{handed-over, prefix-over}
use Rattle.examples.proofs.loads.requests.next_request.Goals as goal

pub returns : goal.returns
returns g c = λ v now number seen put prefix.
    let K = g.row.K.Denot in
    let V = g.row.V.Denot in
    let eq = g.K.PartialEq.eq in
    let word = g.K.CacheKey.word in
    let measure = g.V.Weighs.measure in
    let answers = g.V.Answers.answers in
    let members : Members K V = members_by eq word measure answers in
    let key = c.args.key in
    let later = c.args.now in
    let old = c.learn.new.self in
    let new = c.get_if_present-found.new.self in
    let done = c.in_ok-found.field-0 in
    let same : old.cache ≡ c.args.callers.now = c.learn.ensures.same.0 ∙ c.in_ok-caller.ensures.ok.0 in
    let home = home_of word key c.args.callers.now.layout in
    let place = home_at word key c.args.callers.now.layout in
    let look = subst (λ (x : Cached). IsMade members (home_at word key x.layout) (Look key later) done.reply done.step
    (front_at (home_of word key x.layout) old.pass) (front_at (home_of word key x.layout) new.pass) (emptied old.left) new.left)
    same c.in_ok-found.ensures.made.made.step in
    subst (λ (w : List (List (Call K V))). IsHandedOver eq word measure place.config key v now later number (slice_index_or w home []) done.reply)
    (sym c.give_back-seen.ensures)
    (handed-over eq word measure answers place (c.own_put_is_read.ensures place.config) key v now later
    _ _ _ _ _ _ _ _ _ _ _ _
    put.made (prefix-over _ _ _ prefix (c.learn.ensures.that home)) look)
