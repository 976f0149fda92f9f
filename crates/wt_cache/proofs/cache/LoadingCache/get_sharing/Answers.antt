use Rattle.std.proofs.Common.{true, ap, sym, subst, ◌∙◌, arith, refl, rules}
use Rattle.wt_history.proofs.Fronts.{prefix_self}
use Rattle.wt_cache.proofs.Handed.{handed_more, handed_on, loaded_on}
use Rattle.wt_cache.proofs.Shares.{here_of, shares_hit, shares_join, shares_lead, shares_refresh}
use Rattle.wt_cache.proofs.Told.{told_none, told_both}
use Rattle.wt_shards.specs.Landings.{book_at}
use Rattle.wt_shards.specs.Place.{Layout, home_of}
use Rattle.wt_cache.specs.Moves.{HasGotIn}
use Rattle.wt_cache.specs.SharedGots.{SharedGot}
use Rattle.wt_cache.specs.Cached.{Cached}
use Rattle.wt_cache.proofs.Seeks.{as_seek, followed_hit, followed_load, moved_if_any, moved_load, shared_so, told_handed, tried_join, tried_load}
use Rattle.wt_cache.proofs.cache.LoadingCache.get_sharing.Goals as goal

pub returns-in-Hit-clause-told : goal.returns-in-Hit-clause-told
returns-in-Hit-clause-told g c =
    told_both _ _ _ _ _ _ c.in_ok-done.ensures.made.told (told_none 0 _)
    (omega (arith, ap (λ (s : Cached). s.layout.config.entries) c.self.view_is))

pub returns-in-HitLead-clause-told : goal.returns-in-HitLead-clause-told
returns-in-HitLead-clause-told g c =
    told_handed _ _ _ _ _ c.args.self.now c.args.pass.now c.seek_sharing.new.pass c.hand_on-ran.new.pass _ _ _ _ _
    (ap (λ (s : Cached). s.layout) c.self.view_is) (as_seek _ _ _ _ _ _ _ _ c.in_ok-done.ensures.made)
    (handed_on _ _ c.args.self.now _ _ _ _ _ _ c.hand_on-ran.ensures)

pub returns-in_err-value-in-Lead-clause-told : goal.returns-in_err-value-in-Lead-clause-told
returns-in_err-value-in-Lead-clause-told g c =
    told_handed _ _ _ _ _ c.args.self.now c.args.pass.now c.seek_sharing.new.pass c.load.new.pass _ _ _ _ _
    (ap (λ (s : Cached). s.layout) c.self.view_is) (as_seek _ _ _ _ _ _ _ _ c.in_ok-done.ensures.made)
    (loaded_on _ _ c.args.self.now _ _ _ _ _ _ c.in_err-value-in-Lead.ensures.made)

pub returns-in_ok-value-in-Lead-clause-told : goal.returns-in_ok-value-in-Lead-clause-told
returns-in_ok-value-in-Lead-clause-told g c =
    told_handed _ _ _ _ _ c.args.self.now c.args.pass.now c.seek_sharing.new.pass c.load.new.pass _ _ _ _ _
    (ap (λ (s : Cached). s.layout) c.self.view_is) (as_seek _ _ _ _ _ _ _ _ c.in_ok-done.ensures.made)
    (loaded_on _ _ c.args.self.now _ _ _ _ _ _ c.in_ok-value-in-Lead.ensures.made)

pub returns-in-HitLead-clause-moved : goal.returns-in-HitLead-clause-moved
returns-in-HitLead-clause-moved g c =
    let i = c.in-HitLead.is in
    let a = c.in_ok-done.ensures.asked in
    let V = g.row.V.Denot in
    subst (λ (s : SharedGot V). HasGotIn g.K.CacheKey.word c.args.key c.args.self.now c.args.pass.now.counts c.hand_on-ran.new.pass.counts s.got)
    (sym c.found-in-HitLead.ensures) (moved_if_any _ _ _ _ _ c.args.self.now c.args.pass.now c.seek_sharing.new.pass c.hand_on-ran.new.pass _ _ _ _ true _
    (ap (λ (s : Cached). s.layout) c.self.view_is) (as_seek _ _ _ _ _ _ _ _ c.in_ok-done.ensures.made)
    (handed_on _ _ c.args.self.now _ _ _ _ _ _ c.hand_on-ran.ensures) (search (rules, i)) (search (rules, i, a)))

pub returns-in_ok-value-in-Lead-clause-moved : goal.returns-in_ok-value-in-Lead-clause-moved
returns-in_ok-value-in-Lead-clause-moved g c =
    let i = c.in-Lead.is in
    let a = c.in_ok-done.ensures.asked in
    let V = g.row.V.Denot in
    subst (λ (s : SharedGot V). HasGotIn g.K.CacheKey.word c.args.key c.args.self.now c.args.pass.now.counts c.load.new.pass.counts s.got)
    (sym c.loaded-in-Lead.ensures) (moved_load _ _ _ _ _ c.args.self.now c.args.pass.now c.seek_sharing.new.pass c.load.new.pass _ _ _ _ _ _
    (ap (λ (s : Cached). s.layout) c.self.view_is) (as_seek _ _ _ _ _ _ _ _ c.in_ok-done.ensures.made)
    c.in_ok-value-in-Lead.ensures.made (search (rules, i)) (search (rules, i, a)))

pub returns-in-Hit-clause-sought : goal.returns-in-Hit-clause-sought
returns-in-Hit-clause-sought g c =
    let i = c.in-Hit.is in
    shared_so _ _ _ _ _ c.args.self.now c.args.pass.now c.seek_sharing.new.pass c.seek_sharing.new.pass _ _ _ _ _ _ _ _ _
    c.found.ensures (ap (λ (s : Cached). s.layout) c.self.view_is) (as_seek _ _ _ _ _ _ _ _ c.in_ok-done.ensures.made)
    (λ i. prefix_self _) (search (rules, i), (refl, refl)) (shares_hit _ c.in-Hit.value _ (search (rules, i)))

pub returns-in_ok-value-in-Join-clause-sought : goal.returns-in_ok-value-in-Join-clause-sought
returns-in_ok-value-in-Join-clause-sought g c =
    let i = c.in-Join.is in
    let same = ap (λ (s : Cached). s.layout) c.self.view_is in
    let here = c.in_ok-done.ensures.shared.0 ∙ ap (λ (x : Layout). book_at (home_of g.K.CacheKey.word c.args.key x) _ _ _ _) same in
    shared_so _ _ _ _ _ c.args.self.now c.args.pass.now c.seek_sharing.new.pass c.seek_sharing.new.pass _ _ _ _ _ _ _ _ _
    c.loaded.ensures same (as_seek _ _ _ _ _ _ _ _ c.in_ok-done.ensures.made) (λ i. prefix_self _)
    (c.in-Join.ticket.id, search (rules, i), (refl, refl)) (shares_join c.in_ok-done.done.reply.landings _ c.in-Join.ticket _ _ (search (rules, i)) here c.value_of.ensures.same)

pub returns-in-HitLead-clause-sought : goal.returns-in-HitLead-clause-sought
returns-in-HitLead-clause-sought g c =
    let i = c.in-HitLead.is in
    let a = c.in_ok-done.ensures.asked in
    let handed = handed_on _ _ c.args.self.now _ _ _ _ _ _ c.hand_on-ran.ensures in
    shared_so _ _ _ _ _ c.args.self.now c.args.pass.now c.seek_sharing.new.pass c.hand_on-ran.new.pass _ _ _ _ _ _ _ _ _
    c.found-in-HitLead.ensures (ap (λ (s : Cached). s.layout) c.self.view_is) (as_seek _ _ _ _ _ _ _ _ c.in_ok-done.ensures.made)
    (handed_more _ _ _ _ _ _ _ _ handed)
    (followed_hit _ _ _ _ _ _ _ _ _ _ _ _ handed (search (rules, i)) (search (rules, i, a)) (search (rules, i, a)))
    (shares_refresh _ c.in-HitLead.value c.in-HitLead.lead.id _ (search (rules, i)))

pub returns-in_ok-value-in-Lead-clause-sought : goal.returns-in_ok-value-in-Lead-clause-sought
returns-in_ok-value-in-Lead-clause-sought g c =
    let i = c.in-Lead.is in
    let a = c.in_ok-done.ensures.asked in
    let loaded = c.in_ok-value-in-Lead.ensures.made in
    let same = ap (λ (s : Cached). s.layout) c.self.view_is in
    let here = c.in_ok-done.ensures.shared.0 ∙ ap (λ (x : Layout). book_at (home_of g.K.CacheKey.word c.args.key x) _ _ _ _) same in
    shared_so _ _ _ _ _ c.args.self.now c.args.pass.now c.seek_sharing.new.pass c.load.new.pass _ _ _ _ _ _ _ _ _
    c.loaded-in-Lead.ensures same (as_seek _ _ _ _ _ _ _ _ c.in_ok-done.ensures.made)
    (handed_more _ _ _ _ _ _ _ _ (loaded_on _ _ _ _ _ _ _ _ _ loaded))
    (followed_load _ _ _ _ _ _ _ _ _ _ _ _ loaded (search (rules, i)) (search (rules, i, a)) (search (rules, i, a)))
    (shares_lead c.in_ok-done.done.reply.landings _ c.in-Lead.lead _ _ _ (search (rules, i)) here c.in_ok-value-in-Lead.ensures.told)

pub returns-in_err-value-in-Join-clause-err : goal.returns-in_err-value-in-Join-clause-err
returns-in_err-value-in-Join-clause-err g c =
    let i = c.in-Join.is in
    tried_join _ _ _ _ _ c.args.self.now c.args.pass.now c.seek_sharing.new.pass _ _ _ c.in-Join.ticket.id c.in_err-value-in-Join.field-0.0 _
    c.from_residual-in_err-value-in-Join.ensures.1 (ap (λ (s : Cached). s.layout) c.self.view_is) (as_seek _ _ _ _ _ _ _ _ c.in_ok-done.ensures.made)
    (search (rules, i)) c.in_err-value-in-Join.ensures.faults

pub returns-in_err-value-in-Lead-clause-err : goal.returns-in_err-value-in-Lead-clause-err
returns-in_err-value-in-Lead-clause-err g c =
    let i = c.in-Lead.is in
    let a = c.in_ok-done.ensures.asked in
    tried_load _ _ _ _ _ c.args.self.now c.args.pass.now c.seek_sharing.new.pass c.load.new.pass _ _ _ _ _ c.in_err-value-in-Lead.field-0.0 _
    c.from_residual-in_err-value-in-Lead.ensures.1 (ap (λ (s : Cached). s.layout) c.self.view_is) (as_seek _ _ _ _ _ _ _ _ c.in_ok-done.ensures.made)
    c.in_err-value-in-Lead.ensures.made (search (rules, i)) (search (rules, i, a)) (search (rules, i, a))

pub returns-in_ok-value-in-Join-clause-of_shard : goal.returns-in_ok-value-in-Join-clause-of_shard
returns-in_ok-value-in-Join-clause-of_shard g c = here_of _ _ _ (returns-in_ok-value-in-Join-clause-sought g c).shares

pub returns-in_ok-value-in-Lead-clause-of_shard : goal.returns-in_ok-value-in-Lead-clause-of_shard
returns-in_ok-value-in-Lead-clause-of_shard g c = here_of _ _ _ (returns-in_ok-value-in-Lead-clause-sought g c).shares
