use Rattle.std.proofs.Common.{ap}
use Rattle.wt_cache.specs.Cached.{Cached}
use Rattle.wt_shards.specs.Members.{members_by}
use Rattle.wt_cache.proofs.Landed.{landed-so}
use Rattle.wt_cache.proofs.cache.LoadingCache.land.Goals as goal

pub returns : goal.returns
returns g c = record {
  made = landed-so (members_by g.K.PartialEq.eq g.K.CacheKey.word g.V.Weighs.measure g.V.Answers.answers) c.self.inside.shards
      c.args.self.now.layout c.args.lead.now c.args.what c.moment-moment.result
      c.args.pass.now c.land.new.pass c.args.notices.now c.land.new.notices _ (ap (λ (s : Cached). s.layout) c.self.view_is)
      c.moment-moment.ensures c.land.ensures.made;
}
