use Rattle.wt_shards.specs.Members.{members_by}
use Rattle.wt_cache.specs.Loads.{MayReturn}
use Rattle.rookdresser.proofs.Young.{gets-young}
use Rattle.rookdresser.proofs.laws.got_values_are_young.Goals as goal

pub returns : goal.returns
returns g c =
    gets-young (members_by g.K.PartialEq.eq g.K.CacheKey.word g.V.Weighs.measure g.V.Answers.answers) c.found_values_are_young.ensures
    c.reads_are_young.ensures (MayReturn g.L.Loader.may_return)
