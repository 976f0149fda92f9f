use Rattle.std.proofs.Common.{refl, inr}
use Rattle.wt_core.specs.declared.calls.Land.TheVariants.{Loose}
use Rattle.wt_cache.proofs.Landed.{landed-again}
use Rattle.wt_cache.proofs.cache.LoadingCache.land_value.Goals as goal

pub returns-in-Err-NoMemory : goal.returns-in-Err-NoMemory
returns-in-Err-NoMemory g c =
    let first = c.in-Err-NoMemory.ensures.made in
    record {
      made = (
        Loose,
        inr refl,
        landed-again _ _ _ _ _ _ _ _ _ _ _ first.made.err.0 first.made.err.1 first.more first.made.elsewhere
            c.land-in-Err-NoMemory.ensures.made,
      );
    }
