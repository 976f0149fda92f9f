use Rattle.std.proofs.Common.{Ok, Err, refl}
use Rattle.wt_keys.specs.declared.fault.Fault.TheVariants as fault
use Rattle.wt_shards.specs.Opening.{layout_fault}
use Rattle.wt_cache.proofs.Refusals.{passed-on, accepted}
use Rattle.wt_cache.proofs.service.serve_as.Goals as goal

pub returns-in-Ok-serve_over : goal.returns-in-Ok-serve_over
returns-in-Ok-serve_over g c = record {
  made = record {
    len = c.in-Ok-serve_over.ensures.len;
    each = c.in-Ok-serve_over.ensures.each;
    refusal = accepted _ _ (layout_fault c.args.shards c.args.config.now) c.in-Ok.made
        (Ok c.in-Ok-serve_over.answers) c.in-Ok.ensures.refusal tt;
  };
}

pub returns-in-Err-serve_over : goal.returns-in-Err-serve_over
returns-in-Err-serve_over g c = record {
  made = record {
    len = tt;
    each = tt;
    refusal = accepted _ _ (layout_fault c.args.shards c.args.config.now) c.in-Ok.made (Err fault.NoMemory) c.in-Ok.ensures.refusal refl;
  };
}

pub returns-in-Err : goal.returns-in-Err
returns-in-Err g c = record {
  made = record {
    len = tt;
    each = tt;
    refusal = passed-on _ _ (layout_fault c.args.shards c.args.config.now) c.in-Err.fault c.in-Err.ensures.refusal;
  };
}
