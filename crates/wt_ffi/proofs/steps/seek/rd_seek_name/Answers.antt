use Rattle.std.proofs.Common.{rules, ◌<◌, sym, ◌∙◌}
use Rattle.wt_core.specs.declared.calls.Call.TheVariants.{Seek}
use Rattle.wt_ffi.specs.Handle.{cache_of}
use Rattle.wt_ffi.specs.Names.{name_of}
use Rattle.wt_ffi.specs.Named as by_name
use Rattle.wt_ffi.proofs.Asking.{if-asked}
use Rattle.wt_ffi.proofs.steps.seek.rd_seek_name.Goals as goal

pub returns : goal.returns
returns c = record {
  made = record {
    state = search rules;
    number = search rules;
    answer = search rules;
    refusal = if-asked (λ name cache. by_name.IsRefused (Seek name c.args.now) cache → 0 < c.make_named.new.answer.kind)
        (name_of c.args.key.now) c.in-Some.name (cache_of c.args.handle.now) (sym c.name_of.ensures ∙ c.in-Some.is) c.make_named.ensures.refusal;
    memory = if-asked (λ name cache. by_name.IsFree (Seek name c.args.now) cache → 0 < c.make_named.new.answer.kind)
        (name_of c.args.key.now) c.in-Some.name (cache_of c.args.handle.now) (sym c.name_of.ensures ∙ c.in-Some.is) c.make_named.ensures.memory;
    unasked = search rules;
  };
}
