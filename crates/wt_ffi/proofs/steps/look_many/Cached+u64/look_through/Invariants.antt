use Rattle.std.proofs.Common.{◌≡◌, drop}
use Rattle.wt_ffi.proofs.LooksMade.{Answers, Leads}
use Rattle.wt_ffi.proofs.steps.look_many.Cached+u64.look_through.Given as goal

abbrev pub invariant-loop-look : goal.invariant-loop-look
invariant-loop-look l = record {
  same : drop l.look-index l.looks ≡ drop l.look-index l.fn.looks;
  count : l.done ≡ l.look-index;
  answers : Answers l.fn.looks l.looks l.look-index l.fn.self l.self;
  leads : Leads l.looks l.look-index l.fn.self l.self;
}
