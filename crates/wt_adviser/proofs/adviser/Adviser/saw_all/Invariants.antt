use Rattle.std.proofs.Common.{◌≡◌, take, OnOk}
use Rattle.wt_adviser.specs.Advice.{shown}
use Rattle.wt_adviser.proofs.Shown.{Leads}
use Rattle.wt_adviser.proofs.adviser.Adviser.saw_all.Given as goal

abbrev pub invariant-loop-key : goal.invariant-loop-key
invariant-loop-key g l = record {
  saw : OnOk l.outcome (l.self ≡ shown g.K.PartialEq.eq g.K.CacheKey.word (take l.key-index l.fn.keys) l.fn.self);
  leads : Leads g.K.PartialEq.eq g.K.CacheKey.word l.fn.keys l.key-index l.fn.self l.self;
}
