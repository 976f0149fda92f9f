use Rattle.std.proofs.Common.{rules, ap, ◌∙◌}
use Rattle.wt_core.specs.declared.calls.Call.TheVariants.{Seek}
use Rattle.wt_ffi.specs.Calls.{after, number_after, answer_after}
use Rattle.wt_ffi.specs.Open.{Open}
use Rattle.wt_ffi.proofs.Told.{answer-refused, answer-told, number-refused, number-told, state-refused, state-told}
use Rattle.wt_ffi.proofs.cached.Cached.seek.Goals as goal
use Rattle.wt_ffi.proofs.cached.Cached.seek.Goals.{in-Ok, in-Err-NoMemory, in-Err}

pub returns-clause-state : goal.returns-clause-state
returns-clause-state g c = elim c.match-seek.branch [
  | in-Ok w ↦ state-told g.K.PartialEq.eq g.K.CacheKey.word (Seek c.args.key c.args.now)
      (record { core = c.self.inside.core; notices = c.self.inside.notices })
      (record { core = c.seek.new.self; notices = c.seek.new.notices }) w.in-Ok.reply c.match-seek.answer
      w.in-Ok.ensures.refusal _ (w.answer-is ∙ w.answer_of.ensures) w.in-Ok.ensures.state c.empty.new.self
      c.empty.ensures w.in-Ok.ensures.notices
      ∙ ap (λ (o : Open g.row.K.Denot). after g.K.PartialEq.eq g.K.CacheKey.word c.match-seek.answer.kind
      (Seek c.args.key c.args.now) o) c.self.view_is
  | in-Err-NoMemory w ↦ search rules
  | in-Err w ↦ state-refused g.K.PartialEq.eq g.K.CacheKey.word (Seek c.args.key c.args.now)
      (record { core = c.self.inside.core; notices = c.self.inside.notices })
      (record { core = c.seek.new.self; notices = c.seek.new.notices }) w.in-Err.fault c.match-seek.answer
      (search rules) w.in-Err.ensures.refusal (w.answer-is ∙ w.answer_of-in-Err.ensures) w.in-Err.ensures.err.0
      (w.in-Err.ensures.err.1 ∙ c.empty.ensures)
      ∙ ap (λ (o : Open g.row.K.Denot). after g.K.PartialEq.eq g.K.CacheKey.word c.match-seek.answer.kind
      (Seek c.args.key c.args.now) o) c.self.view_is
]

pub returns-clause-number : goal.returns-clause-number
returns-clause-number g c = elim c.match-seek.branch [
  | in-Ok w ↦ w.result-is ∙ w.number_of.ensures
      ∙ number-told g.K.PartialEq.eq g.K.CacheKey.word (Seek c.args.key c.args.now)
      (record { core = c.self.inside.core; notices = c.self.inside.notices })
      (record { core = c.self.inside.core; notices = c.self.inside.notices }) w.in-Ok.reply c.match-seek.answer
      w.in-Ok.ensures.refusal _ (w.answer-is ∙ w.answer_of.ensures) w.in-Ok.ensures.answer
      ∙ ap (λ (o : Open g.row.K.Denot). number_after g.K.PartialEq.eq g.K.CacheKey.word c.match-seek.answer.kind
      (Seek c.args.key c.args.now) o) c.self.view_is
  | in-Err-NoMemory w ↦ search rules
  | in-Err w ↦ w.result-is ∙ w.number_of-in-Err.ensures
      ∙ number-refused g.K.PartialEq.eq g.K.CacheKey.word (Seek c.args.key c.args.now)
      (record { core = c.self.inside.core; notices = c.self.inside.notices })
      (record { core = c.self.inside.core; notices = c.self.inside.notices }) w.in-Err.fault c.match-seek.answer
      (search rules) w.in-Err.ensures.refusal (w.answer-is ∙ w.answer_of-in-Err.ensures)
      ∙ ap (λ (o : Open g.row.K.Denot). number_after g.K.PartialEq.eq g.K.CacheKey.word c.match-seek.answer.kind
      (Seek c.args.key c.args.now) o) c.self.view_is
]

pub returns-clause-answer : goal.returns-clause-answer
returns-clause-answer g c = elim c.match-seek.branch [
  | in-Ok w ↦ answer-told g.K.PartialEq.eq g.K.CacheKey.word (Seek c.args.key c.args.now)
      (record { core = c.self.inside.core; notices = c.self.inside.notices })
      (record { core = c.self.inside.core; notices = c.self.inside.notices }) w.in-Ok.reply c.match-seek.answer
      w.in-Ok.ensures.refusal _ (w.answer-is ∙ w.answer_of.ensures) w.in-Ok.ensures.answer (search rules)
      ∙ ap (λ (o : Open g.row.K.Denot). answer_after g.K.PartialEq.eq g.K.CacheKey.word c.match-seek.answer.kind
      (Seek c.args.key c.args.now) o) c.self.view_is
  | in-Err-NoMemory w ↦ search rules
  | in-Err w ↦ answer-refused g.K.PartialEq.eq g.K.CacheKey.word (Seek c.args.key c.args.now)
      (record { core = c.self.inside.core; notices = c.self.inside.notices })
      (record { core = c.self.inside.core; notices = c.self.inside.notices }) w.in-Err.fault c.match-seek.answer
      (search rules) w.in-Err.ensures.refusal (w.answer-is ∙ w.answer_of-in-Err.ensures)
      ∙ ap (λ (o : Open g.row.K.Denot). answer_after g.K.PartialEq.eq g.K.CacheKey.word c.match-seek.answer.kind
      (Seek c.args.key c.args.now) o) c.self.view_is
]
