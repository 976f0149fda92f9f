use Rattle.std.proofs.Common.{◌≤◌, ◌+◌, [], ◌∷◌, ◌++◌, length, refl, ap, ◌∙◌, arith}
use Rattle.wt_regions.specs.declared.caps.Caps.{Caps}
use Rattle.wt_regions.specs.Notices.{NoticeList}
use Rattle.wt_core.specs.declared.calls.Call.{Call}
use Rattle.wt_core.specs.Run.{taken}
use Rattle.wt_shared.proofs.Placing.{added-one}
use Rattle.wt_shared.proofs.caller.step.Goals as goal

pub returns-else-not-write : goal.returns-else-not-write
returns-else-not-write g c =
    let log = c.if-not-write.ensures.state refl ∙ ap (λ (x : Call g.row.K.Denot g.row.V.Denot). c.args.kept.now.log.entries ++ x ∷ []) c.ask-asked.ensures in
    let left = ap (λ (t : NoticeList g.row.K.Denot g.row.V.Denot). t.list) c.in-Ok.ensures.notices
    ∙ ap (λ (t : NoticeList g.row.K.Denot g.row.V.Denot). t.list
    ++ (taken g.K.PartialEq.eq g.K.CacheKey.word g.V.Weighs.measure c.args.kept.now.core c.args.call).notices) c.empty.ensures in
    let emptied = ap (λ (t : NoticeList g.row.K.Denot g.row.V.Denot). t.room + length t.list) c.empty.ensures in
    let room : c.args.known.now.config.entries ≤ c.take.new.notices.room + length c.take.new.notices.list =
    omega (arith, c.requires.lawful.room, c.in-Ok.ensures.whole, emptied) in
    record {
      made = added-one g.K.PartialEq.eq g.K.CacheKey.word g.V.Weighs.measure g.V.Share.is_copied c.args.known.now c.args.call c.args.kept.now
          (record { core = c.take.new.self; notices = c.take.new.notices; count = c.args.kept.now.count + 1; log = c.write.new.self })
          c.in-Ok.reply c.requires.lawful c.in-Ok.ensures.state c.in-Ok.ensures.answer left room
          (ap (λ (x : Caps). x.entries) c.in-Ok.ensures.same) log
          c.if-not-write.ensures.same refl (c.if-not-write.ensures.before refl) c.stats-stats.ensures.lawful;
    }
