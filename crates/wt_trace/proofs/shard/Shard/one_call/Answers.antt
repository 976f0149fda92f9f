use Rattle.std.proofs.Common.{◌≡◌, ◌++◌, ◌∙◌, ℕ, List, ap, append_assoc}
use Rattle.std.specs.List.{flat_map}
use Rattle.wt_regions.specs.Notices.{NoticeList, appended}
use Rattle.wt_regions.specs.declared.notices.Notice.{Notice}
use Rattle.wt_core.specs.State.{Made}
use Rattle.wt_trace.specs.Answers.{take}
use Rattle.wt_trace.specs.Words.{words_of, notice_text}
use Rattle.wt_trace.specs.Keys.{keys_by}
use Rattle.wt_trace.specs.declared.shard.version.Version.{Version}
use Rattle.wt_trace.proofs.shard.Shard.one_call.Goals as goal

pub returns : goal.returns
returns g c =
    let i = c.self.inside in
    let before = c.args.out.now.items in
    let keys = keys_by g.K.PartialEq.eq g.K.CacheKey.word g.K.TraceKey.read g.K.TraceKey.shown in
    let m : Made g.row.K.Denot (Version g.row.K.Denot) = take keys i.core c.args.call in
    let told : List (Notice g.row.K.Denot (Version g.row.K.Denot)) → List ℕ = flat_map (notice_text keys.shown) in
    let reply : c.in_ok-reply.reply ≡ m.reply = c.in_ok-reply.ensures.answer in
    let left : c.list.result.now ≡ m.notices = c.list.ensures
    ∙ ap (λ (t : NoticeList g.row.K.Denot (Version g.row.K.Denot)). t.list)
    (c.in_ok-reply.ensures.notices ∙ ap (appended m.notices) c.empty.ensures) in
    rw (← c.self.view_is) (record {
      cache = λ j. record { state = c.in_ok-reply.ensures.state j; advice = i.adviser };
      text = c.in_ok-show_notices.ensures ∙ ap (λ xs. xs ++ told c.list.result.now) c.in_ok-show_reply.ensures
          ∙ (λ j. (before ++ words_of i.number (reply j)) ++ told (left j))
          ∙ append_assoc before (words_of i.number m.reply) (told m.notices);
      same = (search, search);
    })
