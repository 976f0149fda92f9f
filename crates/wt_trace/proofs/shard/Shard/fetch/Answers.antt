use Rattle.std.proofs.Common.{◌≡◌, ◌++◌, ◌∙◌, ℕ, List, ap, sym, append_assoc}
use Rattle.std.specs.List.{flat_map}
use Rattle.wt_regions.specs.Notices.{NoticeList, appended}
use Rattle.wt_regions.specs.declared.notices.Notice.{Notice}
use Rattle.wt_core.specs.State.{Made}
use Rattle.wt_core.specs.declared.calls.Call.TheVariants.{Seek}
use Rattle.wt_trace.specs.Answers.{Shown, take}
use Rattle.wt_trace.specs.Words.{words_of, notice_text}
use Rattle.wt_trace.specs.Keys.{keys_by}
use Rattle.wt_trace.specs.declared.shard.version.Version.{Version}
use Rattle.wt_trace.proofs.Gets.{fetched-otherwise}
use Rattle.wt_trace.proofs.shard.Shard.fetch.Goals as goal

pub returns-in_ok-show_notices-in_default : goal.returns-in_ok-show_notices-in_default
returns-in_ok-show_notices-in_default g c =
    let i = c.self.inside in
    let before = c.args.out.now.items in
    let keys = keys_by g.K.PartialEq.eq g.K.CacheKey.word g.K.TraceKey.read g.K.TraceKey.shown in
    let m : Made g.row.K.Denot (Version g.row.K.Denot) = take keys i.core (Seek c.args.key c.args.moment) in
    let is = fetched-otherwise keys i.options c.args.n c.args.moment c.args.key m.reply m
    (λ id e. c.in_default.not-Lead id (c.in_ok-reply.ensures.answer ∙ e))
    (λ v id e. c.in_default.not-HitLead v id (c.in_ok-reply.ensures.answer ∙ e)) in
    let told : List (Notice g.row.K.Denot (Version g.row.K.Denot)) → List ℕ = flat_map (notice_text keys.shown) in
    let reply : c.in_ok-reply.reply ≡ m.reply = c.in_ok-reply.ensures.answer in
    let left : c.list.result.now ≡ m.notices = c.list.ensures
    ∙ ap (λ (t : NoticeList g.row.K.Denot (Version g.row.K.Denot)). t.list)
    (c.in_ok-reply.ensures.notices ∙ ap (appended m.notices) c.empty.ensures) in
    rw (← c.self.view_is) (record {
      cache = λ j. record { state = (c.in_ok-reply.ensures.state ∙ ap (λ (s : Shown g.row.K.Denot). s.state) (sym is)) j; advice = i.adviser };
      text = c.in_ok-show_notices-in_default.ensures ∙ ap (λ xs. xs ++ told c.list.result.now) c.in_ok-show_reply-in_default.ensures
          ∙ (λ j. (before ++ words_of 0 (reply j)) ++ told (left j))
          ∙ append_assoc before (words_of 0 m.reply) (told m.notices)
          ∙ ap (λ (s : Shown g.row.K.Denot). before ++ s.text) (sym is);
      same = (search, search);
    })
