use Rattle.std.proofs.Common.{◌≡◌, drop, length, Some, slice_get, sym, ap, ◌∙◌, add-one, arith}
use Rattle.circular_buffer.specs.Buffer.{Buffer, buffer}
use Rattle.wt_core.specs.Run.{taken}
use Rattle.wt_core.specs.declared.calls.Call.{Call}
use Rattle.wt_core.specs.State.{State}
use Rattle.wt_regions.specs.Notices.{NoticeList}
use Rattle.wt_regions.specs.declared.caps.Caps.{Caps}
use Rattle.wt_shards.specs.declared.shade.Shade.{Shade}
use Rattle.wt_shards.specs.Outline.{shade_measure}
use Rattle.wt_shards.proofs.Runs.{slice_get-drop, drop-suc, run-take}
use Rattle.wt_shards.proofs.lag.catch_up.Goals as goal

pub loop-i-preserved : goal.loop-i-preserved
loop-i-preserved g c =
    let eq = g.K.PartialEq.eq in
    let word = g.K.CacheKey.word in
    let xs = c.args.ring.now.items in
    let i = c.loop-i.i in
    let called = c.in-Some.call.now in
    let at : slice_get xs i ≡ Some called =
    sym (slice_get-drop xs i) ∙ ap (λ (b : Buffer (Call g.row.K.Denot Shade)). slice_get b.items 0)
    (sym c.loop-i.invariant.1) ∙ sym c.in-Some.ensures in
    let here = run-take eq word shade_measure c.args.lagging.now xs i called at in (
      c.in_ok-step_again.ensures.state ∙ ap (λ (s : State g.row.K.Denot Shade).
          (taken eq word shade_measure s called).state) c.loop-i.invariant.0 ∙ sym (rw add-one here),
      c.pop_front.ensures.items ∙ ap (λ (b : Buffer (Call g.row.K.Denot Shade)). buffer
          (drop 1 b.items) b.capacity) c.loop-i.invariant.1
          ∙ rw add-one (ap (λ ys. buffer ys c.args.ring.now.capacity) (drop-suc xs i)),
      c.in_ok-step_again.ensures.room,
    )
