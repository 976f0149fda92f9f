use Rattle.std.proofs.Common.{arith, ◌≡◌, ◌≤◌, ◌+◌, false, length, sym, ap, ◌∙◌}
use Rattle.wt_regions.specs.declared.touch.Found.{Found}
use Rattle.wt_regions.specs.Lists.{Lists, is_hit}
use Rattle.wt_regions.specs.Moves.{storing}
use Rattle.wt_regions.specs.Touch.{used_if}
use Rattle.wt_sketch.specs.Sketch.{estimate_of}
use Rattle.wt_core.proofs.Hits.{is_miss, missed-still}
use Rattle.wt_core.proofs.Whole.{stored-told, whole-told}
use Rattle.wt_adviser.specs.declared.mark.Mark.{Mark}
use Rattle.wt_adviser.specs.Small.{mark, mark_measure}
use Rattle.wt_adviser.proofs.Looks.{missed-stored}
use Rattle.wt_adviser.proofs.small.look.Goals as goal

pub returns-in-Ok-store : goal.returns-in-Ok-store
returns-in-Ok-store g c =
    let K = g.row.K.Denot in
    let eq = g.K.PartialEq.eq in
    let word = g.K.CacheKey.word in
    let laws = (g.met.K.Eq g.world.𝓛 g.world.𝓜 g.world.𝓡 ((λ s x. x), (λ x. x), (λ x. x), λ x. x)).laws in
    let r : Lists K Mark = c.args.small.now in
    let miss : is_hit c.in-Ok.found ≡ false = is_miss c.in-Ok.found c.in_default-found.not-Hit in
    let still : c.get.new.self ≡ r = c.in-Ok.ensures.state
    ∙ ap (λ (f : Found Mark). used_if eq c.args.key 0 f r) (sym c.in-Ok.ensures.found)
    ∙ missed-still eq c.args.key 0 r c.in-Ok.found miss in
    let room : c.get.new.self.caps.entries ≤ c.empty.new.self.room =
    rw (still, c.empty.ensures) c.requires.room in
    let few = stored-told eq laws (λ k. estimate_of c.args.sketch.now (word k)) mark_measure 0 0 c.args.key mark c.get.new.self
    c.empty.new.self.room c.len-len.ensures.lawful (omega arith) room in
    let whole = whole-told (storing word c.args.sketch.now c.args.key eq mark_measure mark 0 0 c.get.new.self).1
    c.empty.new.self c.store.new.notices c.in-Ok-store.ensures.notices few in
    let emptied : c.empty.new.self.room + length c.empty.new.self.list ≡ c.args.aside.now.room + length c.args.aside.now.list =
    rw c.empty.ensures (omega arith) in
    record {
      state = c.in-Ok-store.ensures.state
          ∙ ap (λ (x : Lists K Mark). (storing word c.args.sketch.now c.args.key eq mark_measure mark 0 0 x).0) still
          ∙ missed-stored eq word c.args.sketch.now c.args.key r c.in-Ok.found c.in-Ok.ensures.found miss;
      answer = sym (ap is_hit (sym c.in-Ok.ensures.found) ∙ miss);
      same = c.in-Ok-store.ensures.same ∙ c.in-Ok.ensures.same;
      whole = whole ∙ emptied;
    }
