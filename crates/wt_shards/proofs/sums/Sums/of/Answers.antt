use Rattle.std.proofs.Common.{◌≡◌, List, [], ◌∷◌, ◌++◌, length, ap, sym, subst, ◌∙◌, append_assoc, arith}
use Rattle.std.proofs.lemmas.List.{append-nil}
use Rattle.wt_shards.specs.Endings.{AreSummed}
use Rattle.wt_shards.specs.Passes.{Seen}
use Rattle.wt_shards.proofs.Endings.{nothing_before, summed-more, summed-none}
use Rattle.wt_shards.proofs.sums.Sums.of.Goals as goal

pub loop-pass-init : goal.loop-pass-init
loop-pass-init g c =
    let S = Seen g.row.K.Denot g.row.V.Denot in
    ([], sym (append-nil c.args.passes.items), λ i. subst (λ (s : S). AreSummed i [] s) (sym c.none-sums.ensures) (summed-none i))

pub loop-pass-preserved : goal.loop-pass-preserved
loop-pass-preserved g c =
    let S = Seen g.row.K.Denot g.row.V.Denot in
    let done : List S = c.loop-pass.invariant.0 in
    let left : List S = c.pop.new.self.items in
    let pass : S = c.in-Some.pass in (
      pass ∷ done,
      c.loop-pass.invariant.1 ∙ ap (λ (w : List S). w ++ done) c.in-Some.ensures.items ∙ append_assoc left (pass ∷ []) done,
      λ i. summed-more i pass done c.loop-pass.sums c.absorb.new.self (c.loop-pass.invariant.2 i) (c.absorb.ensures i),
    )

pub returns : goal.returns
returns g c =
    let S = Seen g.row.K.Denot g.row.V.Denot in
    let none : length c.loop-pass.passes.items ≡ 0 = (let n = c.in_default.ensures.cases.0 in let o = c.loop-pass.passes.ok.0 in omega (arith, n, o)) in
    let whole : c.loop-pass.invariant.0 ≡ c.args.passes.items =
    nothing_before c.loop-pass.passes.items c.loop-pass.invariant.0 c.args.passes.items c.loop-pass.invariant.1 none in
    λ i. subst (λ (w : List S). AreSummed i w c.loop-pass.sums) whole (c.loop-pass.invariant.2 i)
