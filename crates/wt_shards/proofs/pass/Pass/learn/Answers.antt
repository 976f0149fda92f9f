use Rattle.std.proofs.Common.{List, [], ◌∷◌, subst}
use Rattle.std.specs.Prelude.{slice_index_or}
use mathlib.Core.List.{IsPrefix}
use Rattle.wt_core.specs.declared.calls.Call.{Call}
use Rattle.wt_shards.specs.Passes.{Seen, front_at, front_of}
use Rattle.wt_shards.proofs.SeenMore.{four-grew}
use Rattle.wt_shards.proofs.pass.Pass.learn.Goals as goal

pub returns-clause-this : goal.returns-clause-this
returns-clause-this g c =
    let K = g.row.K.Denot in
    let V = g.row.V.Denot in
    let fronts : List (List (Call K V)) =
    front_of c.learn.new.pass ∷ front_of c.learn-2.new.pass ∷ front_of c.learn-3.new.pass ∷ front_of
    c.learn-4.new.pass ∷ [] in
    λ i. subst (λ (s : Seen K V). IsPrefix (front_at i s) (slice_index_or fronts i [])) c.self.view_is
    (four-grew _ _ _ _ _ _ _ _ c.learn.ensures.this c.learn-2.ensures.this c.learn-3.ensures.this c.learn-4.ensures.this i)

pub returns-clause-that : goal.returns-clause-that
returns-clause-that g c =
    let K = g.row.K.Denot in
    let V = g.row.V.Denot in
    let fronts : List (List (Call K V)) =
    front_of c.learn.new.pass ∷ front_of c.learn-2.new.pass ∷ front_of c.learn-3.new.pass ∷ front_of
    c.learn-4.new.pass ∷ [] in
    λ i. subst (λ (s : List (List (Call K V))). IsPrefix (slice_index_or s i []) (slice_index_or fronts i [])) c.sight.view_is
    (four-grew _ _ _ _ _ _ _ _ c.learn.ensures.that c.learn-2.ensures.that c.learn-3.ensures.that c.learn-4.ensures.that i)
