use Rattle.std.proofs.Common.{List, [], ◌∷◌, subst}
use Rattle.wt_core.specs.declared.calls.Call.{Call}
use Rattle.wt_shards.specs.Endings.{IsAddedTo}
use Rattle.wt_shards.specs.Passes.{Seen, counts_at, counts_of, front_at, front_of}
use Rattle.wt_shards.proofs.Endings.{four-added}
use Rattle.wt_shards.proofs.sums.Sums.absorb.Goals as goal

pub returns : goal.returns
returns g c =
    let K = g.row.K.Denot in
    let V = g.row.V.Denot in
    let new : Seen K V = record {
      counts = record {
        shards = 0;
        counts = counts_of c.absorb_at.new.sum ∷ counts_of c.absorb_at-2.new.sum ∷ counts_of c.absorb_at-3.new.sum ∷ counts_of c.absorb_at-4.new.sum ∷ [];
      };
      fronts = front_of c.absorb_at.new.sum ∷ front_of c.absorb_at-2.new.sum ∷ front_of c.absorb_at-3.new.sum ∷ front_of c.absorb_at-4.new.sum ∷ [];
    } in
    λ i. subst (λ (s : Seen K V). IsAddedTo (counts_at i s.counts) (counts_at i c.args.pass.counts) (counts_at i new.counts)
    (front_at i s) (front_at i c.args.pass) (front_at i new)) c.self.view_is
    (subst (λ (p : Seen K V). IsAddedTo
    (counts_at i (record { shards = 0; counts = counts_of c.self.inside.zero ∷ counts_of c.self.inside.one ∷ counts_of c.self.inside.two ∷ counts_of c.self.inside.three ∷ [] }))
    (counts_at i p.counts) (counts_at i new.counts)
    (front_at i (record { counts = new.counts; fronts = front_of c.self.inside.zero ∷ front_of c.self.inside.one ∷ front_of c.self.inside.two ∷ front_of c.self.inside.three ∷ [] }))
    (front_at i p) (front_at i new)) c.pass.view_is
    (four-added _ _ _ _ _ _ _ _ _ _ _ _ _ _ _ _ _ _ _ _ _ _ _ _ c.absorb_at.ensures.added c.absorb_at-2.ensures.added
    c.absorb_at-3.ensures.added c.absorb_at-4.ensures.added i))
