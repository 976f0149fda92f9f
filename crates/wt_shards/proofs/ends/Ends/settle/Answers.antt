use Rattle.std.proofs.Common.{◌≡◌, ℕ, ◌<◌, List, [], ◌∷◌, refl, sym, subst, arith}
use Rattle.wt_shards.specs.Endings.{AreSummed}
use Rattle.wt_shards.specs.Passes.{Seen, counts_of, front_of}
use Rattle.wt_shards.proofs.Endings.{all-at, part-at, settled-at}
use Rattle.wt_shards.proofs.ends.Ends.settle.Goals as goal

pub returns-in-Err-clause-missing : goal.returns-in-Err-clause-missing
returns-in-Err-clause-missing g c =
    let K = g.row.K.Denot in
    let V = g.row.V.Denot in
    let ends = c.self.inside in
    let passes : List (Seen K V) = c.args.passes.items in
    let all : Seen K V = record {
      counts = record {
        shards = 0;
        counts = counts_of c.all.inside.zero ∷ counts_of c.all.inside.one ∷ counts_of c.all.inside.two ∷ counts_of c.all.inside.three ∷ [];
      };
      fronts = front_of c.all.inside.zero ∷ front_of c.all.inside.one ∷ front_of c.all.inside.two ∷ front_of c.all.inside.three ∷ [];
    } in
    let summed : (i : ℕ) → AreSummed i passes all = λ i. subst (λ (s : Seen K V). AreSummed i passes s) (sym c.all.view_is) (c.of-all.ensures i) in
    let short = c.in-Err.ensures.short in
    let used : 0 < ends.shards = c.self.invariant.1.1 short.1 in
    rw (← c.self.view_is) (
      0,
      omega (arith, used),
      short.0,
      record { part = part-at 0 passes all ends.zero (summed 0) short.1 short.2; below = tt },
    )

pub returns-in-Err-settle_at-clause-missing : goal.returns-in-Err-settle_at-clause-missing
returns-in-Err-settle_at-clause-missing g c =
    let K = g.row.K.Denot in
    let V = g.row.V.Denot in
    let ends = c.self.inside in
    let passes : List (Seen K V) = c.args.passes.items in
    let all : Seen K V = record {
      counts = record {
        shards = 0;
        counts = counts_of c.all.inside.zero ∷ counts_of c.all.inside.one ∷ counts_of c.all.inside.two ∷ counts_of c.all.inside.three ∷ [];
      };
      fronts = front_of c.all.inside.zero ∷ front_of c.all.inside.one ∷ front_of c.all.inside.two ∷ front_of c.all.inside.three ∷ [];
    } in
    let summed : (i : ℕ) → AreSummed i passes all = λ i. subst (λ (s : Seen K V). AreSummed i passes s) (sym c.all.view_is) (c.of-all.ensures i) in
    let short = c.in-Err-settle_at.ensures.short in
    let used : 1 < ends.shards = c.self.invariant.2.1 short.1 in
    let all0 = all-at 0 passes all ends.zero (summed 0) (c.self.invariant.1.0 (omega (arith, used))) c.in-Ok.ensures.adds in
    rw (← c.self.view_is) (
      1,
      omega (arith, used),
      short.0,
      record { part = part-at 1 passes all ends.one (summed 1) short.1 short.2; below = (tt, all0) },
    )

pub returns-in-Err-settle_at-2-clause-missing : goal.returns-in-Err-settle_at-2-clause-missing
returns-in-Err-settle_at-2-clause-missing g c =
    let K = g.row.K.Denot in
    let V = g.row.V.Denot in
    let ends = c.self.inside in
    let passes : List (Seen K V) = c.args.passes.items in
    let all : Seen K V = record {
      counts = record {
        shards = 0;
        counts = counts_of c.all.inside.zero ∷ counts_of c.all.inside.one ∷ counts_of c.all.inside.two ∷ counts_of c.all.inside.three ∷ [];
      };
      fronts = front_of c.all.inside.zero ∷ front_of c.all.inside.one ∷ front_of c.all.inside.two ∷ front_of c.all.inside.three ∷ [];
    } in
    let summed : (i : ℕ) → AreSummed i passes all = λ i. subst (λ (s : Seen K V). AreSummed i passes s) (sym c.all.view_is) (c.of-all.ensures i) in
    let short = c.in-Err-settle_at-2.ensures.short in
    let used : 2 < ends.shards = c.self.invariant.3.1 short.1 in
    let all0 = all-at 0 passes all ends.zero (summed 0) (c.self.invariant.1.0 (omega (arith, used))) c.in-Ok.ensures.adds in
    let all1 = all-at 1 passes all ends.one (summed 1) (c.self.invariant.2.0 (omega (arith, used))) c.in-Ok-settle_at.ensures.adds in
    rw (← c.self.view_is) (
      2,
      omega (arith, used),
      short.0,
      record { part = part-at 2 passes all ends.two (summed 2) short.1 short.2; below = ((tt, all0), all1) },
    )

pub returns-in-Err-settle_at-3-clause-missing : goal.returns-in-Err-settle_at-3-clause-missing
returns-in-Err-settle_at-3-clause-missing g c =
    let K = g.row.K.Denot in
    let V = g.row.V.Denot in
    let ends = c.self.inside in
    let passes : List (Seen K V) = c.args.passes.items in
    let all : Seen K V = record {
      counts = record {
        shards = 0;
        counts = counts_of c.all.inside.zero ∷ counts_of c.all.inside.one ∷ counts_of c.all.inside.two ∷ counts_of c.all.inside.three ∷ [];
      };
      fronts = front_of c.all.inside.zero ∷ front_of c.all.inside.one ∷ front_of c.all.inside.two ∷ front_of c.all.inside.three ∷ [];
    } in
    let summed : (i : ℕ) → AreSummed i passes all = λ i. subst (λ (s : Seen K V). AreSummed i passes s) (sym c.all.view_is) (c.of-all.ensures i) in
    let short = c.in-Err-settle_at-3.ensures.short in
    let used : 3 < ends.shards = c.self.invariant.4.1 short.1 in
    let all0 = all-at 0 passes all ends.zero (summed 0) (c.self.invariant.1.0 (omega (arith, used))) c.in-Ok.ensures.adds in
    let all1 = all-at 1 passes all ends.one (summed 1) (c.self.invariant.2.0 (omega (arith, used))) c.in-Ok-settle_at.ensures.adds in
    let all2 = all-at 2 passes all ends.two (summed 2) (c.self.invariant.3.0 (omega (arith, used))) c.in-Ok-settle_at-2.ensures.adds in
    rw (← c.self.view_is) (
      3,
      omega (arith, used),
      short.0,
      record { part = part-at 3 passes all ends.three (summed 3) short.1 short.2; below = (((tt, all0), all1), all2) },
    )

pub returns-clause-totals : goal.returns-clause-totals
returns-clause-totals g c =
    let K = g.row.K.Denot in
    let V = g.row.V.Denot in
    let ends = c.self.inside in
    let passes : List (Seen K V) = c.args.passes.items in
    let all : Seen K V = record {
      counts = record {
        shards = 0;
        counts = counts_of c.all.inside.zero ∷ counts_of c.all.inside.one ∷ counts_of c.all.inside.two ∷ counts_of c.all.inside.three ∷ [];
      };
      fronts = front_of c.all.inside.zero ∷ front_of c.all.inside.one ∷ front_of c.all.inside.two ∷ front_of c.all.inside.three ∷ [];
    } in
    let summed : (i : ℕ) → AreSummed i passes all = λ i. subst (λ (s : Seen K V). AreSummed i passes s) (sym c.all.view_is) (c.of-all.ensures i) in
    rw (← c.self.view_is) (
      settled-at 0 passes all ends.zero c.in-Ok.zero (summed 0) c.in-Ok.ensures.there c.in-Ok.ensures.total c.in-Ok.ensures.adds,
      settled-at 1 passes all ends.one c.in-Ok-settle_at.one (summed 1) c.in-Ok-settle_at.ensures.there c.in-Ok-settle_at.ensures.total c.in-Ok-settle_at.ensures.adds,
      settled-at 2 passes all ends.two c.in-Ok-settle_at-2.two (summed 2) c.in-Ok-settle_at-2.ensures.there c.in-Ok-settle_at-2.ensures.total c.in-Ok-settle_at-2.ensures.adds,
      settled-at 3 passes all ends.three c.in-Ok-settle_at-3.three (summed 3) c.in-Ok-settle_at-3.ensures.there c.in-Ok-settle_at-3.ensures.total c.in-Ok-settle_at-3.ensures.adds,
    )
