use Rattle.std.proofs.Common.{◌≡◌, [], ◌∷◌, arith, ap, sym, subst, ◌∙◌}
use Rattle.wt_shards.specs.Members.{members_by}
use Rattle.wt_shards.specs.Numbers.{AreSeenNumbers}
use Rattle.wt_shards.specs.Passes.{Seen, SeenMore, counts_of, front_of}
use Rattle.wt_shards.specs.Place.{Layout, Place}
use Rattle.wt_shards.proofs.AllNumbers.{AreOf, all-numbers, none-beyond, sums-of_four}
use Rattle.wt_shards.proofs.SeenMore.{four-grew}
use Rattle.wt_shards.proofs.shards.Shards.seen_stats.Goals as goal

pub returns : goal.returns
returns g c =
    let K = g.row.K.Denot in
    let V = g.row.V.Denot in
    let members = members_by g.K.PartialEq.eq g.K.CacheKey.word g.V.Weighs.measure g.V.Answers.answers in
    let l : Layout = record { shards = c.self.inside.shards; config = c.self.inside.config } in
    let alike : c.pass.inside.shards ≡ c.self.inside.shards = sym c.pass.invariant.0 ∙ ap (λ (p : Place). p.shards) c.self.invariant.1 in
    let old : Seen K V = record {
      counts = record {
        shards = c.pass.inside.shards;
        counts = counts_of c.pass.inside.zero ∷ counts_of c.pass.inside.one ∷ counts_of c.pass.inside.two ∷ counts_of c.pass.inside.three ∷ [];
      };
      fronts = front_of c.pass.inside.zero ∷ front_of c.pass.inside.one ∷ front_of c.pass.inside.two ∷ front_of c.pass.inside.three ∷ [];
    } in
    let new : Seen K V = record {
      counts = record {
        shards = c.pass.inside.shards;
        counts = counts_of c.seen_stats_at-zero.new.pass ∷ counts_of c.seen_stats_at-one.new.pass ∷ counts_of c.seen_stats_at-two.new.pass
            ∷ counts_of c.seen_stats_at-three.new.pass ∷ [];
      };
      fronts = front_of c.seen_stats_at-zero.new.pass ∷ front_of c.seen_stats_at-one.new.pass ∷ front_of c.seen_stats_at-two.new.pass
          ∷ front_of c.seen_stats_at-three.new.pass ∷ [];
    } in
    let same : new.counts ≡ old.counts =
    (let z = c.seen_stats_at-zero.ensures.same in let o = c.seen_stats_at-one.ensures.same in let t = c.seen_stats_at-two.ensures.same in
    let h = c.seen_stats_at-three.ensures.same in cc) in
    let later : SeenMore old new = four-grew _ _ _ _ _ _ _ _ c.seen_stats_at-zero.ensures.later c.seen_stats_at-one.ensures.later
    c.seen_stats_at-two.ensures.later c.seen_stats_at-three.ensures.later in
    let of0 : AreOf members l old new 0 g.B.S0.ShardLedger.place c.seen_stats_at-zero.result = record {
      at = λ less. c.self.invariant.1;
      made = λ less. c.seen_stats_at-zero.ensures.made (c.pass.invariant.2.0 (omega (arith, less, alike)));
      none = λ few. c.seen_stats_at-zero.ensures.none (none-beyond _ 0 c.pass.inside.shards c.pass.invariant.2 (omega (arith, few, alike)));
      looked = c.seen_stats_at-zero.ensures.looked;
    } in
    let of1 : AreOf members l old new 1 g.B.S1.ShardLedger.place c.seen_stats_at-one.result = record {
      at = c.self.invariant.2;
      made = λ less. c.seen_stats_at-one.ensures.made (c.pass.invariant.3.0 (omega (arith, less, alike)));
      none = λ few. c.seen_stats_at-one.ensures.none (none-beyond _ 1 c.pass.inside.shards c.pass.invariant.3 (omega (arith, few, alike)));
      looked = c.seen_stats_at-one.ensures.looked;
    } in
    let of2 : AreOf members l old new 2 g.B.S2.ShardLedger.place c.seen_stats_at-two.result = record {
      at = c.self.invariant.3;
      made = λ less. c.seen_stats_at-two.ensures.made (c.pass.invariant.4.0 (omega (arith, less, alike)));
      none = λ few. c.seen_stats_at-two.ensures.none (none-beyond _ 2 c.pass.inside.shards c.pass.invariant.4 (omega (arith, few, alike)));
      looked = c.seen_stats_at-two.ensures.looked;
    } in
    let of3 : AreOf members l old new 3 g.B.S3.ShardLedger.place c.seen_stats_at-three.result = record {
      at = c.self.invariant.4;
      made = λ less. c.seen_stats_at-three.ensures.made (c.pass.invariant.5.0 (omega (arith, less, alike)));
      none = λ few. c.seen_stats_at-three.ensures.none (none-beyond _ 3 c.pass.inside.shards c.pass.invariant.5 (omega (arith, few, alike)));
      looked = c.seen_stats_at-three.ensures.looked;
    } in
    let sum = sums-of_four _ _ _ _ _ _ _ c.plus.ensures c.plus-2.ensures c.plus-3.ensures in
    let all = all-numbers members l old new _ _ _ _ _ _ _ _ c.self.invariant.0 of0 of1 of2 of3 same later in
    record {
      made = subst (λ (m : Layout). AreSeenNumbers members m c.args.pass.now new c.plus-3.result) c.self.view_is
          (subst (λ (before : Seen K V). AreSeenNumbers members l before new c.plus-3.result) c.pass.view_is
          (subst (AreSeenNumbers members l old new) (sym sum) all));
    }
