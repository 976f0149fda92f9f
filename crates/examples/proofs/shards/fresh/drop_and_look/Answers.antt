use Rattle.std.proofs.Common.{refl}
use Rattle.wt_core.specs.declared.calls.Call.TheVariants.{DropKey, Look}
use Rattle.wt_shards.specs.Place.{home_at, home_of}
use Rattle.examples.proofs.shards.fresh.drop_and_look.Goals as goal

pub returns : goal.returns
returns g c =
    let home = home_of g.K.CacheKey.word c.args.key c.args.shards.now in
    let itself = (g.met.K.Eq g.world.𝓛 g.world.𝓜 g.world.𝓡 ((λ s x. x), (λ x. x), (λ x. x), λ x. x)).laws.refl c.args.key in
    c.reads_are_fresh.ensures (home_at g.K.CacheKey.word c.args.key c.args.shards.now) c.args.key
    (DropKey c.args.key c.args.now) (Look c.args.key c.args.now)
    _ _ _ _ _ _ _ _ _ _ _ _
    c.in_ok-dropped.ensures.made.step (c.meet.ensures.that home) c.in_ok-found.ensures.made.step itself refl
