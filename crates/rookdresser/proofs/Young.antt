-- What a look-up of a thread's cache returns is young.
use Rattle.std.proofs.Common.{◌≡◌, ◌∷◌, [], ℕ, List, Option, Some, None, Result, Ok, Err, inl, inr, refl, sym, ap, ◌∙◌, subst}
use Rattle.std.specs.Prelude.{◌⊎◌}
use mathlib.Core.List.{IsPrefix}
use Rattle.wt_history.proofs.Fronts.{prefix_self, prefix_trans}
use Rattle.wt_keys.specs.declared.fault.Fault.{Fault}
use Rattle.wt_regions.specs.Notices.{NoticeList}
use Rattle.wt_core.specs.declared.calls.Call.{Call}
use Rattle.wt_core.specs.declared.calls.Call.TheVariants.{Look, Seek}
use Rattle.wt_core.specs.declared.calls.Reply.{Reply}
use Rattle.wt_core.specs.declared.calls.Reply.TheVariants as reply
use Rattle.wt_shards.specs.Contract.{IsHomeCall}
use Rattle.wt_shards.specs.History.{IsMade}
use Rattle.wt_shards.specs.Members.{Members}
use Rattle.wt_shards.specs.Passes.{Seen, SeenMore, front_at}
use Rattle.wt_shards.specs.Peeks.{FindsYoung, IsPeek}
use Rattle.wt_shards.specs.Place.{Layout, Place, home_at, home_of}
use Rattle.wt_shards.specs.Served.{HitsOnly, IsBroughtYoung}
use Rattle.wt_shards.specs.Tells.{IsTold, IsToldOf}
use Rattle.wt_shards.specs.Young.{ReadsYoung}
use Rattle.wt_shards.specs.declared.done.Done.{Done}
use Rattle.wt_shards.proofs.SeenMore.{made-grows, refused-grows}
use Rattle.wt_cache.specs.Calling.{Calling}
use Rattle.wt_cache.specs.Contract.{IsLentCall, IsLentGet}
use Rattle.wt_cache.specs.Gets.{IsHowOf}
use Rattle.wt_cache.specs.Peeks.{IsLentRead}
use Rattle.wt_cache.specs.declared.got.Got.{Got}
use Rattle.wt_cache.specs.declared.got.How.{How}
use Rattle.wt_cache.specs.declared.got.How.TheVariants.{Hit, Loaded, Joined, Refreshed}
use Rattle.rookdresser.specs.Doors.{IsReady}
use Rattle.rookdresser.specs.Gets.{HasMissed, IsFound, IsGet, IsGotten, IsLook, IsLooked, IsLookRead, IsRead, hit_of, seen_of, value_of}
use Rattle.rookdresser.specs.Young.{GetsYoung, IsOfLoad, IsYoung, LooksYoung, is_loaded}

module _ {K V : Type 0} (members : Members K V) (finds : (p : Place) → FindsYoung members p) (reads : (p : Place) → ReadsYoung members p)
    (key : K) (now : ℕ) where
  -- a call behind which at least as much is seen
  call-grows : (p : Place) (c : Call K V) (old new : Seen K V) (before list : NoticeList K V) (answer : Result (Done (Reply V)) Fault)
      → IsHomeCall members p c (λ r. r) old new before list answer → IsPrefix (front_at p.index old) (front_at p.index new)
  call-grows p c old new before list (Ok done) call = made-grows members p c done.reply done.step _ _ before list call.step
  call-grows p c old new before list (Err f) call = refused-grows members p c _ _ f call.cause

  told-grows : (p : Place) (mid new : Seen K V) (before list : NoticeList K V) (v : V)
      → IsToldOf members p key now mid new before list (Ok (Some v)) → IsPrefix (front_at p.index mid) (front_at p.index new)
  told-grows p mid new before list v (inl told) = call-grows p (Look key now) mid new before list told.answer told.look
  told-grows p mid new before list v (inr untold) =
      subst (λ (s : Seen K V). IsPrefix (front_at p.index mid) (front_at p.index s)) (sym untold.0.0) (prefix_self _)

  -- what a read finds
  read-young : (old new : Calling K V) (v : V) → IsLentRead members key now old new (Ok (Some v)) → IsYoung members key now old.cache.layout new v
  read-young old new v read =
      let p = home_at members.word key old.cache.layout in record {
        calls = front_at p.index read.made.mid;
        seen = told-grows p read.made.mid new.pass _ new.left v read.made.told;
        brought = finds p key now _ _ (Some v) read.made.peek.made;
      }

  -- what a seek or a look hits that was made
  hit-young : (l : Layout) (c : Call K V) (old mid : List (Call K V)) (new : Calling K V) (v : V) (answer : Reply V) (number : ℕ)
      (before list : NoticeList K V) → IsMade members (home_at members.word key l) c answer number old mid before list
      → (c ≡ Seek key now) ⊎ (c ≡ Look key now)
      → IsPrefix mid (front_at (home_of members.word key l) new.pass)
      → ((P : V → Type 0) → HitsOnly P answer → P v) → IsYoung members key now l new v
  hit-young l c old mid new v answer number before list made (inl is) more hits =
      let p = home_at members.word key l in
      let young = reads p key now (Seek key now) old mid answer number before list
      (subst (λ (x : Call K V). IsMade members p x answer number old mid before list) is made) (refl, refl) in record {
        calls = young.calls;
        seen = prefix_trans _ _ _ (Seek key now ∷ [], sym young.place) more;
        brought = hits (IsBroughtYoung members.eq members.word members.measure l.config young.calls key now) young.reads;
      }
  hit-young l c old mid new v answer number before list made (inr is) more hits =
      let p = home_at members.word key l in
      let young = reads p key now (Look key now) old mid answer number before list
      (subst (λ (x : Call K V). IsMade members p x answer number old mid before list) is made) (refl, refl) in record {
        calls = young.calls;
        seen = prefix_trans _ _ _ (Look key now ∷ [], sym young.place) more;
        brought = hits (IsBroughtYoung members.eq members.word members.measure l.config young.calls key now) young.reads;
      }

  module _ (returns : K → Result V ℕ → Type 0) where
    abbrev Outcome : Layout → Calling K V → V → Type 0
    Outcome l new v = IsYoung members key now l new v ⊎ IsOfLoad members key now returns new v

    -- what a get of a caller brings
    got-young : (mid new : Calling K V) (value : V) (how : How) (step : ℕ)
        → IsLentGet members returns key now mid new (Ok (record { value = value; how = how; step = step }))
        → Outcome mid.cache.layout new value
    got-young mid new value Hit step get =
        let s = get.sought in
        inl (hit-young mid.cache.layout (Seek key now) _ _ new value s.answer step _ _ s.seek.made (inl refl)
        (s.later (home_of members.word key mid.cache.layout))
        (λ P only. subst (HitsOnly P) s.followed.0 only))
    got-young mid new value Refreshed step get =
        let s = get.sought in
        inl (hit-young mid.cache.layout (Seek key now) _ _ new value s.answer step _ _ s.seek.made (inl refl)
        (s.later (home_of members.word key mid.cache.layout))
        (λ P only. subst (HitsOnly P) s.followed.1 only))
    got-young mid new value Loaded step get = inr (record { mid = mid; got = _; get = get; value = refl; loaded = refl })
    got-young mid new value Joined step get = inr (record { mid = mid; got = _; get = get; value = refl; loaded = refl })

    -- the same with what it returns
    gotten-young : (mid new : Calling K V) (got : Result (Got V) Fault) (v : V) → IsLentGet members returns key now mid new got
        → Ok v ≡ value_of got → Outcome mid.cache.layout new v
    gotten-young mid new (Ok got) v get is =
        let same : v ≡ got.value = cc in
        subst (Outcome mid.cache.layout new) (sym same) (got-young mid new got.value got.how got.step get)
    gotten-young mid new (Err f) v get is = absurd (cc)

    found-young : (old new : Calling K V) (found : Result (Option V) Fault) (v : V) → IsLentRead members key now old new found
        → IsFound found (Ok v) → IsYoung members key now old.cache.layout new v
    found-young old new (Ok (Some w)) v read is =
        let same : v ≡ w = cc in
        subst (IsYoung members key now old.cache.layout new) (sym same) (read-young old new w read)
    found-young old new (Ok None) v read is = absurd is
    found-young old new (Err f) v read is = absurd (cc)

    missed-layout : (old mid : Calling K V) → (mid ≡ old) ⊎ HasMissed members key now old mid → mid.cache.layout ≡ old.cache.layout
    missed-layout old mid (inl same) = ap (λ (c : Calling K V). c.cache.layout) same
    missed-layout old mid (inr missed) = ap (λ c. c.layout) missed.same

    brought-young : (old new : Calling K V) (v : V)
        → IsRead members key now returns old new (Ok v) ⊎ IsGotten members key now returns old new (Ok v) → Outcome old.cache.layout new v
    brought-young old new v (inl read) = inl (found-young old new read.found v read.read read.brought)
    brought-young old new v (inr gotten) =
        subst (λ (l : Layout). Outcome l new v) (missed-layout old gotten.mid gotten.missed)
        (gotten-young gotten.mid new gotten.got v gotten.get gotten.brought)

  ready-layout : (old mid : Calling K V) → IsReady members key now old mid → mid.cache.layout ≡ old.cache.layout
  ready-layout old mid (inl same) = ap (λ (c : Calling K V). c.cache.layout) same
  ready-layout old mid (inr slid) = ap (λ c. c.layout) slid.same

module _ {K V : Type 0} (members : Members K V) (finds : (p : Place) → FindsYoung members p) (reads : (p : Place) → ReadsYoung members p) where
  pub gets-young : (returns : K → Result V ℕ → Type 0) → GetsYoung members returns
  gets-young returns key now old new v get =
      subst (λ (l : Layout). IsYoung members key now l new v ⊎ IsOfLoad members key now returns new v)
      (ready-layout members finds reads key now old get.mid get.ready)
      (brought-young members finds reads key now returns get.mid new v get.brought)

  hit-of-some : (r : Reply V) (v : V) → hit_of r ≡ Some v → r ≡ reply.Hit v
  hit-of-some (reply.Hit w) v is = let same : w ≡ v = cc in ap (λ x. reply.Hit x) same
  hit-of-some r v is = absurd (cc)

  module _ (key : K) (now : ℕ) where
    look-young : (mid new : Calling K V) (done : Result (Done (Reply V)) Fault) (v : V)
        → IsLentCall members key (Look key now) (λ r. r) mid new done → Ok (Some v) ≡ seen_of done → IsYoung members key now mid.cache.layout new v
    look-young mid new (Ok done) v look is =
        let some : hit_of done.reply ≡ Some v = cc in
        let hit = hit-of-some done.reply v some in
        hit-young members finds reads key now mid.cache.layout (Look key now) _ _ new v done.reply done.step _ _ look.made.step (inr refl)
        (prefix_self _) (λ P only. subst (HitsOnly P) hit only)
    look-young mid new (Err f) v look is = absurd (cc)

    seen-young : (old new : Calling K V) (v : V) → IsLookRead members key now old new (Ok (Some v)) ⊎ IsLooked members key now old new (Ok (Some v))
        → IsYoung members key now old.cache.layout new v
    seen-young old new v (inl read) = read-young members finds reads key now old new v read.read
    seen-young old new v (inr looked) =
        let same : looked.mid.cache.layout ≡ old.cache.layout = ap (λ c. c.layout) looked.missed.same in
        subst (λ (l : Layout). IsYoung members key now l new v) same (look-young looked.mid new looked.done v looked.look looked.brought)

  pub looks-young : LooksYoung members
  looks-young key now old new v look =
      subst (λ (l : Layout). IsYoung members key now l new v) (ready-layout members finds reads key now old look.mid look.ready)
      (seen-young key now look.mid new v look.seen)
