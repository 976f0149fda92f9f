-- Passes that move by landings, one after another.
use Rattle.std.proofs.Common.{◌≡◌, ℕ, ◌+◌, ◌≤◌, Bool, false, true, [], ◌∷◌, ◌++◌, refl, sym, ap, ◌∙◌, subst, inl, inr, append-nil, append_assoc, length, length-append, arith}
use Rattle.std.specs.Prelude.{◌⊎◌}
use Rattle.wt_regions.specs.Notices.{NoticeList, emptied}
use Rattle.wt_shards.specs.Told.{HasTold}
use Rattle.wt_shards.specs.Passes.{PassCounts, with_step}
use Rattle.wt_cache.proofs.Moved.{landed_none, landed_one, landed_both}
use Rattle.wt_cache.specs.Moves.{HasLanded, LandedSome, HasRun, HasRunIfAny, HasTaken}
use Rattle.wt_cache.specs.declared.line_view.LineView.{LineView}
use Rattle.wt_cache.specs.Line.{line_view}

pub some_none : (p : PassCounts) → LandedSome p p
some_none p = (0, landed_none 0 p)

pub some_one : (i : ℕ) (p q : PassCounts) → q ≡ with_step i false p → LandedSome p q
some_one i p q is = (1, landed_one i 1 p q is (omega arith))

-- one landing, or none
pub landed_once : (i : ℕ) (p q : PassCounts) → (q ≡ p) ⊎ (q ≡ with_step i false p) → HasLanded 1 p q
landed_once i p q (inl none) = let P : PassCounts → Type 0 = λ u. HasLanded 1 p u in subst P (sym none) (landed_none 1 p)
landed_once i p q (inr one) = landed_one i 1 p q one (omega arith)

-- landings, as many as this
pub some_of : (n : ℕ) (p q : PassCounts) → HasLanded n p q → LandedSome p q
some_of n p q a = (n, a)

-- an empty list that was filled and emptied is as it was
pub emptied_back : {K V : Type 0} (n : ℕ) (t u : NoticeList K V) → t.list ≡ [] → HasTold n t u → emptied u ≡ t
emptied_back {K} {V} n t u none told =
    let w : u.room + length u.list ≡ t.room + length t.list = told.whole in
    let z : length t.list ≡ 0 = ap length none in
    let room : u.room + length u.list ≡ t.room = omega (arith, w, z) in
    let with_room : ℕ → NoticeList K V = λ r. record { list = t.list; room = r } in
    rw (sym none) (ap with_room room)

-- nothing was run
pub ran_none : (lined : Bool) (home : ℕ) (p : PassCounts) → HasRunIfAny lined home p p
ran_none false home p = inl refl
ran_none true home p = some_none p

-- one landing at the key's shard, or none
pub ran_if_any : (lined : Bool) (home : ℕ) (p q : PassCounts) → (q ≡ p) ⊎ (q ≡ with_step home false p) → HasRunIfAny lined home p q
ran_if_any false home p q either = either
ran_if_any true home p q (inl none) = let P : PassCounts → Type 0 = λ u. LandedSome p u in subst P (sym none) (some_none p)
ran_if_any true home p q (inr one) = some_one home p q one

-- one landing at the key's shard
pub ran_one : (lined : Bool) (home : ℕ) (p q : PassCounts) → q ≡ with_step home false p → HasRun lined home p q
ran_one false home p q one = one
ran_one true home p q one = some_one home p q one

-- what a line leaves of a load's run
pub ran_lined : (lined : Bool) (home : ℕ) (p q : PassCounts) → lined ≡ true → LandedSome p q
    → HasRun lined home p q × HasRunIfAny lined home p q
ran_lined false home p q is moved = cc
ran_lined true home p q is moved = (moved, moved)

abbrev pub taken_none : {K : Type 0} (v : LineView K) → HasTaken 0 v v
taken_none v = record { taken = []; counted = refl; moved = ap (λ t. line_view v.puts t) (sym (append-nil v.takes)) }

abbrev pub taken_more : {K : Type 0} (n : ℕ) (y : ℕ × K) (u v w : LineView K) → HasTaken n u v
    → (k : ℕ) × (w ≡ line_view v.puts (v.takes ++ (k, y) ∷ [])) → HasTaken (n + 1) u w
taken_more n y u v w a more = let e = a.moved in record {
  taken = a.taken ++ (more.0, y) ∷ [];
  counted = (let c = a.counted in omega (arith, c, length-append a.taken ((more.0, y) ∷ [])));
  moved = more.1 ∙ rw e (ap (λ t. line_view u.puts t) (append_assoc u.takes a.taken ((more.0, y) ∷ [])));
}
