-- A region gone through from last to first.
use Rattle.std.proofs.Common.{◌≡◌, ℕ, zero, suc, ◌+◌, ◌-◌, ◌<◌, ◌≤◌, Bool, true, false, cond, List, [], ◌∷◌, ◌++◌, length, take, drop, Some, None, refl, sym, ap, subst, ◌∙◌, arith, length-append, append_assoc}
use Rattle.std.specs.List.{IsDistinct}
use Rattle.std.specs.List.Sorted.{IsPermutation}
use Rattle.std.specs.Map.{keys_of, lookup, lookup_entry, remove_entry}
use Rattle.std.specs.Cmp.{IsEquivalence}
use Rattle.std.proofs.lemmas.List.{length-take}
use Rattle.std.proofs.lemmas.List.Sorted.{IsPermutation-to_front, IsPermutation-map}
use Rattle.std.proofs.lemmas.Map.Keys.{IsDistinct-IsPermutation}
use Rattle.std.proofs.Math.Seq.{take-append_seam}
use Rattle.lru.proofs.Pairs.{slice_get-cut}
use Rattle.lru.specs.LruCache.{LruCache, lru_cache, last_entry, promoted}
use Rattle.wt_regions.specs.declared.caps.Caps.{Caps}
use Rattle.wt_regions.specs.declared.notices.Cause.TheVariants.{Expired, Explicit}
use Rattle.wt_regions.proofs.Moves.{IsPermutation-last}
use Rattle.wt_regions.proofs.Apart.{last_apart, no_last}
use Rattle.wt_regions.proofs.Sound.{keys-all_but_last}
use Rattle.wt_regions.proofs.Weights.{weights-moves, weights-cons}
use Rattle.wt_regions.proofs.Loop.{appended-twice}
use Rattle.wt_regions.specs.Lists.{Entry, all_but_last, is_expired, notice, weights, lasting}
use Rattle.wt_regions.specs.Steps.{expired_of, live_of, told_back}
use Rattle.wt_regions.specs.Notices.{NoticeList, appended}

-- the place before the part that was gone through
pub step_at : {X : Type 0} (n : ℕ) (xs : List X) → n < length xs → (x : X) × (drop n xs ≡ x ∷ drop (suc n) xs)
    × (take (suc n) xs ≡ take n xs ++ x ∷ [])
step_at n [] h = absurd (omega arith)
step_at zero (x ∷ xs) h = (x, refl, refl)
step_at (suc n) (x ∷ xs) h = let s = step_at n xs (omega (arith, h)) in (s.0, s.1, ap (λ ys. x ∷ ys) s.2)

pub last_snoc : {K V : Type 0} (ys : List (K × V)) (x : K × V) → last_entry (ys ++ x ∷ []) ≡ Some x
last_snoc ys x = let n : length (ys ++ x ∷ []) - 1 ≡ length ys = omega (arith, length-append ys (x ∷ [])) in rw n (slice_get-cut ys x [])

pub all_but_last_snoc : {X : Type 0} (ys : List X) (x : X) → take (length (ys ++ x ∷ []) - 1) (ys ++ x ∷ []) ≡ ys
all_but_last_snoc ys x = let n : length (ys ++ x ∷ []) - 1 ≡ length ys = omega (arith, length-append ys (x ∷ [])) in
    rw n (take-append_seam ys (x ∷ []))

module _ {K X : Type 0} (test : K → Bool) where
  entry_snoc : (ys : List (K × X)) (x : K × X) → lookup test ys ≡ None → test x.0 ≡ true → lookup_entry test (ys ++ x ∷ []) ≡ Some x
  entry_snoc [] x h t = rw t
  entry_snoc (y ∷ ys) x h t = (elim (test y.0) as
      (λ b. cond b (Some y.1) (lookup test ys) ≡ None → cond b (Some y) (lookup_entry test (ys ++ x ∷ [])) ≡ Some x) [
        | true ↦ λ q. cc
        | false ↦ λ q. entry_snoc ys x q t
      ]) h

  remove_snoc : (ys : List (K × X)) (x : K × X) → lookup test ys ≡ None → test x.0 ≡ true → remove_entry test (ys ++ x ∷ []) ≡ ys
  remove_snoc [] x h t = rw t
  remove_snoc (y ∷ ys) x h t = (elim (test y.0) as
      (λ b. cond b (Some y.1) (lookup test ys) ≡ None
      → cond b (ys ++ x ∷ []) (y ∷ remove_entry test (ys ++ x ∷ [])) ≡ y ∷ ys) [
        | true ↦ λ q. cc
        | false ↦ λ q. ap (λ zs. y ∷ zs) (remove_snoc ys x q t)
      ]) h

module _ {K V : Type 0} (eq : K → K → Bool) (laws : IsEquivalence eq) where
  -- `promote` of the last brings it to the front
  promoted_last : (ys : List (Entry K V)) (x : Entry K V) → IsDistinct eq (keys_of (ys ++ x ∷ []))
      → promoted (eq x.0) (ys ++ x ∷ []) ≡ x ∷ ys
  promoted_last ys x d =
      let n : lookup (eq x.0) ys ≡ None = last_apart eq laws ys (x ∷ []) x d refl in
      rw (entry_snoc (eq x.0) ys x n (laws.refl x.0), remove_snoc (eq x.0) ys x n (laws.refl x.0))

  distinct_all_but_last : (ys : List (Entry K V)) (x : Entry K V) → IsDistinct eq (keys_of (ys ++ x ∷ [])) → IsDistinct eq (keys_of ys)
  distinct_all_but_last ys x d =
      keys-all_but_last eq laws (λ _. lasting 0) x (ys ++ x ∷ []) ys (IsPermutation-to_front ys x) d

  distinct_turned : (ys : List (Entry K V)) (x : Entry K V) → IsDistinct eq (keys_of (ys ++ x ∷ [])) → IsDistinct eq (keys_of (x ∷ ys))
  distinct_turned ys x d = IsDistinct-IsPermutation eq laws.symm (keys_of (ys ++ x ∷ [])) (keys_of (x ∷ ys))
      (IsPermutation-map (λ (e : Entry K V). e.0) (ys ++ x ∷ []) (x ∷ ys) (IsPermutation-to_front ys x)) d

  -- while the expired leave: left places are still to be seen
  pub record IsCleaning (now : ℕ) (c : Caps) (es0 : List (Entry K V)) (t0 : NoticeList K V) (w0 left : ℕ)
      (es : List (Entry K V)) (t : NoticeList K V) (w : ℕ) : Type 0 where
    pub entries : es ≡ live_of now c (drop left es0) ++ take left es0
    pub told : t ≡ appended (expired_of now c (drop left es0)) t0
    pub distinct : IsDistinct eq (keys_of es)
    pub within : left ≤ length es0
    pub room : left ≤ t.room
    pub weight : w + weights es0 ≡ w0 + weights es
    pub low : weights es0 ≤ w0
    pub lighter : w ≤ w0

  module _ (now : ℕ) (c : Caps) (es0 : List (Entry K V)) (t0 : NoticeList K V) (w0 : ℕ) where
    Loop : ℕ → List (Entry K V) → NoticeList K V → ℕ → Type 0
    Loop left es t w = IsCleaning now c es0 t0 w0 left es t w

    none_dropped : (xs : List (Entry K V)) → drop (length xs) xs ≡ []
    none_dropped [] = refl
    none_dropped (x ∷ xs) = none_dropped xs

    -- one turn: the last, which stood at that place
    pub record IsTurned (left : ℕ) (es : List (Entry K V)) (l : Entry K V) : Type 0 where
      pub ys : List (Entry K V)
      pub snoc : es ≡ ys ++ l ∷ []
      pub is : ys ≡ live_of now c (drop (suc left) es0) ++ take left es0
      pub dropped : drop left es0 ≡ l ∷ drop (suc left) es0

    turned : (left : ℕ) (es : List (Entry K V)) (t : NoticeList K V) (w : ℕ) (l : Entry K V)
        → IsCleaning now c es0 t0 w0 (suc left) es t w → last_entry es ≡ Some l → IsTurned left es l
    turned left es t w l cl is =
        let s = step_at left es0 (omega (arith, cl.within)) in
        let ys : List (Entry K V) = live_of now c (drop (suc left) es0) ++ take left es0 in
        let whole : es ≡ ys ++ s.0 ∷ [] = cl.entries
        ∙ ap (λ (zs : List (Entry K V)). live_of now c (drop (suc left) es0) ++ zs) s.2
        ∙ sym (append_assoc (live_of now c (drop (suc left) es0)) (take left es0) (s.0 ∷ [])) in
        let last : Some s.0 ≡ Some l = sym (last_snoc ys s.0) ∙ sym (ap last_entry whole) ∙ is in
        let same : s.0 ≡ l = cc in
        record {
          ys = ys;
          snoc = subst (λ (x : Entry K V). es ≡ ys ++ x ∷ []) same whole;
          is = refl;
          dropped =
              subst (λ (x : Entry K V). drop left es0 ≡ x ∷ drop (suc left) es0) same s.1;
        }

    -- it is expired and leaves
    pub cleaning-out : (left : ℕ) (es : List (Entry K V)) (t : NoticeList K V) (w : ℕ) (l : Entry K V)
        (t' : NoticeList K V) → IsCleaning now c es0 t0 w0 (suc left) es t w → last_entry es ≡ Some l
        → is_expired c now l.1 ≡ true
        → t' ≡ appended (notice Expired l ∷ []) t
        → IsCleaning now c es0 t0 w0 left (all_but_last es) t' (w - l.1.weight) × (l.1.weight ≤ w) × (0 < t.room)
    cleaning-out left es t w l t' cl last old it =
        let s = turned left es t w l cl last in
        let f : all_but_last es ≡ s.ys = ap all_but_last s.snoc ∙ all_but_last_snoc s.ys l in
        let m = weights-moves es (l ∷ all_but_last es) (IsPermutation-last es l last) in
        let p = weights-cons l (all_but_last es) in
        let d : IsDistinct eq (keys_of (s.ys ++ l ∷ [])) =
        subst (λ (zs : List (Entry K V)). IsDistinct eq (keys_of zs)) s.snoc cl.distinct in (
          record {
            entries = rw (f, s.dropped, old) s.is;
            told = rw (it, cl.told, s.dropped, old)
                (sym (appended-twice (expired_of now c (drop (suc left) es0)) (notice Expired l ∷ []) t0));
            distinct = rw f (distinct_all_but_last s.ys l d);
            within = omega (arith, cl.within);
            room = rw it (omega (arith, cl.room));
            weight = omega (arith, cl.weight, cl.low, m, p);
            low = cl.low;
            lighter = omega (arith, cl.lighter);
          },
          omega (arith, cl.weight, cl.low, m, p),
          omega (arith, cl.room),
        )

    -- it stays and comes to the front
    pub cleaning-stays : (left : ℕ) (es : List (Entry K V)) (t : NoticeList K V) (w : ℕ) (l : Entry K V)
        (es' : List (Entry K V)) → IsCleaning now c es0 t0 w0 (suc left) es t w → last_entry es ≡ Some l
        → is_expired c now l.1 ≡ false
        → es' ≡ promoted (eq l.0) es → IsCleaning now c es0 t0 w0 left es' t w
    cleaning-stays left es t w l es' cl last fresh it =
        let s = turned left es t w l cl last in
        let d : IsDistinct eq (keys_of (s.ys ++ l ∷ [])) =
        subst (λ (zs : List (Entry K V)). IsDistinct eq (keys_of zs)) s.snoc cl.distinct in
        let f : es' ≡ l ∷ s.ys = it ∙ ap (promoted (eq l.0)) s.snoc ∙ promoted_last s.ys l d in
        let m : weights (l ∷ s.ys) ≡ weights es =
        weights-moves es (l ∷ s.ys) (subst (λ (zs : List (Entry K V)). IsPermutation zs (l ∷ s.ys)) (sym s.snoc)
        (IsPermutation-to_front s.ys l)) in
        record {
          entries = rw (f, s.dropped, fresh) (ap (λ (zs : List (Entry K V)). l ∷ zs) s.is);
          told = rw (s.dropped, fresh) cl.told;
          distinct = rw f (distinct_turned s.ys l d);
          within = omega (arith, cl.within);
          room = omega (arith, cl.room);
          weight = rw f (omega (arith, cl.weight, m));
          low = cl.low;
          lighter = cl.lighter;
        }

    one_less : (n : ℕ) → 0 < n → n ≡ suc (n - 1)
    one_less n h = omega (arith, h)

    pub out : (n : ℕ) (es : List (Entry K V)) (t : NoticeList K V) (w : ℕ) (l : Entry K V) (t' : NoticeList K V) → 0 < n
        → IsCleaning now c es0 t0 w0 n es t w → last_entry es ≡ Some l → is_expired c now l.1 ≡ true
        → t' ≡ appended (notice Expired l ∷ []) t
        → IsCleaning now c es0 t0 w0 (n - 1) (all_but_last es) t' (w - l.1.weight) × (l.1.weight ≤ w) × (0 < t.room)
    out n es t w l t' h cl last old it =
        cleaning-out (n - 1) es t w l t'
        (subst (λ m. IsCleaning now c es0 t0 w0 m es t w) (one_less n h) cl) last old it

    pub stays : (n : ℕ) (es : List (Entry K V)) (t : NoticeList K V) (w : ℕ) (l : Entry K V) (es' : List (Entry K V))
        → 0 < n → IsCleaning now c es0 t0 w0 n es t w → last_entry es ≡ Some l → is_expired c now l.1 ≡ false
        → es' ≡ promoted (eq l.0) es → IsCleaning now c es0 t0 w0 (n - 1) es' t w
    stays n es t w l es' h cl last fresh it =
        cleaning-stays (n - 1) es t w l es'
        (subst (λ m. IsCleaning now c es0 t0 w0 m es t w) (one_less n h) cl) last fresh it

-- ---- every entry leaves
module _ {K V : Type 0} (now : ℕ) (c : Caps) (es0 : List (Entry K V)) (t0 : NoticeList K V) where
  pub record IsClearing (n : ℕ) (es : List (Entry K V)) (t : NoticeList K V) : Type 0 where
    pub is : n ≡ length es
    pub entries : es ≡ take n es0
    pub told : t ≡ appended (told_back now c (drop n es0)) t0
    pub within : n ≤ length es0
    pub room : n ≤ t.room

  all_dropped : (xs : List (Entry K V)) → drop (length xs) xs ≡ []
  all_dropped [] = refl
  all_dropped (x ∷ xs) = all_dropped xs

  clearing-out : (n : ℕ) (es : List (Entry K V)) (t : NoticeList K V) (l : Entry K V) (t' : NoticeList K V)
      → IsClearing (suc n) es t → last_entry es ≡ Some l
      → t' ≡ appended (notice (cond (is_expired c now l.1) Expired Explicit) l ∷ []) t
      → IsClearing n (all_but_last es) t'
  clearing-out n es t l t' cl last it =
      let s = step_at n es0 (omega (arith, cl.within)) in
      let whole : es ≡ take n es0 ++ s.0 ∷ [] = cl.entries ∙ s.2 in
      let x : Some s.0 ≡ Some l = sym (last_snoc (take n es0) s.0) ∙ sym (ap last_entry whole) ∙ last in
      let same : s.0 ≡ l = cc in
      let dropped : drop n es0 ≡ l ∷ drop (suc n) es0 = subst (λ (y : Entry K V). drop n es0 ≡ y ∷ drop (suc n) es0) same s.1 in
      let f : all_but_last es ≡ take n es0 = ap all_but_last whole ∙ all_but_last_snoc (take n es0) s.0 in
      let k = length-take (length es - 1) es in
      record {
        is = omega (arith, k, cl.is);
        entries = f;
        told = rw (it, cl.told, dropped)
            (sym (appended-twice (told_back now c (drop (suc n) es0))
            (notice (cond (is_expired c now l.1) Expired Explicit) l ∷ []) t0));
        within = omega (arith, cl.within);
        room = rw it (omega (arith, cl.room));
      }

  pub clearing-turn : (es : List (Entry K V)) (t : NoticeList K V) (l : Entry K V) (t' : NoticeList K V)
      → IsClearing (length es) es t → last_entry es ≡ Some l
      → t' ≡ appended (notice (cond (is_expired c now l.1) Expired Explicit) l ∷ []) t
      → IsClearing (length (all_but_last es)) (all_but_last es) t' × (length (all_but_last es) < length es)
  clearing-turn [] t l t' cl last it = cc
  clearing-turn (e ∷ es) t l t' cl last it =
      let k = length-take (length (e ∷ es) - 1) (e ∷ es) in
      let n : length (all_but_last (e ∷ es)) ≡ length es = omega (arith, k) in
      let r = clearing-out (length es) (e ∷ es) t l t' cl last it in
      (subst (λ m. IsClearing m (all_but_last (e ∷ es)) t') (sym n) r, omega (arith, n))

  pub clearing-end : (es : List (Entry K V)) (t : NoticeList K V) → IsClearing (length es) es t → last_entry es ≡ None
      → (es ≡ []) × (t ≡ appended (told_back now c es0) t0)
  clearing-end es t cl last = let e = no_last es last in
      let z : IsClearing 0 [] t = subst (λ (zs : List (Entry K V)). IsClearing (length zs) zs t) e cl in
      (e, z.told)

pub cache-is : {K X : Type 0} (d : LruCache K X) (es : List (K × X)) (n : ℕ) → d.entries ≡ es → d.cap ≡ n → d ≡ lru_cache es n
cache-is d es n h k = rw (← h, ← k) refl
