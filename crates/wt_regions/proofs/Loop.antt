-- The loop of trim, step by step.
use Rattle.std.proofs.Common.{◌≡◌, ℕ, zero, suc, ◌+◌, ◌-◌, ◌<◌, ◌≤◌, Bool, true, false, cond, not, List, [], ◌∷◌, ◌++◌, length, Option, Some, None, refl, sym, ap, subst, ◌∙◌, arith, rules, length-append, append_assoc}
use Rattle.std.specs.Prelude.{nat_le}
use Rattle.std.specs.Option.{option_map_or}
use Rattle.std.specs.List.{list_any}
use Rattle.std.proofs.lemmas.List.{length-take, append-nil}
use Rattle.lru.specs.LruCache.{last_entry}
use Rattle.wt_regions.specs.declared.caps.Caps.{Caps}
use Rattle.wt_regions.specs.declared.notices.Notice.{Notice}
use Rattle.wt_regions.specs.declared.notices.Cause.TheVariants.{Size}
use Rattle.wt_regions.proofs.Apart.{no_last_none}
use Rattle.wt_regions.proofs.First.{one_first}
use Rattle.wt_regions.specs.Lists.{Entry, Lists, all_entries, all_but_last, lists_of, notice, weight_of}
use Rattle.wt_regions.specs.Settle.{holds_other, last_told, trimmed, trimmed_once, trimmed_within}
use Rattle.wt_regions.specs.Notices.{NoticeList, appended}
use Rattle.wt_regions.specs.Moves.{IsFirst, IsStep, others}

in_bound : (a b : ℕ) → a ≤ b → nat_le a b ≡ true
in_bound a b h = search (rules, arith)

over_bound : (a b : ℕ) → b < a → nat_le a b ≡ false
over_bound a b h = search (rules, arith)

module _ {K V : Type 0} where
  out_at : (x : Entry K V) (xs : List (Entry K V)) (o : Option (Entry K V)) → last_entry (x ∷ xs) ≡ o
      → length (option_map_or (λ e. notice Size e ∷ []) o []) ≡ 1
  out_at x xs None h = absurd (no_last_none x xs h)
  out_at x xs (Some l) h = omega arith

  -- a list that holds another entry gives up one
  pub out_one : (f : Entry K V → Bool) (es : List (Entry K V)) → list_any f es ≡ true → (length (last_told Size es) ≡ 1)
      × (suc (length (all_but_last es)) ≡ length es)
  out_one f [] h = cc
  out_one f (x ∷ xs) h = (out_at x xs (last_entry (x ∷ xs)) refl, let n = length-take (length (x ∷ xs) - 1) (x ∷ xs) in omega (arith, n))

  pub appended-twice : (ns ms : List (Notice K V)) (t : NoticeList K V) → appended (ns ++ ms) t ≡ appended ms (appended ns t)
  appended-twice ns ms t = let a = append_assoc t.list ns ms in
      let b : t.room - length (ns ++ ms) ≡ (t.room - length ns) - length ms = omega (arith, length-append ns ms) in
      rw (a, b)

  pub appended-none : (t : NoticeList K V) → appended [] t ≡ t
  appended-none t = let a = append-nil t.list in let b : t.room - length {A = Notice K V} [] ≡ t.room = omega arith in rw (a, b)

  module _ (eq : K → K → Bool) (k : K) where
    -- one step has one notice and one entry less
    one_less_at : (c : Caps) (ws ps qs : List (Entry K V)) (a b d : Bool) → holds_other eq k ps ≡ a
        → holds_other eq k qs ≡ b → holds_other eq k ws ≡ d
        → (one : Lists K V × List (Notice K V))
        → cond a (Some (lists_of c ws (all_but_last ps) qs, last_told Size ps))
        (cond b (Some (lists_of c ws ps (all_but_last qs), last_told Size qs))
        (cond d (Some (lists_of c (all_but_last ws) ps qs, last_told Size ws)) None)) ≡ Some one
        → (length one.1 ≡ 1) × (suc (length (all_entries one.0)) ≡ length (all_entries (lists_of c ws ps qs))) × (one.0.caps ≡ c)
    one_less_at c ws ps qs true b d ha hb hd one h = let o = out_one (λ e. not (eq k e.0)) ps ha in
        let is : (lists_of c ws (all_but_last ps) qs, last_told Size ps) ≡ one = cc in
        subst (λ (p : Lists K V × List (Notice K V)). (length p.1 ≡ 1)
        × (suc (length (all_entries p.0)) ≡ length (all_entries (lists_of c ws ps qs))) × (p.0.caps ≡ c)) is (
          o.0,
          omega (
            arith,
            o.1,
            length-append ws (ps ++ qs),
            length-append ps qs,
            length-append ws (all_but_last ps ++ qs),
            length-append (all_but_last ps) qs,
          ),
          refl,
        )
    one_less_at c ws ps qs false true d ha hb hd one h = let o = out_one (λ e. not (eq k e.0)) qs hb in
        let is : (lists_of c ws ps (all_but_last qs), last_told Size qs) ≡ one = cc in
        subst (λ (p : Lists K V × List (Notice K V)). (length p.1 ≡ 1)
        × (suc (length (all_entries p.0)) ≡ length (all_entries (lists_of c ws ps qs))) × (p.0.caps ≡ c)) is (
          o.0,
          omega (
            arith,
            o.1,
            length-append ws (ps ++ qs),
            length-append ps qs,
            length-append ws (ps ++ all_but_last qs),
            length-append ps (all_but_last qs),
          ),
          refl,
        )
    one_less_at c ws ps qs false false true ha hb hd one h = let o = out_one (λ e. not (eq k e.0)) ws hd in
        let is : (lists_of c (all_but_last ws) ps qs, last_told Size ws) ≡ one = cc in
        subst (λ (p : Lists K V × List (Notice K V)). (length p.1 ≡ 1)
        × (suc (length (all_entries p.0)) ≡ length (all_entries (lists_of c ws ps qs))) × (p.0.caps ≡ c)) is
        (o.0, omega (arith, o.1, length-append ws (ps ++ qs), length-append (all_but_last ws) (ps ++ qs)), refl)
    one_less_at c ws ps qs false false false ha hb hd one h = cc

    pub one_less : (r : Lists K V) (one : Lists K V × List (Notice K V)) → trimmed_once eq k r ≡ Some one
        → (length one.1 ≡ 1) × (suc (length (all_entries one.0)) ≡ length (all_entries r)) × (one.0.caps ≡ r.caps)
    one_less r one h = one_less_at r.caps r.window r.probation r.protected (holds_other eq k r.probation)
        (holds_other eq k r.protected) (holds_other eq k r.window) refl refl refl one h

    -- where the weights are within the bound, or no entry can go, trim leaves all as it is
    pub trimmed-done : (n : ℕ) (r : Lists K V) → nat_le (weight_of r) r.caps.bound ≡ true → trimmed_within eq k n r ≡ (r, [])
    trimmed-done zero r h = refl
    trimmed-done (suc n) r h = rw h

    done_either : (b : Bool) (p : Lists K V × List (Notice K V)) → cond b p p ≡ p
    done_either true p = refl
    done_either false p = refl

    pub trimmed-stuck : (n : ℕ) (r : Lists K V) → trimmed_once eq k r ≡ None → trimmed_within eq k n r ≡ (r, [])
    trimmed-stuck zero r h = refl
    trimmed-stuck (suc n) r h = rw h (done_either (nat_le (weight_of r) r.caps.bound) (r, []))

    trimmed-next : (n : ℕ) (r : Lists K V) (one : Lists K V × List (Notice K V))
        → nat_le (weight_of r) r.caps.bound ≡ false → trimmed_once eq k r ≡ Some one
        → trimmed_within eq k (suc n) r ≡ ((trimmed_within eq k n one.0).0, one.1 ++ (trimmed_within eq k n one.0).1)
    trimmed-next n r one h is = rw (h, is)

    -- what one turn of the loop keeps
    pub record IsTurn (r : Lists K V) (t : NoticeList K V) (n : ℕ) (r' : Lists K V) (t' : NoticeList K V) : Type 0 where
      pub lists : (trimmed eq k r').0 ≡ (trimmed eq k r).0
      pub told : appended (trimmed eq k r').1 t' ≡ appended (trimmed eq k r).1 t
      pub weight : weight_of r' + n ≡ weight_of r
      pub shorter : suc (length (all_entries r')) ≡ length (all_entries r)
      pub room : t'.room ≡ t.room - 1
      pub first : IsFirst eq k r → IsFirst eq k r' × (suc (others eq k (all_entries r')) ≡ others eq k (all_entries r))

    turn_at : (r : Lists K V) (t : NoticeList K V) (n : ℕ) (r' : Lists K V) (t' : NoticeList K V)
        (o : Option (Lists K V × List (Notice K V))) → trimmed_once eq k r ≡ o
        → nat_le (weight_of r) r.caps.bound ≡ false → IsStep o r t (Some n) r' t' → IsTurn r t n r' t'
    turn_at r t n r' t' None is over s = let no = s.0 in cc
    turn_at r t n r' t' (Some one) is over s =
        let less = one_less r one is in
        let same : one.0 ≡ r' = sym s.0 in
        let ns : ℕ = length (all_entries one.0) in
        let next : trimmed eq k r ≡ ((trimmed eq k one.0).0, one.1 ++ (trimmed eq k one.0).1) =
        subst (λ m. trimmed_within eq k m r ≡ ((trimmed eq k one.0).0, one.1 ++ (trimmed eq k one.0).1)) less.1
        (trimmed-next ns r one over is) in
        let w : n ≡ s.2.0 = cc (s.2.1) in
        record {
          lists = rw s.0 (sym (ap (λ (p : Lists K V × List (Notice K V)). p.0) next));
          told = let q : (trimmed eq k r).1 ≡ one.1 ++ (trimmed eq k one.0).1 = ap (λ (p : Lists K V × List (Notice K V)). p.1) next in
              rw (s.0, s.1) (sym (ap (λ (ms : List (Notice K V)). appended ms t) q ∙ appended-twice one.1 (trimmed eq k one.0).1 t));
          weight = rw w s.2.2;
          shorter = rw s.0 less.1;
          room = rw (s.1, less.0);
          first = λ f. rw s.0 (one_first eq k r one is f);
        }

    pub turn : (r : Lists K V) (t : NoticeList K V) (n : ℕ) (r' : Lists K V) (t' : NoticeList K V)
        → nat_le (weight_of r) r.caps.bound ≡ false
        → IsStep (trimmed_once eq k r) r t (Some n) r' t' → IsTurn r t n r' t'
    turn r t n r' t' over s = turn_at r t n r' t' (trimmed_once eq k r) refl over s

    -- the last turn, where no entry can go
    stuck_at : (r : Lists K V) (t : NoticeList K V) (r' : Lists K V) (t' : NoticeList K V)
        (o : Option (Lists K V × List (Notice K V))) → trimmed_once eq k r ≡ o → IsStep o r t None r' t' → (o ≡ None)
        × (r' ≡ r) × (t' ≡ t)
    stuck_at r t r' t' None is s = (refl, s.1, s.2)
    stuck_at r t r' t' (Some one) is s = let no = s.2.1 in cc

    pub stuck : (r : Lists K V) (t : NoticeList K V) (r' : Lists K V) (t' : NoticeList K V)
        → IsStep (trimmed_once eq k r) r t None r' t' → (trimmed_once eq k r ≡ None) × (r' ≡ r) × (t' ≡ t)
    stuck r t r' t' s = stuck_at r t r' t' (trimmed_once eq k r) refl s

    -- at regions r and notices t, with the weight w, after turns from r0 and t0
    pub record IsTrimming (r0 : Lists K V) (t0 : NoticeList K V) (r : Lists K V) (t : NoticeList K V) (w : ℕ) : Type 0 where
      pub lists : (trimmed eq k r).0 ≡ (trimmed eq k r0).0
      pub told : appended (trimmed eq k r).1 t ≡ appended (trimmed eq k r0).1 t0
      pub weight : w ≡ weight_of r
      pub first : IsFirst eq k r
      pub room : others eq k (all_entries r) ≤ t.room

    pub trimming-turn : (r0 : Lists K V) (t0 : NoticeList K V) (r : Lists K V) (t : NoticeList K V) (w n : ℕ)
        (r' : Lists K V) (t' : NoticeList K V) → IsTrimming r0 t0 r t w → r.caps.bound < w
        → IsStep (trimmed_once eq k r) r t (Some n) r' t' → IsTrimming r0 t0 r' t' (w - n) × (n ≤ w)
        × (length (all_entries r') < length (all_entries r))
    trimming-turn r0 t0 r t w n r' t' is over s =
        let no : nat_le (weight_of r) r.caps.bound ≡ false =
        over_bound (weight_of r) r.caps.bound (subst (λ m. r.caps.bound < m) is.weight over) in
        let one = turn r t n r' t' no s in
        let f = one.first is.first in (
          record {
            lists = one.lists ∙ is.lists;
            told = one.told ∙ is.told;
            weight =
                omega (arith, one.weight, is.weight);
            first = f.0;
            room = omega (arith, one.room, f.1, is.room);
          },
          omega (arith, one.weight, is.weight),
          omega (arith, one.shorter),
        )

    -- the end, within the bound or with no entry that can go
    pub trimming-done : (r0 : Lists K V) (t0 : NoticeList K V) (r : Lists K V) (t : NoticeList K V) (w : ℕ)
        → IsTrimming r0 t0 r t w → w ≤ r.caps.bound
        → (r ≡ (trimmed eq k r0).0) × (t ≡ appended (trimmed eq k r0).1 t0)
    trimming-done r0 t0 r t w is low =
        let yes : nat_le (weight_of r) r.caps.bound ≡ true =
        in_bound (weight_of r) r.caps.bound (subst (λ m. m ≤ r.caps.bound) is.weight low) in
        let d = trimmed-done (length (all_entries r)) r yes in (
          sym (ap (λ (p : Lists K V × List (Notice K V)). p.0) d) ∙ is.lists,
          sym (ap (λ (p : Lists K V × List (Notice K V)). appended p.1 t) d ∙ appended-none t) ∙ is.told,
        )

    pub trimming-stuck : (r0 : Lists K V) (t0 : NoticeList K V) (r : Lists K V) (t : NoticeList K V) (w : ℕ)
        (r' : Lists K V) (t' : NoticeList K V) → IsTrimming r0 t0 r t w
        → IsStep (trimmed_once eq k r) r t None r' t' → (r' ≡ (trimmed eq k r0).0)
        × (t' ≡ appended (trimmed eq k r0).1 t0) × (w ≡ weight_of r')
    trimming-stuck r0 t0 r t w r' t' is s =
        let no = stuck r t r' t' s in
        let d = trimmed-stuck (length (all_entries r)) r no.0 in (
          no.1 ∙ sym (ap (λ (p : Lists K V × List (Notice K V)). p.0) d) ∙ is.lists,
          no.2 ∙ sym (ap (λ (p : Lists K V × List (Notice K V)). appended p.1 t) d ∙ appended-none t) ∙ is.told,
          is.weight ∙ ap weight_of (sym no.1),
        )
