-- What a value that is stored keeps, through putting in and trim.
use Rattle.std.proofs.Common.{◌≡◌, ℕ, ◌≤◌, Bool, List, ◌++◌, length, refl, sym, ap, subst, ◌∙◌, arith, length-append}
use Rattle.std.specs.Cmp.{IsEquivalence}
use Rattle.std.specs.List.{AllByRecursion}
use Rattle.wt_regions.specs.declared.held.Held.{Held}
use Rattle.wt_regions.specs.declared.caps.Caps.{Caps}
use Rattle.wt_regions.specs.declared.notices.Notice.{Notice}
use Rattle.wt_regions.specs.declared.weighs.Measure.{Measure}
use Rattle.wt_regions.proofs.Moves.{lawful_of}
use Rattle.wt_regions.proofs.Settled.{Light, by_recursion}
use Rattle.wt_regions.proofs.Sound.{trimmed-placed, trimmed-caps}
use Rattle.wt_regions.proofs.Bound.{trimmed-bound}
use Rattle.wt_regions.proofs.Loop.{appended-twice}
use Rattle.wt_regions.proofs.Ready.{IsReady, placed-ready}
use Rattle.wt_regions.specs.Lists.{Entry, Lists, all_entries, lists_of, weight_of, measured}
use Rattle.wt_regions.specs.Settle.{trimmed}
use Rattle.wt_regions.specs.Steps.{placed}
use Rattle.wt_regions.specs.Notices.{NoticeList, appended}
use Rattle.wt_regions.specs.Lawful.{IsLawful}
use Rattle.wt_regions.specs.Moves.{IsFirst, IsPlaced, others}

module _ {K V : Type 0} (eq : K → K → Bool) (laws : IsEquivalence eq) (measure : V → Measure) (f : K → ℕ) (now : ℕ) (k : K)
    (h : Held V) (c : Caps) (ws ps qs : List (Entry K V))
    (law : IsPlaced eq measure (lists_of c ws ps qs)) (w : measured h ≡ measure h.value) (low : h.weight ≤ c.bound) where
  abbrev outcome : Lists K V × List (Notice K V)
  outcome = placed eq f now (k, h) (lists_of c ws ps qs)

  ready : IsReady eq laws measure k c.bound c (length (ws ++ (ps ++ qs))) outcome
  ready = placed-ready eq laws measure k c.bound f now h c ws ps qs law w low

  count : length (ws ++ (ps ++ qs)) ≤ c.entries
  count = omega (arith, law.window, law.main_part, law.fit.window, length-append ws (ps ++ qs), length-append ps qs)

  pub kept-first : (m : Lists K V) → m ≡ outcome.0 → IsFirst eq k m
  kept-first m is = rw is ready.first

  pub kept-room : (m : Lists K V) (n0 n1 : NoticeList K V) → m ≡ outcome.0 → n1 ≡ appended outcome.1 n0
      → c.entries ≤ n0.room → others eq k (all_entries m) ≤ n1.room
  kept-room m n0 n1 is told room = let a = ready.others in let b = count in rw (is, told) (omega (arith, a, b, room))

  bounded : (z y : Lists K V) → z ≡ y → z.caps ≡ c → weight_of y ≤ c.bound → weight_of z ≤ z.caps.bound
  bounded z y e g l = rw g (subst (λ (x : Lists K V). weight_of x ≤ c.bound) (sym e) l)

  pub kept-caps : (m z : Lists K V) → m ≡ outcome.0 → z ≡ (trimmed eq k m).0 → z.caps ≡ c
  kept-caps m z is end = rw end (trimmed-caps eq laws measure k (length (all_entries m)) m ∙ rw is ready.caps)

  pub kept-lawful : (m z : Lists K V) → m ≡ outcome.0 → z ≡ (trimmed eq k m).0 → IsLawful eq measure z
  kept-lawful m z is end =
      let same = kept-caps m z is end in
      let pm : IsPlaced eq measure m = rw is ready.placed in
      let cm : m.caps.bound ≡ c.bound = rw (is, ready.caps) in
      let lm : AllByRecursion (Light eq k c.bound) (all_entries m) =
      rw is (by_recursion (Light eq k c.bound) (all_entries outcome.0) ready.light) in
      let b = trimmed-bound eq laws k c.bound measure (length (all_entries m)) m cm pm lm refl in
      lawful_of eq measure z (rw end (trimmed-placed eq laws measure k (length (all_entries m)) m pm)) (bounded z (trimmed eq k m).0 end same b)

-- the notices and lists of both
module _ {K V : Type 0} (eq : K → K → Bool) (k : K) where
  pub both-lists : (m z : Lists K V) (s : Lists K V × List (Notice K V)) → m ≡ s.0 → z ≡ (trimmed eq k m).0 → z ≡ (trimmed eq k s.0).0
  both-lists m z s is end = rw end (ap (λ (x : Lists K V). (trimmed eq k x).0) is)

  pub both-told : (m : Lists K V) (s : Lists K V × List (Notice K V)) (n0 n1 n2 : NoticeList K V) → m ≡ s.0
      → n1 ≡ appended s.1 n0 → n2 ≡ appended (trimmed eq k m).1 n1 → n2 ≡ appended (s.1 ++ (trimmed eq k s.0).1) n0
  both-told m s n0 n1 n2 is one two =
      rw (two, one) (ap (λ (x : Lists K V). appended (trimmed eq k x).1 (appended s.1 n0)) is
      ∙ sym (appended-twice s.1 (trimmed eq k s.0).1 n0))
