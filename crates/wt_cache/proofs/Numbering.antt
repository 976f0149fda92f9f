-- Each step keeps the rule of the line.
use Rattle.std.proofs.Common.{◌≡◌, ◌≢◌, ℕ, zero, suc, ◌+◌, ◌≤◌, List, [], ◌∷◌, ◌++◌, length, drop, map, set, eqb, cond, sym, refl, ap, ◌∙◌, subst, ⊎_elim, arith, length-append}
use Rattle.std.proofs.lemmas.Bool.Decides.{nat_tests}
use Rattle.std.proofs.lemmas.List.{drop-append-le, map-append}
use mathlib.Core.Option.{some, some-injective, some-ne-none}
use lib.ListN.{get_elem?}
use Rattle.crossbeam_queue.specs.Fifo.{Pushes, Pops, Forks, Admits}
use Rattle.crossbeam_queue.proofs.Lists.{at_set, at_snoc, at_longer, at_last, set_again}
use Rattle.wt_cache.specs.declared.line_view.LineView.{LineView}
use Rattle.wt_flights.specs.Outcomes.{Leading}
use Rattle.wt_cache.specs.Line.{name, line_view, times, total, AllNamed, once_below, Numbered}

below_suc : (i n : ℕ) → once_below i (suc n) ≡ once_below i n + cond (eqb i n) 1 0
below_suc i n = grind (arith, nat_tests)

module _ {K : Type 0} where
  total_set : (f : LineView K → ℕ) (views : List (LineView K)) (port : ℕ) (v w : LineView K) → get_elem? views port ≡ some v
      → total f (set views port w) + f v ≡ total f views + f w
  total_set f [] port v w at = absurd (some-ne-none v (sym at))
  total_set f (x ∷ xs) zero v w at = let e : f x ≡ f v = ap f (some-injective x v at) in omega arith
  total_set f (x ∷ xs) (suc port) v w at = let h = total_set f xs port v w at in omega arith

  total_snoc : (f : LineView K → ℕ) (views : List (LineView K)) (u : LineView K) → total f (views ++ u ∷ []) ≡ total f views + f u
  total_snoc f [] u = omega arith
  total_snoc f (x ∷ xs) u = let h = total_snoc f xs u in omega arith

  times_snoc : (i : ℕ) (ps : List (ℕ × (ℕ × K))) (p : ℕ × (ℕ × K)) → times i (ps ++ p ∷ []) ≡ times i ps + cond (eqb i p.0) 1 0
  times_snoc i [] p = omega arith
  times_snoc i (x ∷ xs) p = let h = times_snoc i xs p in omega arith

  named_longer : (log : List (ℕ × K)) (y : ℕ × K) (ps : List (ℕ × (ℕ × K))) → AllNamed log ps → AllNamed (log ++ y ∷ []) ps
  named_longer log y ps h j p e = at_longer log (y ∷ []) p.0 p.1 (h j p e)

  named_more : (log : List (ℕ × K)) (ps : List (ℕ × (ℕ × K))) (n : ℕ) (y : ℕ × K) → AllNamed log ps
      → get_elem? log n ≡ some y → AllNamed log (ps ++ (n, y) ∷ [])
  named_more log ps n y h at j p e = ⊎_elim (λ (x : get_elem? ps j ≡ some p). h j p x)
      (λ (is : (n, y) ≡ p). let P : ℕ × (ℕ × K) → Type 0 = λ q. get_elem? log q.0 ≡ some q.1 in subst P is at) (at_snoc ps (n, y) p j e)

  all_set : (F : LineView K → Type 0) (views : List (LineView K)) (port : ℕ) (w : LineView K) → F w
      → ((j : ℕ) (u : LineView K) → get_elem? views j ≡ some u → F u)
      → (j : ℕ) (u : LineView K) → get_elem? (set views port w) j ≡ some u → F u
  all_set F views port w mine others j u e = ⊎_elim (λ (x : (j ≡ port) × (w ≡ u)). subst F x.1 mine)
      (λ (x : (j ≢ port) × (get_elem? views j ≡ some u)). others j u x.1) (at_set views port j w u e)

  pub pushes : (n port : ℕ) (v : LineView K) (x : Leading K)
      → Pushes Numbered n port v x (λ w. (k : ℕ) × (w ≡ line_view (v.puts ++ (k, name x) ∷ []) v.takes))
  pushes n port v x items views room h at =
      let k = length h.log in
      let y : ℕ × K = name x in
      let log : List (ℕ × K) = h.log ++ y ∷ [] in
      let w : LineView K = line_view (v.puts ++ (k, y) ∷ []) v.takes in
      let long : length log ≡ suc k = omega (arith, length-append h.log (y ∷ [])) in (
        w,
        record {
          log = log;
          taken = h.taken;
          within = (let b = h.within in omega arith);
          line = drop-append-le _ _ _ h.within ∙ ap (λ l. l ++ y ∷ []) h.line ∙ sym (map-append name items (x ∷ []));
          puts_once = (λ i.
              let s = total_set (λ u. times i u.puts) views port v w at in
              let t = times_snoc i v.puts (k, y) in
              let b = below_suc i k in
              let o = h.puts_once i in
              let l : once_below i (length log) ≡ once_below i (suc k) = ap (once_below i) long in
              omega (arith, s, t, b, o, l));
          takes_once = (λ i.
              let s = total_set (λ u. times i u.takes) views port v w at in
              let o = h.takes_once i in
              omega (arith, s, o));
          puts_named = all_set (λ u. AllNamed log u.puts) views port w
              (named_more log v.puts k y (named_longer h.log y v.puts (h.puts_named port v at))
              (at_last h.log y k refl))
              (λ j u e. named_longer h.log y u.puts (h.puts_named j u e));
          takes_named = all_set (λ u. AllNamed log u.takes) views port w
              (named_longer h.log y v.takes (h.takes_named port v at))
              (λ j u e. named_longer h.log y u.takes (h.takes_named j u e));
        },
        (k, refl),
      )

  first_of : (l : List (ℕ × K)) (m : ℕ) (y : ℕ × K) (ys : List (ℕ × K)) → drop m l ≡ y ∷ ys
      → (get_elem? l m ≡ some y) × (drop (suc m) l ≡ ys) × (suc m ≤ length l)
  first_of [] zero y ys e = cc
  first_of [] (suc m) y ys e = cc
  first_of (x ∷ xs) zero y ys e = let a : x ≡ y = cc in let b : xs ≡ ys = cc in (ap some a, b, omega arith)
  first_of (x ∷ xs) (suc m) y ys e = let r = first_of xs m y ys e in (r.0, r.1, omega (arith, r.2))

  pub pops : (port : ℕ) (v : LineView K) → Pops Numbered port v (λ x w. (k : ℕ) × (w ≡ line_view v.puts (v.takes ++ (k, name x) ∷ [])))
  pops port v x items views h at =
      let k = h.taken in
      let y : ℕ × K = name x in
      let w : LineView K = line_view v.puts (v.takes ++ (k, y) ∷ []) in
      let first = first_of h.log k y (map name items) h.line in (
        w,
        record {
          log = h.log;
          taken = suc k;
          within = first.2;
          line = first.1;
          puts_once = (λ i.
              let s = total_set (λ u. times i u.puts) views port v w at in
              let o = h.puts_once i in
              omega (arith, s, o));
          takes_once = (λ i.
              let s = total_set (λ u. times i u.takes) views port v w at in
              let t = times_snoc i v.takes (k, y) in
              let b = below_suc i k in
              let o = h.takes_once i in
              omega (arith, s, t, b, o));
          puts_named = all_set (λ u. AllNamed h.log u.puts) views port w (h.puts_named port v at) (λ j u e. h.puts_named j u e);
          takes_named = all_set (λ u. AllNamed h.log u.takes) views port w
              (named_more h.log v.takes k y (h.takes_named port v at) first.0) (λ j u e. h.takes_named j u e);
        },
        (k, refl),
      )

  all_snoc : (F : LineView K → Type 0) (views : List (LineView K)) (u : LineView K) → F u → ((j : ℕ) (v : LineView K) → get_elem? views j ≡ some v → F v)
      → (j : ℕ) (v : LineView K) → get_elem? (views ++ u ∷ []) j ≡ some v → F v
  all_snoc F views u mine others j v e =
      ⊎_elim (λ (x : get_elem? views j ≡ some v). others j v x) (λ (is : u ≡ v). subst F is mine)
      (at_snoc views u v j e)

  none_named : (log : List (ℕ × K)) → AllNamed log []
  none_named log j p e = absurd (some-ne-none p (sym e))

  pub admits : Admits {T = Leading K} Numbered (line_view [] [])
  admits items views h = let u : LineView K = line_view [] [] in record {
    log = h.log;
    taken = h.taken;
    within = h.within;
    line = h.line;
    puts_once = (λ i. let s = total_snoc (λ v. times i v.puts) views u in let o = h.puts_once i in omega (arith, s, o));
    takes_once = (λ i. let s = total_snoc (λ v. times i v.takes) views u in let o = h.takes_once i in omega (arith, s, o));
    puts_named = all_snoc (λ v. AllNamed h.log v.puts) views u (none_named h.log) h.puts_named;
    takes_named = all_snoc (λ v. AllNamed h.log v.takes) views u (none_named h.log) h.takes_named;
  }

  pub begins : Numbered {K = K} [] (line_view [] [] ∷ [])
  begins = record {
    log = [];
    taken = 0;
    within = omega arith;
    line = refl;
    puts_once = (λ i. grind (arith, nat_tests));
    takes_once = (λ i. grind (arith, nat_tests));
    puts_named = all_snoc (λ v. AllNamed [] v.puts) [] (line_view [] []) (none_named []) (λ j v e. absurd (some-ne-none v (sym e)));
    takes_named = all_snoc (λ v. AllNamed [] v.takes) [] (line_view [] []) (none_named []) (λ j v e. absurd (some-ne-none v (sym e)));
  }

  pub forks : (port : ℕ) (v : LineView K) → Forks {T = Leading K} Numbered port v v (line_view [] [])
  forks port v items views h at = let P : List (LineView K)
      → Type 0 = λ vs. Numbered items (vs ++ line_view [] [] ∷ []) in
      subst P (sym (set_again views port v at)) (admits items views h)
