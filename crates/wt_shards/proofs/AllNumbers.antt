-- The numbers of 1, 2 or 4 shards, added up.
use Rattle.std.proofs.Common.{◌≡◌, ◌⊎◌, ℕ, zero, suc, ◌+◌, ◌*◌, ◌<◌, ◌≤◌, List, Option, Some, None, ◌++◌, length, length-append, refl, ap, sym, subst, ◌∙◌, arith, rules, inl, inr}
use Rattle.std.proofs.Math.Nat.{add-zero, zero-add}
use Rattle.std.specs.Prelude.{◌==◌, ◌||◌, ◌↔◌, IsNone, IsSome, IsTrue}
use Rattle.wt_regions.specs.declared.caps.Caps.{Caps}
use Rattle.wt_core.specs.declared.calls.Call.{Call}
use Rattle.wt_core.specs.declared.stats.Stats.{Stats}
use Rattle.wt_core.specs.Lawful.{AreSmall}
use Rattle.wt_core.specs.State.{State, stats_of}
use Rattle.wt_core.specs.Sums.{no_numbers, sums_of}
use Rattle.wt_shards.specs.History.{state_at}
use Rattle.wt_shards.specs.Members.{Members}
use Rattle.wt_shards.specs.Numbers.{AreNumbersOf, AreSeenNumbers, AreWithin, numbers_seen}
use Rattle.wt_shards.specs.Passes.{Seen, SeenMore, front_at}
use Rattle.wt_shards.specs.Place.{Layout, Place, place_of}
use Rattle.wt_shards.specs.StateAt.{IsStateAt}
use Rattle.wt_shards.specs.Totals.{IsHistory}

-- 1, 2 or 4
abbrev pub IsFew : ℕ → Type 0
IsFew n = IsTrue (n == 1 || (n == 2 || n == 4))

pub few-is : (n : ℕ) → IsFew n → (n ≡ 1) ⊎ ((n ≡ 2) ⊎ (n ≡ 4))
few-is n few = grind arith

-- nothing is added
pub sums-none : (t : Stats) → sums_of t no_numbers ≡ t
sums-none t = simp add-zero refl

pub none-sums : (t : Stats) → sums_of no_numbers t ≡ t
none-sums t = simp zero-add refl

-- four numbers, added up one after the other
pub sums-of_four : (a b c d ab abc abcd : Stats) → ab ≡ sums_of a b → abc ≡ sums_of ab c → abcd ≡ sums_of abc d
    → abcd ≡ sums_of (sums_of (sums_of a b) c) d
sums-of_four a b c d ab abc abcd two three four = four ∙ ap (λ t. sums_of t d) (three ∙ ap (λ t. sums_of t c) two)

-- the bounds of each shard bound all of them together
pub all-within : (n e w : ℕ) (a b c d : Stats) → IsFew n → AreWithin e w a → (1 < n → AreWithin e w b) → (2 < n → AreWithin e w c)
    → (3 < n → AreWithin e w d) → (n ≤ 1 → b ≡ no_numbers) → (n ≤ 2 → c ≡ no_numbers) → (n ≤ 3 → d ≡ no_numbers)
    → AreWithin (n * e) (n * w) (sums_of (sums_of (sums_of a b) c) d)
all-within n e w a b c d few wa wb wc wd nb nc nd = at (few-is n few)
  where
    at : (n ≡ 1) ⊎ ((n ≡ 2) ⊎ (n ≡ 4)) → AreWithin (n * e) (n * w) (sums_of (sums_of (sums_of a b) c) d)
    at (inl is) =
        let zb = nb (omega (arith, is)) in let zc = nc (omega (arith, is)) in let zd = nd (omega (arith, is)) in
        record {
          entries = omega (
            arith,
            wa.entries,
            ap (λ (t : Stats). t.entries) zb,
            ap (λ (t : Stats). t.entries) zc,
            ap (λ (t : Stats). t.entries) zd,
            ap (λ m. m * e) is,
          );
          weight = omega (
            arith,
            wa.weight,
            ap (λ (t : Stats). t.weight) zb,
            ap (λ (t : Stats). t.weight) zc,
            ap (λ (t : Stats). t.weight) zd,
            ap (λ m. m * w) is,
          );
        }
    at (inr (inl is)) =
        let wb1 = wb (omega (arith, is)) in let zc = nc (omega (arith, is)) in let zd = nd (omega (arith, is)) in
        record {
          entries = omega (
            arith,
            wa.entries,
            wb1.entries,
            ap (λ (t : Stats). t.entries) zc,
            ap (λ (t : Stats). t.entries) zd,
            ap (λ m. m * e) is,
          );
          weight = omega (
            arith,
            wa.weight,
            wb1.weight,
            ap (λ (t : Stats). t.weight) zc,
            ap (λ (t : Stats). t.weight) zd,
            ap (λ m. m * w) is,
          );
        }
    at (inr (inr is)) =
        let wb1 = wb (omega (arith, is)) in let wc1 = wc (omega (arith, is)) in let wd1 = wd (omega (arith, is)) in
        record {
          entries = omega (arith, wa.entries, wb1.entries, wc1.entries, wd1.entries, ap (λ m. m * e) is);
          weight = omega (arith, wa.weight, wb1.weight, wc1.weight, wd1.weight, ap (λ m. m * w) is);
        }

module _ {K V : Type 0} (members : Members K V) (p : Place) where
  -- the numbers of a state that a shard may have
  pub state-looked : (s : State K V) → IsStateAt members p s → s.counts.hits + s.counts.misses ≡ s.counts.lookups
  state-looked s at = at.lawful.lawful.counted.looked

  pub state-within : (s : State K V) → IsStateAt members p s → AreWithin p.config.entries p.config.bound (stats_of s)
  state-within s at =
      let r = at.lawful.lawful.regions in
      let entries = ap (λ (c : Caps). c.entries) at.caps in
      let bound = ap (λ (c : Caps). c.bound) at.caps in
      let all = length-append s.regions.window (s.regions.probation ++ s.regions.protected) in
      let main = length-append s.regions.probation s.regions.protected in
      record {
        entries = omega (arith, all, main, r.window, r.main_part, r.fit.window, entries);
        weight = omega (arith, r.bound, bound);
      }

  -- the numbers of a shard are those after its history
  pub numbers-of : (calls : List (Call K V)) (s : State K V) (t : Stats) → s ≡ state_at members p calls → s.step ≡ length calls
      → IsStateAt members p s → t ≡ stats_of s → AreSmall t → AreNumbersOf members p calls t
  numbers-of calls s t is all_made at numbers small = record {
    whole = record {
      lawful = subst (IsStateAt members p) is at;
      all_made = ap (λ (x : State K V). x.step) (sym is) ∙ all_made;
    };
    numbers = numbers ∙ ap stats_of is;
    looked = subst (λ (x : Stats). x.hits + x.misses ≡ x.lookups) (sym numbers) (state-looked s at);
    within = subst (AreWithin p.config.entries p.config.bound) (sym numbers) (state-within s at);
    small = small;
  }

module _ {K V : Type 0} (members : Members K V) (l : Layout) (seen : Seen K V) where
  -- the numbers of the shard of a number, after what was seen of it
  abbrev numbers_at : ℕ → Stats
  numbers_at i = stats_of (state_at members (place_of i l) (front_at i seen))

  at-number : (n : ℕ) → n ≡ l.shards → (t : Stats) → t ≡ numbers_seen members l seen n → t ≡ numbers_seen members l seen l.shards
  at-number n is t h = h ∙ ap (numbers_seen members l seen) is

  sums-are : (a b c d p q r s : Stats) → a ≡ p → b ≡ q → c ≡ r → d ≡ s
      → sums_of (sums_of (sums_of a b) c) d ≡ sums_of (sums_of (sums_of p q) r) s
  sums-are a b c d p q r s ea eb ec ed = cc

  pub all-seen : (a b c d : Stats) → IsFew l.shards → a ≡ numbers_at 0 → (1 < l.shards → b ≡ numbers_at 1) → (2 < l.shards → c ≡ numbers_at 2)
      → (3 < l.shards → d ≡ numbers_at 3) → (l.shards ≤ 1 → b ≡ no_numbers) → (l.shards ≤ 2 → c ≡ no_numbers) → (l.shards ≤ 3 → d ≡ no_numbers)
      → sums_of (sums_of (sums_of a b) c) d ≡ numbers_seen members l seen l.shards
  all-seen a b c d few wa wb wc wd nb nc nd = at (few-is l.shards few)
    where
      first : a ≡ sums_of no_numbers (numbers_at 0)
      first = wa ∙ sym (none-sums (numbers_at 0))

      at : (l.shards ≡ 1) ⊎ ((l.shards ≡ 2) ⊎ (l.shards ≡ 4)) → sums_of (sums_of (sums_of a b) c) d ≡ numbers_seen members l seen l.shards
      at (inl is) = at-number 1 (sym is) _ (sums-are a b c d _ _ _ _ first (nb (omega (arith, is))) (nc (omega (arith, is))) (nd (omega (arith, is)))
          ∙ sums-none _ ∙ sums-none _ ∙ sums-none _)
      at (inr (inl is)) = at-number 2 (sym is) _ (sums-are a b c d _ _ _ _ first (wb (omega (arith, is))) (nc (omega (arith, is))) (nd (omega (arith, is)))
          ∙ sums-none _ ∙ sums-none _)
      at (inr (inr is)) = at-number 4 (sym is) _ (sums-are a b c d _ _ _ _ first (wb (omega (arith, is))) (wc (omega (arith, is))) (wd (omega (arith, is))))

  pub all-whole : IsFew l.shards → IsHistory members (place_of 0 l) (front_at 0 seen) → (1 < l.shards → IsHistory members (place_of 1 l) (front_at 1 seen))
      → (2 < l.shards → IsHistory members (place_of 2 l) (front_at 2 seen)) → (3 < l.shards → IsHistory members (place_of 3 l) (front_at 3 seen))
      → (i : ℕ) → i < l.shards → IsHistory members (place_of i l) (front_at i seen)
  all-whole few a b c d zero less = a
  all-whole few a b c d (suc zero) less = b less
  all-whole few a b c d (suc (suc zero)) less = c less
  all-whole few a b c d (suc (suc (suc zero))) less = d less
  all-whole few a b c d (suc (suc (suc (suc i)))) less = absurd (let is = few-is l.shards few in grind arith)

module _ {K V : Type 0} (members : Members K V) (l : Layout) (old new : Seen K V) where
  -- of the shard of a number these are the numbers, if it is in use, and otherwise none
  pub record AreOf (i : ℕ) (p : Place) (t : Stats) : Type 0 where
    pub at : i < l.shards → p ≡ place_of i l
    pub made : i < l.shards → AreNumbersOf members p (front_at i new) t
    pub none : l.shards ≤ i → t ≡ no_numbers
    pub looked : t.hits + t.misses ≡ t.lookups

  numbers-in : (i : ℕ) (p : Place) (t : Stats) → AreOf i p t → i < l.shards → AreNumbersOf members (place_of i l) (front_at i new) t
  numbers-in i p t of less = subst (λ (q : Place). AreNumbersOf members q (front_at i new) t) (of.at less) (of.made less)

  pub all-numbers : (a b c d : Stats) (p q r s : Place) → IsFew l.shards → AreOf 0 p a → AreOf 1 q b → AreOf 2 r c → AreOf 3 s d
      → new.counts ≡ old.counts → SeenMore old new → AreSeenNumbers members l old new (sums_of (sums_of (sums_of a b) c) d)
  all-numbers a b c d p q r s few oa ob oc od same later =
      let used : 0 < l.shards = some few in
      let na = numbers-in 0 p a oa used in
      let nb = numbers-in 1 q b ob in
      let nc = numbers-in 2 r c oc in
      let nd = numbers-in 3 s d od in
      let la = oa.looked in let lb = ob.looked in let lc = oc.looked in let ld = od.looked in
      record {
        same = same;
        later = later;
        whole = all-whole members l new few na.whole (λ less. (nb less).whole) (λ less. (nc less).whole) (λ less. (nd less).whole);
        numbers = all-seen members l new a b c d few na.numbers (λ less. (nb less).numbers) (λ less. (nc less).numbers)
            (λ less. (nd less).numbers) ob.none oc.none od.none;
        looked = omega (arith, la, lb, lc, ld);
        within = all-within l.shards l.config.entries l.config.bound a b c d few na.within (λ less. (nb less).within)
            (λ less. (nc less).within) (λ less. (nd less).within) ob.none oc.none od.none;
      }
    where
      some : IsFew l.shards → 0 < l.shards
      some h = at (few-is l.shards h)
        where
          at : (l.shards ≡ 1) ⊎ ((l.shards ≡ 2) ⊎ (l.shards ≡ 4)) → 0 < l.shards
          at (inl is) = omega (arith, is)
          at (inr (inl is)) = omega (arith, is)
          at (inr (inr is)) = omega (arith, is)

-- what isn't in use isn't there
pub none-beyond : {X : Type 0} (o : Option X) (n m : ℕ) → (n < m) ↔ IsSome o → m ≤ n → IsNone o
none-beyond None n m there few = search rules
none-beyond (Some x) n m there few = absurd (let less = there.1 (search rules) in omega (arith, less, few))
