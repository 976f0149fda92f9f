-- The advice on a window, as a function of the keys that were looked up.
use Rattle.std.specs.Prelude.{◌≡◌, ℕ, ◌+◌, ◌-◌, ◌*◌, ◌/◌, ◌^◌, ◌<◌, ◌≤◌, max, min, nat_lt, ◌&&◌, Bool, true, if◌then◌else◌, List, [], ◌∷◌}
use Rattle.std.specs.List.{fold}
use Rattle.wt_keys.specs.Hash.{mixed}
use Rattle.wt_sketch.specs.Sketch.{Counters, counted_word, nothing_counted as no_key_counted}
use Rattle.wt_regions.specs.Lists.{Lists, has_at, no_entries}
use Rattle.wt_adviser.specs.declared.mark.Mark.{Mark}
use Rattle.wt_adviser.specs.declared.share.Share.TheVariants.{Hundredth, Tenth, TwoFifths, Whole}
use Rattle.wt_adviser.specs.declared.adviser.Seen.{Seen}
use Rattle.wt_adviser.specs.declared.tally.Tally.{Tally}
use Rattle.wt_adviser.specs.declared.tally.Hits.{Hits}
use Rattle.wt_adviser.specs.Small.{looked_if, small_caps, window_of}
use Rattle.wt_adviser.specs.Tally.{counted, nothing_counted, passed}

-- what is seen of an adviser: for how many entries it is, the sketch of the small caches, their entries, and what was counted of them
pub record Advice (K : Type 0) : Type 0 where
  pub entries : ℕ
  pub sketch : Counters
  pub hundredth : Lists K Mark
  pub tenth : Lists K Mark
  pub two_fifths : Lists K Mark
  pub whole : Lists K Mark
  pub tally : Tally

-- how many entries a small cache has: an eighth of the cache's, from 32 to 64, or a sixty-fourth if that is more
abbrev pub small_entries : ℕ → ℕ
small_entries entries = max (max (min (entries / 8) 64) 32) (entries / 64)

-- one key in so many is of the sample: as many as a small cache has fewer entries
unfoldable pub sampled_of : ℕ → ℕ
sampled_of entries = entries / small_entries entries

-- below which a key's product lies that is of the sample
abbrev pub sampled_below : ℕ → ℕ
sampled_below entries = (2 ^ 64 - 1) / sampled_of entries

-- after how many look-ups a share is chosen anew
abbrev pub epoch : ℕ → ℕ
epoch entries = entries / 2

-- every small cache has seen the key
abbrev pub all_seen : Seen
all_seen = record { hundredth = true; tenth = true; two_fifths = true; whole = true }

module _ {K : Type 0} where
  -- an adviser that has seen nothing
  abbrev pub opening : ℕ → Advice K
  opening entries = record {
    entries = entries;
    sketch = no_key_counted (small_entries entries);
    hundredth = no_entries (small_caps Hundredth (small_entries entries));
    tenth = no_entries (small_caps Tenth (small_entries entries));
    two_fifths = no_entries (small_caps TwoFifths (small_entries entries));
    whole = no_entries (small_caps Whole (small_entries entries));
    tally = nothing_counted;
  }

  -- the window that is advised
  abbrev pub wanted : Advice K → ℕ
  wanted a = window_of a.tally.chosen a.entries

  -- one look-up of the whole cache more
  abbrev pub passed_on : Advice K → Advice K
  passed_on a = record a { tally = passed (epoch a.entries) a.tally }

  module _ (eq : K → K → Bool) (word : K → ℕ) where
    -- whether a key is of the sample, by a factor of its own
    abbrev pub is_sampled : ℕ → K → Bool
    is_sampled entries k = nat_lt (mixed 0xA0761D6478BD642F (word k)) (sampled_below entries)

    -- which of the small caches that have seen the key hit
    abbrev pub hits : Seen → K → Advice K → Hits
    hits seen k a = record {
      hundredth = seen.hundredth && has_at eq k 0 a.hundredth;
      tenth = seen.tenth && has_at eq k 0 a.tenth;
      two_fifths = seen.two_fifths && has_at eq k 0 a.two_fifths;
      whole = seen.whole && has_at eq k 0 a.whole;
    }

    -- the key is counted, and these small caches look it up
    abbrev pub sampled_by : Seen → K → Advice K → Advice K
    sampled_by seen k a =
        let sketch : Counters = counted_word a.sketch (word k) in
        record a {
          sketch = sketch;
          hundredth = looked_if eq word sketch k seen.hundredth a.hundredth;
          tenth = looked_if eq word sketch k seen.tenth a.tenth;
          two_fifths = looked_if eq word sketch k seen.two_fifths a.two_fifths;
          whole = looked_if eq word sketch k seen.whole a.whole;
          tally = counted (hits seen k a) a.tally;
        }

    -- after a look-up of a key, which these small caches have seen if it is of the sample
    abbrev pub saw_by : Seen → K → Advice K → Advice K
    saw_by seen k a = passed_on (if is_sampled a.entries k then sampled_by seen k a else a)

    -- after a look-up of a key
    abbrev pub saw : K → Advice K → Advice K
    saw k a = saw_by all_seen k a

    -- after look-ups of these keys
    abbrev pub shown : List K → Advice K → Advice K
    shown keys a = fold (λ a k. saw k a) a keys

    -- look-ups of these keys may lead from one to the other: some small caches have perhaps not seen some of them
    abbrev pub IsShown : List K → Advice K → Advice K → Type 0
    IsShown [] a b = b ≡ a
    IsShown (k ∷ ks) a b = (seen : Seen) × IsShown ks (saw_by seen k a) b

    -- the window that is advised after look-ups of these keys
    abbrev pub wanted_after : ℕ → List K → ℕ
    wanted_after entries keys = wanted (shown keys (opening entries))

-- what holds of an adviser at all times: `below` is its limit for a key's product, `room` is for notices
pub record IsAdvising {K : Type 0} (a : Advice K) (below room : ℕ) : Type 0 where
  pub least : 64 ≤ a.entries
  pub most : a.entries ≤ 4194304
  pub sampled : below ≡ sampled_below a.entries
  pub since : a.tally.since < epoch a.entries
  pub hundredth : a.hundredth.caps.entries ≤ room
  pub tenth : a.tenth.caps.entries ≤ room
  pub two_fifths : a.two_fifths.caps.entries ≤ room
  pub whole : a.whole.caps.entries ≤ room
  -- no count can wrap: each is below that of fifteen epochs and the look-ups since
  pub few_hundredth : a.tally.hundredth ≤ 65536 * (15 * epoch a.entries + a.tally.since)
  pub few_tenth : a.tally.tenth ≤ 65536 * (15 * epoch a.entries + a.tally.since)
  pub few_two_fifths : a.tally.two_fifths ≤ 65536 * (15 * epoch a.entries + a.tally.since)
  pub few_whole : a.tally.whole ≤ 65536 * (15 * epoch a.entries + a.tally.since)
  pub few : a.tally.sampled ≤ 65536 * (15 * epoch a.entries + a.tally.since)
