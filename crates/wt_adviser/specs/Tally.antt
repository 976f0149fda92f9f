-- What is counted of the small caches, and the choice among their windows.
use Rattle.std.specs.Prelude.{ℕ, ◌+◌, ◌*◌, ◌/◌, ◌^◌, ◌<◌, nat_lt, ◌==◌, Bool, if◌then◌else◌}
use Rattle.wt_adviser.specs.declared.share.Share.{Share}
use Rattle.wt_adviser.specs.declared.share.Share.TheVariants.{Hundredth, Tenth, TwoFifths, Whole}
use Rattle.wt_adviser.specs.declared.tally.Tally.{Tally}
use Rattle.wt_adviser.specs.declared.tally.Hits.{Hits}

-- what a look-up counts for a window: a hit 2^16
abbrev pub count_of : Bool → ℕ
count_of hit = if hit then 2 ^ 16 else 0

-- a count that weighs less once a share is chosen
abbrev pub faded : ℕ → ℕ
faded n = (15 * n) / 16

-- nothing was counted, and a window of a tenth is in use
abbrev pub nothing_counted : Tally
nothing_counted = record { hundredth = 0; tenth = 0; two_fifths = 0; whole = 0; sampled = 0; since = 0; chosen = Tenth }

-- the hits with a window of this share
abbrev pub hits_of : Share → Tally → ℕ
hits_of Hundredth t = t.hundredth
hits_of Tenth t = t.tenth
hits_of TwoFifths t = t.two_fifths
hits_of Whole t = t.whole

-- the share with more hits, the first if they have as many
abbrev pub better : Tally → Share → Share → Share
better t first second = if nat_lt (hits_of first t) (hits_of second t) then second else first

-- the share with the most hits, the one in use if it has as many
abbrev pub best : Tally → Share
best t = better t (better t (better t (better t t.chosen Hundredth) Tenth) TwoFifths) Whole

-- the share that is used from now on: the best, if it leads the one in use by more than a hundredth of the look-ups
abbrev pub choice : Tally → Share
choice t = if nat_lt (t.sampled + 100 * hits_of t.chosen t) (100 * hits_of (best t) t) then best t else t.chosen

-- one look-up of the small caches more, which hit or not
abbrev pub counted : Hits → Tally → Tally
counted hits t = record t {
  hundredth = t.hundredth + count_of hits.hundredth;
  tenth = t.tenth + count_of hits.tenth;
  two_fifths = t.two_fifths + count_of hits.two_fifths;
  whole = t.whole + count_of hits.whole;
  sampled = t.sampled + 2 ^ 16;
}

-- the share is chosen anew, and what was counted weighs less
abbrev pub decided : Tally → Tally
decided t = record {
  hundredth = faded t.hundredth;
  tenth = faded t.tenth;
  two_fifths = faded t.two_fifths;
  whole = faded t.whole;
  sampled = faded t.sampled;
  since = 0;
  chosen = choice t;
}

-- one look-up of the whole cache more, and a choice after each `epoch` of them
abbrev pub passed : ℕ → Tally → Tally
passed epoch t =
    let next : Tally = record t { since = t.since + 1 } in
    if t.since + 1 == epoch then decided next else next

-- each count is below a bound
pub record IsBelow (bound : ℕ) (t : Tally) : Type 0 where
  pub hundredth : t.hundredth < bound
  pub tenth : t.tenth < bound
  pub two_fifths : t.two_fifths < bound
  pub whole : t.whole < bound
  pub sampled : t.sampled < bound
