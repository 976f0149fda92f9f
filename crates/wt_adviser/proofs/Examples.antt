-- Worked examples of the advice, computed by the definitions alone.
use Rattle.std.proofs.Common.{◌≡◌, ℕ, List, [], ◌∷◌, map, refl}
use Rattle.wt_adviser.specs.declared.share.Share.{Share}
use Rattle.wt_adviser.specs.declared.share.Share.TheVariants.{Hundredth, Tenth, TwoFifths, Whole}
use Rattle.wt_adviser.specs.declared.tally.Tally.{Tally}
use Rattle.wt_adviser.specs.Advice.{opening, sampled_of, small_entries, wanted}
use Rattle.wt_adviser.specs.Tally.{choice, decided, faded}

-- the window that is advised before any look-up
abbrev first_window : ℕ → ℕ
first_window entries = wanted (opening {K = ℕ} entries)

-- a tenth of the entries, rounded down
pub an_adviser_begins_with_a_tenth : map first_window (64 ∷ 512 ∷ 1000 ∷ 4194304 ∷ []) ≡ 6 ∷ 51 ∷ 100 ∷ 419430 ∷ []
an_adviser_begins_with_a_tenth = refl

-- below 96 entries every other key is of the sample, from 4,096 on one in 64
pub few_keys_of_many_entries_are_sampled : map sampled_of (64 ∷ 95 ∷ 96 ∷ 128 ∷ 255 ∷ 256 ∷ 512 ∷ 4095 ∷ 4096 ∷ 4159 ∷ 4160 ∷ 4194304 ∷ [])
    ≡ 2 ∷ 2 ∷ 3 ∷ 4 ∷ 7 ∷ 8 ∷ 8 ∷ 63 ∷ 64 ∷ 64 ∷ 64 ∷ 64 ∷ []
unfolding sampled_of
few_keys_of_many_entries_are_sampled = refl

pub a_small_cache_has_32_entries_or_more : map small_entries (64 ∷ 263 ∷ 264 ∷ 511 ∷ 512 ∷ 4159 ∷ 4160 ∷ 4194304 ∷ [])
    ≡ 32 ∷ 32 ∷ 33 ∷ 63 ∷ 64 ∷ 64 ∷ 65 ∷ 65536 ∷ []
a_small_cache_has_32_entries_or_more = refl

-- a hit counts 61,440 after one choice and 57,600 after two
pub counts_fade_by_a_sixteenth : map faded (65536 ∷ 61440 ∷ 17 ∷ 16 ∷ 1 ∷ 0 ∷ []) ≡ 61440 ∷ 57600 ∷ 15 ∷ 15 ∷ 0 ∷ 0 ∷ []
counts_fade_by_a_sixteenth = refl

-- of 200 sampled look-ups a tenth, which is in use, had 100 hits, and the whole so many
abbrev against : ℕ → Tally
against hits = record { hundredth = 98; tenth = 100; two_fifths = 101; whole = hits; sampled = 200; since = 31; chosen = Tenth }

-- a lead of two is a hundredth of 200, and not more
pub a_lead_is_more_than_a_hundredth : map (λ hits. choice (against hits)) (99 ∷ 102 ∷ 103 ∷ []) ≡ Tenth ∷ Tenth ∷ Whole ∷ []
a_lead_is_more_than_a_hundredth = refl

-- the choice is made by the counts before they fade
pub a_choice_fades_the_counts : decided (against 103)
    ≡ record { hundredth = 91; tenth = 93; two_fifths = 94; whole = 96; sampled = 187; since = 0; chosen = Whole }
a_choice_fades_the_counts = refl
