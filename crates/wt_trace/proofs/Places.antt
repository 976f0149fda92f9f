-- The parts of the threads, a shard at a time.
use Rattle.std.proofs.Common.{◌≡◌, ◌≢◌, ℕ, ◌+◌, ◌%◌, ◌<◌, ◌≤◌, ◌==◌, if◌then◌else◌, List, [], length, get_or, Option, None, Some, Result, Ok, Err, IfOk, OnOk, IfErr, true, false, refl, ap, sym, subst, ◌∙◌, arith}
use Rattle.std.proofs.lemmas.Bool.Decides.{nat_tests}
use Rattle.std.proofs.lemmas.List.{get_or-set_same, get_or-set_other, length-set}
use Rattle.std.proofs.lemmas.List.FromFn.{get_or-map-range_with_len, length-map-range_with_len}
use Rattle.std.specs.Prelude.{slice_set, nat_lt}
use Rattle.wt_trace.specs.Answers.{ShardAnswers}
use Rattle.wt_trace.specs.Parts.{part_at, place_at, without, IsPart}
use Rattle.wt_trace.specs.Stops.{IsStop}
use Rattle.wt_trace.specs.declared.fault.ReplayFault.{ReplayFault}

-- one shard more was asked for
pub asked_more : (asked : ℕ → Type 0) (threads t n : ℕ) → (n % threads ≡ t → asked n) → ((s : ℕ) → s < n → s % threads ≡ t → asked s)
    → (s : ℕ) → s < n + 1 → s % threads ≡ t → asked s
asked_more asked threads t n last before s below own = elim (nat_lt s n) as (λ b. nat_lt s n ≡ b → asked s) [
  | true ↦ λ e. before s (grind (arith, nat_tests)) own
  | false ↦ λ e. let is : n ≡ s = grind (arith, nat_tests, below) in subst asked is (last (ap (λ m. m % threads) is ∙ own))
] refl

pub mod_one : (s : ℕ) → s % 1 ≡ 0
mod_one s = omega arith

pub not_own : (n threads t : ℕ) → (n % threads == t) ≡ false → n % threads ≡ t → ⊥
not_own n threads t other e = grind (arith, nat_tests)

-- a shard's answers stand at its place, unless the thread stopped
abbrev pub IsPlaced : (ℕ → ShardAnswers) → (ℕ → Type 0) → (ℕ → Type 0) → ℕ → ℕ → Result (List (Option ShardAnswers)) ReplayFault → Type 0
IsPlaced answers stops asked shards shard part =
    IfOk part (λ places. (length places ≡ shards) × (get_or places shard None ≡ Some (answers shard))) × IfErr part (IsStop stops)
    × OnOk part (asked shard)

pub same_some : {A : Type 0} {x y : A} → Some x ≡ Some y → x ≡ y
same_some e = cc

pub below_threads : (n threads : ℕ) → 0 < threads → n % threads < threads
below_threads n threads some = grind arith

module _ (answers : ℕ → ShardAnswers) (threads t shard : ℕ) where
  pub own_at : (shard % threads == t) ≡ true → part_at answers threads t shard ≡ Some (answers shard)
  own_at own = λ i. if own i then Some (answers shard) else None

  pub other_at : (shard % threads == t) ≡ false → part_at answers threads t shard ≡ None
  other_at other = λ i. if other i then Some (answers shard) else None

module _ (answers : ℕ → ShardAnswers) (stops asked : ℕ → Type 0) (shards : ℕ) where
  own_place : (threads shard : ℕ) → part_at answers threads (shard % threads) shard ≡ Some (answers shard)
  own_place threads shard = grind (arith, nat_tests)

  -- so it is for each shard in the part of its thread
  pub placed : (threads shard : ℕ) (part : Result (List (Option ShardAnswers)) ReplayFault) → shard < shards
      → IsPart answers stops asked shards threads (shard % threads) part → IsPlaced answers stops asked shards shard part
  placed threads shard (Err fault) within is = (tt, is.err, tt)
  placed threads shard (Ok places) within is =
      let f = part_at answers threads (shard % threads) in (
        (
          ap length is.answers ∙ length-map-range_with_len f 0 shards,
          ap (λ (ps : List (Option ShardAnswers)). get_or ps shard None) is.answers
              ∙ get_or-map-range_with_len f 0 shards shard shard None within (omega arith) ∙ own_place threads shard,
        ),
        tt,
        is.asked shard within refl,
      )

  -- and so it stays when another place is emptied
  pub placed-without : (shard other : ℕ) (part : Result (List (Option ShardAnswers)) ReplayFault) → shard ≢ other
      → IsPlaced answers stops asked shards shard part → IsPlaced answers stops asked shards shard (without other part)
  placed-without shard other (Err fault) apart is = is
  placed-without shard other (Ok places) apart is =
      ((length-set places other None ∙ is.0.0, get_or-set_other places other shard None None apart ∙ is.0.1), tt, is.2)

  -- it can be taken
  pub room_at : (shard : ℕ) (part : Result (List (Option ShardAnswers)) ReplayFault) → shard < shards
      → IsPlaced answers stops asked shards shard part → IfOk part (λ places. shard < length places)
  room_at shard (Err fault) within is = tt
  room_at shard (Ok places) within is = omega (arith, within, is.0.0)

  -- what is taken is what the shard answers
  pub found_at : (shard : ℕ) (part : Result (List (Option ShardAnswers)) ReplayFault) → IsPlaced answers stops asked shards shard part
      → IfOk (place_at shard part) (λ o. o ≡ Some (answers shard)) × IfErr (place_at shard part) (IsStop stops)
  found_at shard (Err fault) is = (tt, is.1)
  found_at shard (Ok places) is = (is.0.1, tt)

  -- and its lines were let through
  pub asked_at : (shard : ℕ) (part : Result (List (Option ShardAnswers)) ReplayFault) → IsPlaced answers stops asked shards shard part
      → OnOk (place_at shard part) (asked shard)
  asked_at shard (Err fault) is = tt
  asked_at shard (Ok places) is = is.2

  -- in all parts: those of the shards from one on are in their places
  pub record AreLeft (threads from : ℕ) (parts : List (Result (List (Option ShardAnswers)) ReplayFault)) : Type 0 where
    pub len : length parts ≡ threads
    pub at : (shard : ℕ) → from ≤ shard → shard < shards
        → IsPlaced answers stops asked shards shard (get_or parts (shard % threads) (Ok []))

  -- one is taken out of the part of its thread
  pub left-next : (threads from t : ℕ) (parts : List (Result (List (Option ShardAnswers)) ReplayFault)) → 0 < threads → t ≡ from % threads
      → t < threads
      → AreLeft threads from parts → AreLeft threads (from + 1) (slice_set parts t (without from (get_or parts t (Ok []))))
  left-next threads from t parts some is within left =
      let part = get_or parts t (Ok []) in
      let next = without from part in
      record {
        len = length-set parts t next ∙ left.len;
        at = λ shard later below. elim (shard % threads == t) as (λ b. (shard % threads == t) ≡ b
            → IsPlaced answers stops asked shards shard (get_or (slice_set parts t next) (shard % threads) (Ok []))) [
              | true ↦ λ same.
                  let here : shard % threads ≡ t = grind (arith, nat_tests) in
                  let old = subst (λ u. IsPlaced answers stops asked shards shard (get_or parts u (Ok []))) here
                  (left.at shard (omega (arith, later)) below) in
                  let new = placed-without shard from part (λ e. omega (arith, later, e)) old in
                  let read : get_or (slice_set parts t next) (shard % threads) (Ok []) ≡ next =
                  ap (λ u. get_or (slice_set parts t next) u (Ok [])) here
                  ∙ get_or-set_same parts t next (Ok []) (omega (arith, within, left.len)) in
                  subst (IsPlaced answers stops asked shards shard) (sym read) new
              | false ↦ λ other.
                  let apart : shard % threads ≢ t = λ e. grind (arith, nat_tests) in
                  subst (IsPlaced answers stops asked shards shard) (sym (get_or-set_other parts t (shard % threads) next (Ok []) apart))
                  (left.at shard (omega (arith, later)) below)
            ] refl;
      }

  -- at first those of all shards are
  pub left-first : (threads : ℕ) (parts : List (Result (List (Option ShardAnswers)) ReplayFault)) → 0 < threads → length parts ≡ threads
      → ((t : ℕ) → t < threads → IsPart answers stops asked shards threads t (get_or parts t (Ok []))) → AreLeft threads 0 parts
  left-first threads parts some len each = record {
    len = len;
    at = λ shard from below. placed threads shard (get_or parts (shard % threads) (Ok [])) below
        (each (shard % threads) (below_threads shard threads some));
  }
