-- What a replay did.
use Rattle.std.specs.Prelude.{◌≡◌, ℕ, ◌<◌, ◌^◌, ◌-◌, ◌≤◌, ◌⊎◌, ◌↔◌, List, length, Option, Result, Err, Some, ◌++◌, Bool, true, false}
use Rattle.std.specs.Io.KnownBytes.{Keeps, Appends, Consumes, IsAtEnd}
use Rattle.wt_trace.specs.Trace.{read_end}
use Rattle.wt_trace.specs.Options.{option_fault}
use Rattle.wt_trace.specs.Report.{report}
use Rattle.wt_trace.specs.Stops.{Asked}
use Rattle.wt_trace.specs.declared.options.Options.{Options}
use Rattle.wt_trace.specs.declared.fault.ReplayFault.{ReplayFault}
use Rattle.wt_keys.specs.declared.fault.Fault.TheVariants.{NoMemory, BadConfig}
use Rattle.wt_trace.specs.declared.fault.ReplayFault.TheVariants.{Cache, ReadFault, WriteFault, GateShut}

-- a reader gave these bytes: all that it had, or the first up to a limit
pub record GaveUpTo (most : ℕ) (old new : Option (List ℕ)) (bytes : List ℕ) : Type 0 where
  -- they are what it had in front
  pub given : Consumes old new bytes
  -- no more than the limit
  pub few : length bytes ≤ most
  -- and no fewer, unless nothing is left
  pub all : (length bytes ≡ most) ⊎ IsAtEnd new

-- all that it had, or the first 65,000,001
abbrev pub Gave : Option (List ℕ) → Option (List ℕ) → List ℕ → Type 0
Gave old new bytes = GaveUpTo read_end old new bytes

-- what was known to be written grew by a prefix of the bytes
abbrev pub AppendsPrefix : Option (List ℕ) → Option (List ℕ) → List ℕ → Type 0
AppendsPrefix old new bytes = (front back : List ℕ) × (bytes ≡ front ++ back) × Appends old new front

-- By the outcome: what became of the reader (r, s: before, after) and of the writer (w, x).
abbrev pub Replayed : Options → Option (List ℕ) → Option (List ℕ) → Option (List ℕ) → Option (List ℕ) → Result (Unit {0}) ReplayFault → Type 0
Replayed o r s w x (Err (Cache NoMemory)) = Keeps w x
Replayed o r s w x (Err (Cache (BadConfig field))) = (option_fault o ≡ Some field) × Keeps r s × Keeps w x
Replayed o r s w x (Err ReadFault) = Keeps w x
Replayed o r s w x (Err (GateShut n)) = Keeps w x
Replayed o r s w x (Err WriteFault) = (bytes : List ℕ) × Gave r s bytes × AppendsPrefix w x (report o bytes).text
Replayed o r s w x outcome = (bytes : List ℕ) × Gave r s bytes × Appends w x (report o bytes).text × (outcome ≡ (report o bytes).verdict)

-- whether a fault is one of the options
abbrev pub is_config_fault : ReplayFault → Bool
is_config_fault (Cache (BadConfig field)) = true
is_config_fault fault = false

-- Below the greatest count: this fault is returned exactly if the count rose.
abbrev pub Rises : {X : Type 0} → ℕ → ℕ → Result X ReplayFault → ReplayFault → Type 0
Rises old new result fault = old < 2 ^ 64 - 1 → (result ≡ Err fault) ↔ (old < new)

-- a gate that was shut was shut before such a line
abbrev pub ShutsOnly : {X : Type 0} → (ℕ → Type 0) → Result X ReplayFault → Type 0
ShutsOnly shut result = (n : ℕ) → result ≡ Err (GateShut n) → shut n

-- if a report was made, each line of the bytes that the reader gave was let through
abbrev pub LetThrough : Options → (ℕ → Type 0) → Option (List ℕ) → Option (List ℕ) → Result (Unit {0}) ReplayFault → Type 0
LetThrough o passed r s (Err (Cache fault)) = Unit {0}
LetThrough o passed r s (Err ReadFault) = Unit {0}
LetThrough o passed r s (Err (GateShut n)) = Unit {0}
LetThrough o passed r s outcome = (bytes : List ℕ) × Gave r s bytes × Asked o passed bytes
