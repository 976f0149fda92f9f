-- What holds of the regions at all times.
use Rattle.std.specs.Prelude.{◌≡◌, ℕ, ◌+◌, ◌≤◌, ◌<◌, Bool, false, ◌||◌, length, All, nat_le, nat_lt, if◌then◌else◌, Option, Some, None, Result, Err, IsOkUnless, MatchOption}
use Rattle.std.specs.Option.{option_map_or}
use Rattle.std.specs.List.{IsDistinct}
use Rattle.std.specs.Map.{keys_of}
use Rattle.wt_keys.specs.declared.fault.Fault.{Fault}
use Rattle.wt_keys.specs.declared.fault.Fault.TheVariants.{NoMemory, BadConfig, TooHeavy}
use Rattle.wt_keys.specs.declared.fault.Field.{Field}
use Rattle.wt_keys.specs.declared.fault.Field.TheVariants.{Entries, Window, Bound, AfterWrite, AfterAccess, Refresh}
use Rattle.wt_regions.specs.declared.caps.Caps.{Caps}
use Rattle.wt_regions.specs.declared.weighs.Measure.{Measure}
use Rattle.wt_regions.specs.Lists.{Entry, Lists, all_entries, measured, weight_of, main_cap, protected_cap}

-- limits within their ranges
pub record IsFit (c : Caps) : Type 0 where
  pub some_window : 0 < c.window
  pub window : c.window ≤ c.entries
  pub entries : c.entries ≤ 65536
  pub bound : c.bound ≤ 281474976710656

-- whether a duration is set to no time at all
abbrev pub is_zero : Option ℕ → Bool
is_zero duration = option_map_or (λ d. nat_lt d 1) duration false

-- the first field of the limits that is out of its range
abbrev pub caps_fault : Caps → Option Field
caps_fault c =
    if nat_lt c.entries 1 || nat_lt 65536 c.entries then Some Entries else
    if nat_lt c.window 1 || nat_lt c.entries c.window then Some Window else
    if nat_lt c.bound 1 || nat_lt 281474976710656 c.bound then Some Bound else
    if is_zero c.after_write then Some AfterWrite else
    if is_zero c.after_access then Some AfterAccess else
    if is_zero c.refresh then Some Refresh else
    None

-- a field that is out of its range is named whatever the memory does; otherwise only memory is refused
abbrev pub FailsByField : {R : Type 0} → Option Field → Result R Fault → Type 0
FailsByField field result = MatchOption field (IsOkUnless result NoMemory) (λ f. result ≡ Err (BadConfig f))

-- why a value of this weight isn't stored within the bound
abbrev pub store_fault : ℕ → ℕ → Fault
store_fault weight bound = if nat_le weight bound then NoMemory else TooHeavy weight bound

module _ {K V : Type 0} (eq : K → K → Bool) (measure : V → Measure) where
  -- no key stands twice, no region is too long, each entry has the weight and life of its value, and the weights sum to at most the bound
  pub record IsLawful (r : Lists K V) : Type 0 where
    pub fit : IsFit r.caps
    pub distinct : IsDistinct eq (keys_of (all_entries r))
    pub window : length r.window ≤ r.caps.window
    pub protected : length r.protected ≤ protected_cap r.caps
    pub main_part : length r.probation + length r.protected ≤ main_cap r.caps
    pub measures : All (λ (e : Entry K V). measured e.1 ≡ measure e.1.value) (all_entries r)
    pub bound : weight_of r ≤ r.caps.bound
