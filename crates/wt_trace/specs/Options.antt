-- The options: their defaults and their ranges.
use Rattle.std.specs.Prelude.{ℕ, ◌+◌, ◌*◌, ◌/◌, ◌==◌, nat_lt, nat_le, max, Bool, not, is_none, ◌&&◌, ◌||◌, if◌then◌else◌, Option, None, Some, unwrap_or}
use Rattle.wt_keys.specs.declared.fault.Field.{Field}
use Rattle.wt_keys.specs.declared.fault.Field.TheVariants.{Adaptive, Shards, Entries, Window, Bound, Modulus, AfterWrite, AfterAccess, Refresh, FailMod, Flights, Ring, Threads, Turn, Workers}
use Rattle.wt_core.specs.declared.config.Config.{Config}
use Rattle.wt_regions.specs.Lawful.{is_zero}
use Rattle.wt_trace.specs.declared.options.Options.{Options}

-- the window that is used if none is given: a hundredth of the entries and at least 1, or where an adviser begins
abbrev pub default_window : Options → ℕ
default_window o = if nat_lt 0 o.adaptive then max ((o.entries * 10) / 100) 1 else max (o.entries / 100) 1

-- the window
abbrev pub window_of : Options → ℕ
window_of o = unwrap_or o.window (default_window o)

-- the ring, by default one more than the flights and at least 64
abbrev pub ring_of : Options → ℕ
ring_of o = unwrap_or o.ring (max (o.flights + 1) 64)

-- whether a number is outside low to high
abbrev pub is_outside : ℕ → ℕ → ℕ → Bool
is_outside low high n = nat_lt n low || nat_lt high n

-- whether there can be `n` shards
abbrev pub is_shard_count : ℕ → Bool
is_shard_count n = n == 1 || (n == 2 || n == 4)

-- whether the window may follow the stream: an adviser has enough entries, and no window is given
abbrev pub can_adapt : Options → Bool
can_adapt o = nat_le 64 o.entries && is_none o.window

-- the first of the options from flights on that is out of its range: a run is by shard or by turn, and only turns have workers
abbrev pub later_fault : Options → Option Field
later_fault o =
    if is_outside 1 4096 o.flights then Some Flights else
    if is_outside (o.flights + 1) 65536 (ring_of o) then Some Ring else
    if is_outside 0 64 o.threads then Some Threads else
    if is_outside 0 64 o.turn || (nat_lt 0 o.turn && nat_lt 0 o.threads) then Some Turn else
    if is_outside 0 64 o.workers || (nat_lt 0 o.workers && not (nat_lt 0 o.turn)) then Some Workers else
    if is_outside 0 1 o.adaptive || (nat_lt 0 o.adaptive && not (can_adapt o)) then Some Adaptive else
    None

-- the first option that is out of its range
abbrev pub option_fault : Options → Option Field
option_fault o =
    if not (is_shard_count o.shards) then Some Shards else
    if is_outside 1 65536 o.entries then Some Entries else
    if is_outside 1 o.entries (window_of o) then Some Window else
    if is_outside 1 281474976710656 o.weight then Some Bound else
    if is_outside 1 1000000 o.modulus then Some Modulus else
    if is_zero o.write then Some AfterWrite else
    if is_zero o.access then Some AfterAccess else
    if is_zero o.refresh then Some Refresh else
    if is_zero o.fail_mod then Some FailMod else
    later_fault o

-- what each shard is made for
abbrev pub config_of : Options → Config
config_of o = record { entries = o.entries; window = window_of o; bound = o.weight; after_write = o.write; after_access = o.access; refresh = o.refresh; flights = o.flights; ring = ring_of o }

-- what stands if nothing is given
abbrev pub default_options : Options
default_options = record { shards = 1; entries = 1024; window = None; weight = 281474976710656; modulus = 1; write = None; access = None; refresh = None; fail_mod = None; flights = 32; ring = None; threads = 0; turn = 0; workers = 0; adaptive = 0 }
