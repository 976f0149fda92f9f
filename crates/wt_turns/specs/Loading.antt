-- What the loader of a replay turn by turn makes.
use Rattle.std.specs.Prelude.{◌≡◌, ℕ, ◌+◌, ◌%◌, ◌==◌, false, if◌then◌else◌, Result, Ok, Err}
use Rattle.std.specs.Option.{option_map_or}
use Rattle.wt_trace.specs.declared.options.Options.{Options}
use Rattle.wt_trace.specs.declared.shard.version.Version.{Version}

-- how a load of the key ends: with the value of a line 0, or by the code 7
abbrev pub loaded : {K : Type 0} → (K → ℕ) → Options → K → Result (Version K) ℕ
loaded word o k = if option_map_or (λ f. word k % f == 0) o.fail_mod false then Err 7 else Ok (record { key = k; line = 0; weight = 1 + word k % o.modulus })
