-- The value of a cache that C opens.
use Rattle.std.specs.Prelude.{ℕ}
use Rattle.wt_regions.specs.declared.weighs.Measure.{Measure}
use Rattle.wt_ffi.specs.declared.token.Token.{Token}
use Rattle.wt_ffi.specs.declared.token.Timed.{Timed}

-- a token with this life, in milliseconds; 0 for none
abbrev pub timed : Token → ℕ → Timed
timed t life = record { token = t.token; weight = t.weight; life = life }

-- what it weighs, and how long it lives
abbrev pub timed_measure : Timed → Measure
timed_measure t = record { weight = t.weight; life = t.life }
