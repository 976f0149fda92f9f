-- Which keys an open cache has.
use Rattle.std.specs.Prelude.{ℕ, List, Option, Some, None}
use Rattle.wt_ffi.specs.declared.opened.Opened.{Opened}
use Rattle.wt_ffi.specs.declared.opened.Opened.TheVariants.{Numbers, Names}
use Rattle.wt_ffi.specs.Open.{Open}

-- the cache behind a handle, if it is open and its keys are numbers
abbrev pub numbered : Option Opened → Option (Open ℕ)
numbered (Some (Numbers c)) = Some c
numbered (Some (Names c)) = None
numbered None = None

-- the cache behind a handle, if it is open and its keys are names
abbrev pub named : Option Opened → Option (Open (List ℕ))
named (Some (Names c)) = Some c
named (Some (Numbers c)) = None
named None = None
