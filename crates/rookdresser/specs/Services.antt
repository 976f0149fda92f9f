-- What a run of a service returns.
use Rattle.std.specs.Prelude.{Vec, Result, Ok, Err}
use Rattle.std.specs.Global.{Global}
use Rattle.wt_keys.specs.declared.fault.Fault.{Fault}
use Rattle.rookdresser.specs.declared.service.Served.{Served}

-- the answers of the threads, without the counts
abbrev pub answers_in : {A : Type 0} → Result (Served A) Fault → Result (Vec (Result A Fault) Global) Fault
answers_in (Ok served) = Ok served.answers
answers_in (Err f) = Err f
