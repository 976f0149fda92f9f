-- The fault line.
use Rattle.std.specs.Prelude.{ℕ, List, ◌++◌, codes, decimal}
use Rattle.wt_keys.specs.Faults.{fault_number, field_name}
use Rattle.wt_keys.specs.declared.fault.Fault.TheVariants.{BadConfig}
use Rattle.wt_trace.specs.declared.fault.ReplayFault.{ReplayFault}
use Rattle.wt_trace.specs.declared.fault.ReplayFault.TheVariants.{Cache, BadLine, LineTooLong, TooManyLines, ReadFault, WriteFault, GateShut}

-- the number of a fault of the program
abbrev pub number_of : ReplayFault → ℕ
number_of (Cache fault) = fault_number fault
number_of (BadLine n) = 11
number_of (LineTooLong n) = 12
number_of TooManyLines = 13
number_of ReadFault = 14
number_of WriteFault = 15
number_of (GateShut n) = 17

-- what follows the number
abbrev pub tail_of : ReplayFault → List ℕ
tail_of (Cache (BadConfig field)) = codes " field " ++ (field_name field ++ codes "\n")
tail_of (BadLine n) = codes " line " ++ (decimal n ++ codes "\n")
tail_of (LineTooLong n) = codes " line " ++ (decimal n ++ codes "\n")
tail_of (GateShut n) = codes " line " ++ (decimal n ++ codes "\n")
tail_of _ = codes "\n"

abbrev pub fault_line : ReplayFault → List ℕ
fault_line fault = codes "fault " ++ (decimal (number_of fault) ++ tail_of fault)
