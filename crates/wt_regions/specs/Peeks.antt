-- What a look-up would find, with nothing used.
use Rattle.std.specs.Prelude.{Option, Some, None}
use Rattle.wt_regions.specs.declared.touch.Found.{Found}
use Rattle.wt_regions.specs.declared.touch.Found.TheVariants.{Hit, Absent, Expired}

-- the value that a look-up finds
abbrev pub value_of : {V : Type 0} → Found V → Option V
value_of (Hit v) = Some v
value_of Absent = None
value_of Expired = None
