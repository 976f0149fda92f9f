-- What a pointer to an adviser owns.
use base.Fml.{Fml, ftrue}
use denote.RawPtr.{Ptr}
use Rattle.std.specs.Prelude.{Option, Some, None}
use Rattle.std.specs.Box.Ownership.{box_owns}
use Rattle.std.specs.Global.{Global}
use Rattle.std_heap.specs.contracts.GlobalAllocator.TheImpl.{ghosts}
use Rattle.wt_ffi.specs.contracts.adviser.Advising.{the_row}

-- what a pointer owns: the box of an adviser behind it, or nothing
abbrev pub adviser_pointer_owns : Global → Ptr → Option the_row.Denot → Fml
adviser_pointer_owns alloc p (Some advising) = box_owns (ghosts.dealloc_token alloc) the_row p advising
adviser_pointer_owns alloc p None = ftrue
