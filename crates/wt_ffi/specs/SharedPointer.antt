-- What a pointer to a caller of a shared cache owns.
use base.Fml.{Fml, ftrue}
use denote.RawPtr.{Ptr}
use Rattle.std.specs.Prelude.{Option, Some, None}
use Rattle.std.specs.Box.Ownership.{box_owns}
use Rattle.std.specs.Global.{Global}
use Rattle.std_heap.specs.contracts.GlobalAllocator.TheImpl.{ghosts}
use Rattle.wt_ffi.specs.contracts.shared.sharing.Sharing.{the_row}

-- what a pointer owns: the box of a caller behind it, or nothing
abbrev pub shared_pointer_owns : Global → Ptr → Option the_row.Denot → Fml
shared_pointer_owns alloc p (Some sharing) = box_owns (ghosts.dealloc_token alloc) the_row p sharing
shared_pointer_owns alloc p None = ftrue
