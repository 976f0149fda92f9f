-- The rows at which a pointer is a box of a caller.
use denote.Signature.{Slot, plain}
use Rattle.std_alloc.proofs.BoxSteps.Form.{Bx}
use Rattle.std_heap.specs.contracts.Global as Heap
use Rattle.std_heap.specs.contracts.GlobalAllocator.TheImpl.{ghosts}
use Rattle.wt_ffi.specs.contracts.shared.sharing.Sharing as Sharing
use Rattle.wt_ffi.proofs.shared.sharing.Sharing.TheLaws as sharing
use Rattle.wt_ffi.specs.contracts.raw_box.RawBox as RawBox
use Rattle.wt_ffi.specs.contracts.shared.pointer.SharedPointer as Pointer
use Rattle.wt_ffi.proofs.AsBox.{heap_al}

-- a box of a caller, on the heap
abbrev pub caller_box : Bx
caller_box = record { row = Sharing.the_row; laws = sharing.the_row_laws; al = heap_al }

-- its parts, as a parameter
abbrev pub Parts : Slot 0
Parts = plain (λ _. RawBox.the_row Sharing.the_row Heap.the_row ghosts)

-- a pointer of C's, as a parameter
abbrev pub Owned : Slot 0
Owned = plain (λ _. Pointer.the_row)
