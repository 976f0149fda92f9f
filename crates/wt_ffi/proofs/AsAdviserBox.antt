-- The rows at which a pointer is a box of an adviser.
use denote.Signature.{Slot, plain}
use Rattle.std_alloc.proofs.BoxSteps.Form.{Bx}
use Rattle.std_heap.specs.contracts.Global as Heap
use Rattle.std_heap.specs.contracts.GlobalAllocator.TheImpl.{ghosts}
use Rattle.wt_ffi.specs.contracts.adviser.Advising as Advising
use Rattle.wt_ffi.proofs.adviser.Advising.TheLaws as advising
use Rattle.wt_ffi.specs.contracts.raw_box.RawBox as RawBox
use Rattle.wt_ffi.specs.contracts.adviser.pointer.AdviserPointer as Pointer
use Rattle.wt_ffi.proofs.AsBox.{heap_al}

-- a box of an adviser, on the heap
abbrev pub adviser_box : Bx
adviser_box = record { row = Advising.the_row; laws = advising.the_row_laws; al = heap_al }

-- its parts, as a parameter
abbrev pub Parts : Slot 0
Parts = plain (λ _. RawBox.the_row Advising.the_row Heap.the_row ghosts)

-- a pointer of C's, as a parameter
abbrev pub Owned : Slot 0
Owned = plain (λ _. Pointer.the_row)
