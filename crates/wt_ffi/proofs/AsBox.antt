-- The rows at which a pointer is a box of an open cache, and the machine values of one that may own nothing.
use Rattle.std.proofs.Common.{◌≡◌, [], refl, lit<, sym, true≢false, Option, Some, None, IsSome}
use lib.Dec.{T}
use mir.Syntax.{impl, tnil, dnil, ty_ptr}
use mir.Val.{Val, vstruct, vcons, vnil, has_ty, WT}
use denote.RawPtr.{Ptr, block_ptr, null_ptr, ptr_val}
use denote.Signature.{Slot, plain}
use Rattle.core.proofs.alloc.Calls.{Al, α, Fits}
use Rattle.std_alloc.proofs.ResultValues.{and_tt}
use Rattle.std_alloc.proofs.BoxSteps.Form.{Bx, box_ty}
use Rattle.std_heap.specs.contracts.Global as Heap
use Rattle.std_heap.specs.contracts.GlobalAllocator.TheImpl.{ghosts, dict}
use Rattle.std_heap.proofs.Global.TheLaws as heap
use Rattle.wt_ffi.specs.contracts.opened.Opened as Opened
use Rattle.wt_ffi.proofs.opened.Opened.TheLaws as opened
use Rattle.wt_ffi.specs.contracts.raw_box.RawBox as RawBox
use Rattle.wt_ffi.specs.contracts.pointer.Pointer as Pointer

-- the heap
abbrev pub heap_al : Al
heap_al = record { row = Heap.the_row; laws = heap.the_row_laws; g = ghosts; d = dict; drops = impl [] tnil dnil }

-- a box of an open cache, on the heap
abbrev pub cache_box : Bx
cache_box = record { row = Opened.the_row; laws = opened.the_row_laws; al = heap_al }

-- its parts, as a parameter
abbrev pub Parts : Slot 0
Parts = plain (λ _. RawBox.the_row Opened.the_row Heap.the_row ghosts)

-- a pointer of C's, as a parameter
abbrev pub Owned : Slot 0
Owned = plain (λ _. Pointer.the_row)

-- a pointer beside an allocator's handle, as the machine has them
abbrev pub beside : Ptr → Val → Val
beside p h = vstruct (vcons (ptr_val p) (vcons h vnil))

pub beside_typed : (h : Val) (p : Ptr) → Fits cache_box.al h → T (has_ty (box_ty cache_box) (beside p h)) × WT (beside p h)
beside_typed h (block_ptr b o) fits = (and_tt (has_ty (α cache_box.al) h) fits.0, (tt, (fits.1, tt)))
beside_typed h null_ptr fits = (and_tt (has_ty (α cache_box.al) h) fits.0, (record { fits = lit< tt }, (fits.1, tt)))

pub ptr_typed : (p : Ptr) → T (has_ty ty_ptr (ptr_val p)) × WT (ptr_val p)
ptr_typed (block_ptr b o) = (tt, tt)
ptr_typed null_ptr = (tt, record { fits = lit< tt })

-- what there is, where there is something
pub found_in : {X : Type 0} (o : Option X) → IsSome o → (x : X) × (o ≡ Some x)
found_in (Some x) is = (x, refl)
found_in None is = absurd (true≢false (sym is))
