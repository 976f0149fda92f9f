-- A pointer to nothing owns nothing, wherever it leads.
use Rattle.std.proofs.Common.{None}
use denote.RattleType.{Valss}
use denote.Struct.Struct.{within}
use denote.Struct.Owning.{shape}
use Rattle.wt_ffi.proofs.Walks.{◌≡◌, List, [], ◌∷◌, ◌++◌, refl, sym, subst, Val, SProp, ent, emp, id⊢, ftrue, fsep, WpFn, fact, fact_i, tables, ‵, raw, ◌⊛◌, ◌$◌, ◌∵◌, !, qed, by, move, keep, split, fsplit, fjoin, fpack, suffices, use0, use1, feq_i, feq_l, agg, no_more, and_then, returns, enter, alloc_all, pass_all, free_all, look_at, get, sets, RawPtr, yes, ptr_val, plain, nothing, handle_tells, Stays, stay_dropped, Goes-dropped, walk_of, proved_at, leaves}
use Rattle.wt_ffi.proofs.AsBox.{beside, beside_typed, ptr_typed}
use Rattle.wt_ffi.proofs.AsCallerBox.{caller_box}
use Rattle.std_heap.specs.contracts.Global as Heap
use Rattle.std_heap.specs.contracts.GlobalAllocator.TheImpl.{ghosts}
use Rattle.wt_ffi.specs.contracts.shared.sharing.Sharing as Sharing
use Rattle.wt_ffi.specs.contracts.raw_box.RawBox as parts
use Rattle.wt_ffi.specs.contracts.shared.pointer.SharedPointer as pointer
use Rattle.wt_ffi.specs.contracts.shared.pointer.SharedPointer.closed as f
use Rattle.wt_ffi.proofs.shared.pointer.SharedPointer.closed.Statement.{statement}
use Rattle.wt_ffi.proofs.shared.pointer.SharedPointer.closed.Code as code

abbrev stayed : Stays f.ended.signature.params f.ended.kept
stayed = (stay_dropped (plain (λ _. Heap.the_row)) yes, (stay_dropped (plain (λ _. RawPtr)) yes, tt))

pub closed_spec : {M : Type 1} → statement M
closed_spec 𝓤 𝓛 𝓜 𝓡 wired =
    let 𝓣 = tables 𝓤 𝓛.H 𝓜 𝓡 𝓡.env in
    let clauses = f.clauses 𝓛 𝓜.mem 𝓡.returns in
    proved_at 𝓛 f.ended stayed clauses 𝓜 𝓡 (
      Goes-dropped 𝓛 0 (plain (λ _. Heap.the_row)) yes (λ κs x w. refl),
      (Goes-dropped 𝓛 0 (plain (λ _. RawPtr)) yes (λ κs x w. refl), tt),
    )
    f.Key.name code.function (code.unfolded 𝓤 𝓛.H 𝓜 𝓡 wired) (λ z are.
    let alloc = z.0.3.0 in let p = z.0.3.1.0 in
    let made : pointer.the_row.Denot = record { at = p; alloc = alloc; sharing = None } in
    let Post : Val → SProp 𝓤 = (walk_of 𝓛 f.ended stayed clauses).post z in
    let Run : List Val → SProp 𝓤 = λ vs. WpFn 𝓤 𝓛.H 𝓣.C 𝓣.Λ code.function vs Post in
    qed 𝓛 ((‵ ftrue ⊛ ‵ (fsep (Heap.the_row.own_val alloc z.0.4.0) (fsep (RawPtr.own_val p z.0.4.1.0) ftrue))) ∷ raw (emp 𝓤) ∷ []) ∵
    split ! $ move ! (1 ∷ []) $ fsplit ! $
    handle_tells caller_box.al ! alloc z.0.4.0 (λ h is_handle fits. move ! (1 ∷ []) $ fsplit ! $ feq_l ! (λ is_ptr.
    -- [nothing; the handle; no tokens; nothing asked]
    let word = beside p h in
    nothing ! $ move ! (2 ∷ 0 ∷ []) $ fjoin ! $ feq_i ! (List Val) (ptr_val p ∷ []) (ptr_val p ∷ []) refl $ fjoin ! $
    feq_i ! (List Val) (word ∷ []) (word ∷ []) refl $ fjoin ! $
    fpack ! (Valss (RawPtr ∷ Heap.the_row ∷ []))
    (within (shape (parts.the_type Sharing.the_row Heap.the_row ghosts)) (p, (alloc, tt)) (word ∷ []))
    (ptr_val p ∷ [], (h ∷ [], tt)) $
    nothing ! $ move ! (1 ∷ 0 ∷ []) $ fjoin ! $
    use1 𝓛 (‵ (pointer.the_row.own_val made (word ∷ []))) (id⊢ 𝓤 _) $
    -- [what the pointer owns; nothing; no tokens; nothing asked]
    suffices ! (Run (h ∷ ptr_val p ∷ []))
    (subst (λ (vs : List Val). ent 𝓤 (Run (h ∷ ptr_val p ∷ [])) (Run vs))
    (sym (λ i. is_handle i ++ (is_ptr i ++ []))) (id⊢ 𝓤 (Run (h ∷ ptr_val p ∷ [])))) $
    enter ! 𝓣.C 𝓣.Λ code.function (h ∷ ptr_val p ∷ []) Post $ alloc_all ! (λ l. pass_all ! refl (fits, (ptr_typed p, tt)) $
    sets ! (agg ! (and_then ! (get ! refl) (and_then ! (get ! refl) (no_more !)))) refl (beside_typed h p fits) $
    use0 𝓛 (raw (fact 𝓤 (made.sharing ≡ None))) (fact_i 𝓤 (made.sharing ≡ None) (emp 𝓤) refl) $
    nothing ! $ nothing ! $ fjoin ! $ nothing ! $ fjoin ! $
    returns ! (look_at ! 0 refl) $ free_all ! refl $
    -- [nothing of the parameters; the clause; the result; nothing; no tokens]
    keep ! (4 ∷ 0 ∷ 2 ∷ 1 ∷ []) $ by ! (leaves 𝓛 f.ended stayed clauses z word made (tt, (tt, tt)) (tt, (tt, tt)))))))
