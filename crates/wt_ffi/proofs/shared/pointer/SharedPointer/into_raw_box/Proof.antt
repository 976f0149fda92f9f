-- The two fields move back. The caller that is asked for says that the pointer owns its box.
use Rattle.std.proofs.Common.{Option, Some, IsSome}
use Rattle.wt_ffi.proofs.Walks.{◌≡◌, List, [], ◌∷◌, ◌++◌, refl, sym, subst, Val, SProp, ent, emp, id⊢, ftrue, fsep, WpFn, fact, fact_i, tables, ‵, raw, ◌⊛◌, ◌$◌, ◌∵◌, !, qed, by, move, keep, split, fsplit, fjoin, suffices, use0, use1, rewrite, agg, sub, whole, stop, fld, of_opd, no_more, and_then, returns, enter, alloc_all, pass_all, free_all, look_at, get, get_in, sets, yes, nothing, heard, Stays, stay_dropped, Goes-dropped, walk_of, proved_at, leaves, B, D, box_typed, word, box_in, box_out}
use Rattle.wt_ffi.proofs.AsBox.{found_in}
use Rattle.wt_ffi.proofs.AsCallerBox.{caller_box, Owned}
use Rattle.wt_ffi.specs.contracts.raw_box.RawBox as parts
use Rattle.wt_ffi.specs.contracts.shared.sharing.Sharing as Sharing
use Rattle.std_heap.specs.contracts.Global as Heap
use Rattle.std_heap.specs.contracts.GlobalAllocator.TheImpl.{ghosts}
use Rattle.wt_ffi.specs.contracts.shared.pointer.SharedPointer as pointer
use Rattle.wt_ffi.specs.contracts.shared.pointer.SharedPointer.into_raw_box as f
use Rattle.wt_ffi.proofs.shared.pointer.SharedPointer.into_raw_box.Statement.{statement}
use Rattle.wt_ffi.proofs.shared.pointer.SharedPointer.into_raw_box.Code as code

abbrev stayed : Stays f.ended.signature.params f.ended.kept
stayed = (stay_dropped Owned yes, tt)

pub into_raw_box_spec : {M : Type 1} → statement M
into_raw_box_spec 𝓤 𝓛 𝓜 𝓡 wired =
    let 𝓣 = tables 𝓤 𝓛.H 𝓜 𝓡 𝓡.env in
    let clauses = f.clauses 𝓛 𝓜.mem 𝓡.returns in
    let Made = parts.the_row Sharing.the_row Heap.the_row ghosts in
    proved_at 𝓛 f.ended stayed clauses 𝓜 𝓡 (Goes-dropped 𝓛 0 Owned yes (λ κs x w. refl), tt)
    f.Key.name code.function (code.unfolded 𝓤 𝓛.H 𝓜 𝓡 wired) (λ z are.
    let held = z.0.3.0 in
    let Post : Val → SProp 𝓤 = (walk_of 𝓛 f.ended stayed clauses).post z in
    let Run : List Val → SProp 𝓤 = λ vs. WpFn 𝓤 𝓛.H 𝓣.C 𝓣.Λ code.function vs Post in
    qed 𝓛 ((‵ ftrue ⊛ ‵ (fsep (pointer.the_row.own_val held z.0.4.0) ftrue)) ∷ raw (fact 𝓤 (IsSome held.sharing)) ∷ []) ∵
    move ! (1 ∷ []) $ heard ! (IsSome held.sharing) (λ is.
    let found = found_in held.sharing is in
    let boxed : D caller_box = record { ptr = held.at; alloc = held.alloc; value = found.0 } in
    let made : Made.Denot = record { at = held.at; alloc = held.alloc; value = found.0 } in
    split ! $ move ! (1 ∷ []) $ fsplit ! $
    rewrite ! 0 (λ (c : Option Sharing.the_row.Denot). ‵
    (pointer.the_row.own_val (record { at = held.at; alloc = held.alloc; sharing = c }) z.0.4.0)) found.1 refl
    $
    use1 𝓛 (‵ ((B caller_box).own_val boxed z.0.4.0)) (id⊢ 𝓤 _) $
    box_out caller_box ! boxed z.0.4.0 (λ b o h is_at is_word fits.
    box_in caller_box ! boxed b o boxed.value is_at refl $
    let given = word caller_box h b o in
    let typed = box_typed caller_box h b o fits in
    -- [what the parts own; nothing; no tokens]
    use1 𝓛 (‵ (Made.own_val made (given ∷ []))) (id⊢ 𝓤 _) $
    suffices ! (Run (given ∷ [])) (subst (λ (vs : List Val). ent 𝓤 (Run (given ∷ [])) (Run vs))
    (sym (λ i. is_word i ++ [])) (id⊢ 𝓤 (Run (given ∷ [])))) $
    enter ! 𝓣.C 𝓣.Λ code.function (given ∷ []) Post $ alloc_all ! (λ l. pass_all ! refl (typed, tt) $
    sets ! (of_opd ! (get_in ! (fld ! refl (stop !)) (sub ! 0 refl (whole !)))) refl (tt, tt) $
    sets ! (of_opd ! (get_in ! (fld ! refl (stop !)) (sub ! 1 refl (whole !)))) refl fits $
    sets ! (of_opd ! (get ! refl)) refl (tt, tt) $
    sets ! (agg ! (and_then ! (get ! refl) (and_then ! (get ! refl) (no_more !)))) refl typed $
    use0 𝓛 (raw (fact 𝓤 (Some found.0 ≡ held.sharing))) (fact_i 𝓤 (Some found.0 ≡ held.sharing) (emp 𝓤) (sym found.1)) $
    nothing ! $ nothing ! $ fjoin ! $
    returns ! (look_at ! 0 refl) $ free_all ! refl $
    -- [nothing of the parameter; the clause; the result; nothing; no tokens]
    keep ! (4 ∷ 0 ∷ 2 ∷ 1 ∷ []) $ by ! (leaves 𝓛 f.ended stayed clauses z given made (tt, tt) (tt, tt))))))
