-- The two fields move, and what they own goes with them.
use Rattle.std.proofs.Common.{Some}
use Rattle.wt_ffi.proofs.Walks.{◌≡◌, List, [], ◌∷◌, ◌++◌, refl, sym, subst, Val, SProp, ent, emp, id⊢, ftrue, fsep, WpFn, fact, fact_i, tables, ‵, raw, ◌⊛◌, ◌$◌, ◌∵◌, !, qed, by, move, keep, split, fsplit, fjoin, suffices, use0, use1, agg, sub, whole, stop, fld, of_opd, no_more, and_then, returns, enter, alloc_all, pass_all, free_all, look_at, get, get_in, sets, yes, nothing, Stays, stay_dropped, Goes-dropped, walk_of, proved_at, leaves, B, D, box_typed, word, box_in, box_out}
use Rattle.wt_ffi.proofs.AsAdviserBox.{adviser_box, Parts}
use Rattle.wt_ffi.specs.contracts.adviser.pointer.AdviserPointer as pointer
use Rattle.wt_ffi.specs.contracts.adviser.pointer.AdviserPointer.of as f
use Rattle.wt_ffi.proofs.adviser.pointer.AdviserPointer.of.Statement.{statement}
use Rattle.wt_ffi.proofs.adviser.pointer.AdviserPointer.of.Code as code

abbrev stayed : Stays f.ended.signature.params f.ended.kept
stayed = (stay_dropped Parts yes, tt)

pub of_spec : {M : Type 1} → statement M
of_spec 𝓤 𝓛 𝓜 𝓡 wired =
    let 𝓣 = tables 𝓤 𝓛.H 𝓜 𝓡 𝓡.env in
    let clauses = f.clauses 𝓛 𝓜.mem 𝓡.returns in
    proved_at 𝓛 f.ended stayed clauses 𝓜 𝓡 (Goes-dropped 𝓛 0 Parts yes (λ κs x w. refl), tt)
    f.Key.name code.function (code.unfolded 𝓤 𝓛.H 𝓜 𝓡 wired) (λ z are.
    let raw_box = z.0.3.0 in
    let boxed : D adviser_box = record { ptr = raw_box.at; alloc = raw_box.alloc; value = raw_box.value } in
    let made : pointer.the_row.Denot = record { at = raw_box.at; alloc = raw_box.alloc; advising = Some raw_box.value } in
    let Post : Val → SProp 𝓤 = (walk_of 𝓛 f.ended stayed clauses).post z in
    let Run : List Val → SProp 𝓤 = λ vs. WpFn 𝓤 𝓛.H 𝓣.C 𝓣.Λ code.function vs Post in
    qed 𝓛 ((‵ ftrue ⊛ ‵ (fsep ((B adviser_box).own_val boxed z.0.4.0) ftrue)) ∷ raw (emp 𝓤) ∷ []) ∵
    split ! $ move ! (1 ∷ []) $ fsplit ! $
    box_out adviser_box ! boxed z.0.4.0 (λ b o h is_at is_word fits.
    box_in adviser_box ! boxed b o boxed.value is_at refl $
    let given = word adviser_box h b o in
    let typed = box_typed adviser_box h b o fits in
    -- [what the pointer owns; nothing; no tokens; nothing asked]
    use1 𝓛 (‵ (pointer.the_row.own_val made (given ∷ []))) (id⊢ 𝓤 _) $
    suffices ! (Run (given ∷ [])) (subst (λ (vs : List Val). ent 𝓤 (Run (given ∷ [])) (Run vs))
    (sym (λ i. is_word i ++ [])) (id⊢ 𝓤 (Run (given ∷ [])))) $
    enter ! 𝓣.C 𝓣.Λ code.function (given ∷ []) Post $ alloc_all ! (λ l. pass_all ! refl (typed, tt) $
    sets ! (of_opd ! (get_in ! (fld ! refl (stop !)) (sub ! 0 refl (whole !)))) refl (tt, tt) $
    sets ! (of_opd ! (get_in ! (fld ! refl (stop !)) (sub ! 1 refl (whole !)))) refl fits $
    sets ! (of_opd ! (get ! refl)) refl (tt, tt) $
    sets ! (agg ! (and_then ! (get ! refl) (and_then ! (get ! refl) (no_more !)))) refl typed $
    use0 𝓛 (raw (fact 𝓤 (made.advising ≡ Some raw_box.value))) (fact_i 𝓤 (made.advising ≡ Some raw_box.value) (emp 𝓤) refl) $
    nothing ! $ nothing ! $ fjoin ! $
    returns ! (look_at ! 0 refl) $ free_all ! refl $
    -- [nothing of the parameter; the clause; the result; nothing; no tokens]
    keep ! (4 ∷ 0 ∷ 2 ∷ 1 ∷ []) $ by ! (leaves 𝓛 f.ended stayed clauses z given made (tt, tt) (tt, tt)))))
