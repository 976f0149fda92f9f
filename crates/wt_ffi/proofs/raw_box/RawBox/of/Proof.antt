-- Taking a box apart: the two fields hold its pointer and its handle, and own what the box owned.
use Rattle.wt_ffi.proofs.Walks.{◌≡◌, List, [], ◌∷◌, ◌++◌, refl, sym, ap, ◌∙◌, subst, Args, a_type, dcons, dnil, bare, Val, vstruct, of_list, inst_fn, SProp, ent, emp, never, id⊢, fst∗, ftrue, fsep, flft, WpFn, fact, fact_i, tables, sem, Item, ‵, raw, ◌⊛◌, some, later, ◌$◌, ◌∵◌, !, qed, by, move, keep, drop, split, split3, join, fsplit, fjoin, fpick, pick, suffices, use0, use1, await, rewrite, feq_l, agg, sub, whole, stop, fld, of_opd, no_more, and_then, returns, enter, alloc_all, pass_all, free_all, look_at, get, get_in, sets, lands_as, RawPtr, no, bounded, layout, RattleType, owns, Ptr, block_ptr, null_ptr, ptr_val, in_a_block, types_at, plain, nothing, only, heard, Tuple, calls_at, triple_of, Stays, stay_dropped, walk_of, Goes-blank, handle_tells, fm, proved_at, leaves, box_owns, Bx, B, P, R, box_typed, word, box_in, box_out}
use Rattle.std_alloc.specs.contracts.boxed.Box.into_raw_with_allocator as opening
use Rattle.std_alloc.proofs.boxed.Box.into_raw_with_allocator.Met.{met}
use Rattle.wt_ffi.specs.contracts.raw_box.RawBox as parts
use Rattle.wt_ffi.specs.contracts.raw_box.RawBox.of as f
use Rattle.wt_ffi.proofs.raw_box.RawBox.of.Statement.{statement}
use Rattle.wt_ffi.proofs.raw_box.RawBox.of.Code as code

pub of_spec : {M : Type 1} → statement M
of_spec 𝓤 𝓛 𝓜 𝓡 wired T A lawsT lawsA g d dropT dropA allocator glueT glueA =
    let 𝓣 = tables 𝓤 𝓛.H 𝓜 𝓡 𝓡.env in
    let at : Bx = record { row = T; laws = lawsT; al = record { row = A; laws = lawsA; g = g; d = d; drops = dropA } } in
    let types : Args = bounded (a_type ∷ a_type ∷ []) (T, (A, tt)) (dcons d (dcons dropT (dcons dropA dnil))) in
    let body = inst_fn types code.function in
    let ended = f.ended T A g d dropT dropA in
    let clauses = f.clauses T A g d dropT dropA 𝓛 𝓜.mem 𝓡.returns in
    let stayed : Stays ended.signature.params ended.kept = (stay_dropped (plain (λ _. B at)) no, tt) in
    let Made : RattleType = parts.the_row (R at) (P at) g in
    let Opens = triple_of 𝓛 (opening.signature T A g d dropA dropT) (opening.spec T A g d dropA dropT 𝓛 𝓜.mem 𝓡.returns) in
    proved_at 𝓛 ended stayed clauses 𝓜 𝓡 (Goes-blank 𝓛 2 (plain (λ _. B at)) no (λ κs x w. tt), tt)
    (f.Key.name types) body (code.unfolded 𝓤 𝓛.H 𝓜 𝓡 wired (T, (A, tt)) d dropT dropA) (λ z are.
    let κs = z.0.0 in let qs = z.0.1 in
    let boxed = z.0.3.0 in let alloc = boxed.alloc in
    let Post : Val → SProp 𝓤 = (walk_of 𝓛 ended stayed clauses).post z in
    let Run : List Val → SProp 𝓤 = λ vs. WpFn 𝓤 𝓛.H 𝓣.C 𝓣.Λ body vs Post in
    let tokens : Item 𝓤 = ‵ (flft κs.0 qs.0) ⊛ ‵ (flft κs.1.0 qs.1.0) ⊛ ‵ ftrue in
    qed 𝓛 ((tokens ⊛ ‵ (owns (types_at ended.signature.params κs) z.0.3 z.0.4)) ∷ raw ((clauses κs z.0.3).requires z.1) ∷ []) ∵
    split ! $ move ! (1 ∷ []) $ fsplit ! $
    box_out at ! boxed z.0.4.0 (λ b o h is_at is_word fits.
    box_in at ! boxed b o boxed.value is_at refl $
    -- [the box; nothing; the tokens; what was asked]
    let given = word at h b o in
    let y : Opens.Ghost = ((κs, qs, tt, (boxed, tt), (given ∷ [], tt)), tt) in
    fjoin ! $ move ! (1 ∷ 0 ∷ []) $ join ! $ join ! $ use1 𝓛 (raw (Opens.pre y)) (id⊢ 𝓤 _) $
    suffices ! (Run (given ∷ [])) (subst (λ (vs : List Val). ent 𝓤 (Run (given ∷ [])) (Run vs))
    (sym (λ i. is_word i ++ [])) (id⊢ 𝓤 (Run (given ∷ [])))) $
    enter ! 𝓣.C 𝓣.Λ body (given ∷ []) Post $ alloc_all ! (λ l. pass_all ! refl (box_typed at h b o fits, tt) $
    sets ! (of_opd ! (get ! refl)) refl (box_typed at h b o fits) $
    calls_at ! (fm 𝓛 𝓜 𝓡) Opens (met 𝓤 𝓛 𝓜 𝓡
    (code.calls-std_alloc::boxed::Box::into_raw_with_allocator 𝓡.env wired) T A lawsT lawsA g d dropA dropT
    allocator glueA glueT) y
    (and_then ! (get ! refl) (no_more !)) (λ pair.
    use1 𝓛 (later (some (λ (r : Ptr × A.Denot). (tokens ⊛ ‵ ((Tuple (RawPtr ∷ P at ∷ [])).own_val r (pair ∷ []))) ⊛
    some (λ (_ : (Unit {0} × (Unit {0} × Unit {0})) × Unit {0}). ‵ (fsep (fsep ftrue (fsep ftrue ftrue)) ftrue) ⊛
    (raw (fact 𝓤 (r.1 ≡ alloc)) ⊛ ‵ (box_owns (g.dealloc_token alloc) (R at) r.0 boxed.value)))))) (id⊢ 𝓤 _) $
    await ! tt $ pick ! (λ r. split ! $ move ! (1 ∷ []) $ pick ! (λ _. split3 ! $ drop ! $ heard ! (r.1 ≡ alloc) (λ same_alloc.
    -- [what the box owned; the tokens with the pair]
    in_a_block ! r.0 (λ p. box_owns (g.dealloc_token alloc) (R at) p boxed.value)
    (fst∗ 𝓤 (never 𝓤) (sem 𝓛 (g.dealloc_token alloc (bare (layout T)) null_ptr))) (λ b' o' is_at'.
    move ! (1 ∷ []) $ split ! $ move ! (1 ∷ []) $
    fpick ! (λ words. fsplit ! $ feq_l ! (λ is_pair. fsplit ! $ feq_l ! (λ is_ptr. fsplit ! $
    rewrite ! 0 (λ (a : A.Denot). ‵ (A.own_val a words.1.0)) same_alloc refl $ handle_tells at.al ! alloc words.1.0 (λ h' is_handle fits'.
    let typed = box_typed at h' b' o' fits' in
    let made : Made.Denot = record { at = block_ptr b' o'; alloc = alloc; value = boxed.value } in
    lands_as ! (ap only (is_pair ∙ (λ i. vstruct
    (of_list ((is_ptr ∙ ap (λ (p : Ptr). ptr_val p ∷ []) is_at') i ++ (is_handle i ++ []))) ∷ []))) refl
    typed $
    sets ! (of_opd ! (get_in ! (fld ! refl (stop !)) (sub ! 0 refl (whole !)))) refl (tt, tt) $
    sets ! (of_opd ! (get_in ! (fld ! refl (stop !)) (sub ! 1 refl (whole !)))) refl fits' $
    sets ! (of_opd ! (get ! refl)) refl fits' $
    sets ! (agg ! (and_then ! (get ! refl) (and_then ! (get ! refl) (no_more !)))) refl typed $
    -- [the handle; nothing; the tokens; what the box owned]
    move ! (3 ∷ []) $ fsplit ! $
    box_in at ! (record { ptr = block_ptr b' o'; alloc = alloc; value = boxed.value }) b' o' boxed.value refl refl $
    use1 𝓛 (‵ (Made.own_val made (word at h' b' o' ∷ []))) (id⊢ 𝓤 _) $
    use0 𝓛 (raw (fact 𝓤 (boxed.value ≡ boxed.value))) (fact_i 𝓤 (boxed.value ≡ boxed.value) (emp 𝓤) refl) $
    nothing ! $ nothing ! $ fjoin ! $
    returns ! (look_at ! 0 refl) $ free_all ! refl $
    -- [nothing of the parameter; the clause; the result; nothing; the tokens]
    keep ! (4 ∷ 0 ∷ 2 ∷ 1 ∷ []) $ by ! (leaves 𝓛 ended stayed clauses z (word at h' b' o') made ((tt, (tt, tt)), tt) (tt, tt))))))))))))))
