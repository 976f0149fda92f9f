-- Making the box again: it owns what the two fields owned.
use Rattle.wt_ffi.proofs.Walks.{◌≡◌, List, [], ◌∷◌, ◌++◌, refl, sym, ap, subst, Args, a_type, dcons, dnil, Val, vptr, inst_fn, SProp, ent, id⊢, ftrue, flft, WpFn, ◌⊑◌, fact, tables, Item, ‵, raw, ◌⊛◌, some, later, at_ret, ◌$◌, ◌∵◌, !, qed, by, move, keep, drop, split, split3, join, fsplit, fjoin, pick, suffices, use1, await, rewrite, feq_i, sub, whole, stop, fld, of_opd, no_more, and_then, first, blocks, exec, returns, enter, alloc_all, pass_all, free_all, look_at, get, get_in, sets, lands_last, env, no, bounded, layout, owns, block_ptr, types_at, plain, nothing, only, calls_at_last, Lasts, lasts, triple_of, Stays, stay_dropped, walk_of, Goes-blank, after, fm, proved_at, leaves, Bx, B, D, Good, P, R, box_typed, word, box_in, box_out}
use Rattle.std_alloc.specs.contracts.boxed.Box.from_raw as closing
use Rattle.std_alloc.proofs.boxed.Box.from_raw.Met.{met}
use Rattle.wt_ffi.specs.contracts.raw_box.RawBox as parts
use Rattle.wt_ffi.specs.contracts.raw_box.RawBox.into_box as f
use Rattle.wt_ffi.proofs.raw_box.RawBox.into_box.Statement.{statement}
use Rattle.wt_ffi.proofs.raw_box.RawBox.into_box.Code as code

pub into_box_spec : {M : Type 1} → statement M
into_box_spec 𝓤 𝓛 𝓜 𝓡 wired T A lawsT lawsA g d dropT dropA allocator glueT glueA =
    let 𝓣 = tables 𝓤 𝓛.H 𝓜 𝓡 𝓡.env in
    let at : Bx = record { row = T; laws = lawsT; al = record { row = A; laws = lawsA; g = g; d = d; drops = dropA } } in
    let types : Args = bounded (a_type ∷ a_type ∷ []) (T, (A, tt)) (dcons d (dcons dropT (dcons dropA dnil))) in
    let body = inst_fn types code.function in
    let ended = f.ended T A g d dropT dropA in
    let clauses = f.clauses T A g d dropT dropA 𝓛 𝓜.mem 𝓡.returns in
    let From = plain (λ _. parts.the_row (R at) (P at) g) in
    let stayed : Stays ended.signature.params ended.kept = (stay_dropped From no, tt) in
    let Closes = triple_of 𝓛 (closing.signature T A g d dropA) (closing.spec T A g d dropA 𝓛 𝓜.mem 𝓡.returns) in
    proved_at 𝓛 ended stayed clauses 𝓜 𝓡 (Goes-blank 𝓛 2 From no (λ κs x w. tt), tt)
    (f.Key.name types) body (code.unfolded 𝓤 𝓛.H 𝓜 𝓡 wired (T, (A, tt)) d dropT dropA) (λ z are.
    let κs = z.0.0 in let qs = z.0.1 in
    let held = z.0.3.0 in let alloc = held.alloc in
    let boxed : D at = record { ptr = held.at; alloc = alloc; value = held.value } in
    let Post : Val → SProp 𝓤 = (walk_of 𝓛 ended stayed clauses).post z in
    let Run : List Val → SProp 𝓤 = λ vs. WpFn 𝓤 𝓛.H 𝓣.C 𝓣.Λ body vs Post in
    let tokens : Item 𝓤 = ‵ (flft κs.0 qs.0) ⊛ ‵ (flft κs.1.0 qs.1.0) ⊛ ‵ ftrue in
    qed 𝓛 ((tokens ⊛ ‵ (owns (types_at ended.signature.params κs) z.0.3 z.0.4)) ∷ raw ((clauses κs z.0.3).requires z.1) ∷ []) ∵
    split ! $ move ! (1 ∷ []) $ fsplit ! $
    use1 𝓛 (‵ ((B at).own_val boxed z.0.4.0)) (id⊢ 𝓤 _) $
    box_out at ! boxed z.0.4.0 (λ b o h is_at is_word fits.
    -- [the value in its block; the right to free it; the handle; nothing; the tokens; what was asked]
    let given = word at h b o in
    let typed = box_typed at h b o fits in
    let y : Closes.Ghost = ((κs, qs, tt, (alloc, (block_ptr b o, tt)), (h ∷ [], (vptr b o ∷ [], tt))), held.value) in
    fjoin ! $ move ! (4 ∷ []) $
    use1 𝓛 (raw (fact 𝓤 (κs.0 ⊑ T.lives)) ⊛ raw (fact 𝓤 (κs.1.0 ⊑ A.lives)) ⊛ ‵ ftrue) (id⊢ 𝓤 _) $
    split3 ! $ move ! (2 ∷ []) $ drop ! $
    move ! (1 ∷ 2 ∷ []) $ join ! $ move ! (1 ∷ 0 ∷ []) $ join ! $
    move ! (2 ∷ []) $ feq_i ! (List Val) (vptr b o ∷ []) (vptr b o ∷ []) refl $ fjoin ! $
    move ! (2 ∷ 0 ∷ []) $ fjoin ! $ move ! (2 ∷ 0 ∷ []) $ join ! $ join ! $
    use1 𝓛 (raw (Closes.pre y)) (id⊢ 𝓤 _) $
    suffices ! (Run (given ∷ [])) (subst (λ (vs : List Val). ent 𝓤 (Run (given ∷ [])) (Run vs))
    (sym (λ i. is_word i ++ [])) (id⊢ 𝓤 (Run (given ∷ [])))) $
    enter ! 𝓣.C 𝓣.Λ body (given ∷ []) Post $ alloc_all ! (λ l. pass_all ! refl (typed, tt) $
    let locals = env body.locals l in
    sets ! (of_opd ! (get_in ! (fld ! refl (stop !)) (sub ! 0 refl (whole !)))) refl (tt, tt) $
    sets ! (of_opd ! (get_in ! (fld ! refl (stop !)) (sub ! 1 refl (whole !)))) refl fits $
    first ! $ blocks ! $ sets ! (of_opd ! (get ! refl)) refl fits $
    calls_at_last ! (fm 𝓛 𝓜 𝓡) Closes
    (met 𝓤 𝓛 𝓜 𝓡 (code.calls-std_alloc::boxed::Box::from_raw 𝓡.env wired) T A lawsT lawsA g d dropA
    allocator glueA) y
    (and_then ! (get ! refl) (and_then ! (get ! refl) (no_more !))) (λ made.
    use1 𝓛 (later (some (λ (r : (B at).Denot). (tokens ⊛ ‵ ((B at).own_val r (made ∷ []))) ⊛
    some (λ (ws : Lasts (closing.ended T A g d dropA) κs y.0.3). ‵ (lasts (closing.ended T A g d dropA) κs y.0.3 ws) ⊛
    (raw (fact 𝓤 (r.value ≡ held.value)) ⊛ raw (fact 𝓤 (r.alloc ≡ alloc))))))) (id⊢ 𝓤 (Closes.post y made)) $
    await ! tt $ pick ! (λ r. split ! $ move ! (1 ∷ []) $ pick ! (λ _. split3 ! $ drop ! $ move ! (2 ∷ []) $ split ! $ move ! (1 ∷ []) $
    -- [the box; the tokens; its value; its handle]
    box_out at ! r (made ∷ []) (λ b' o' h' is_at' is_made fits'.
    box_in at ! r b' o' r.value is_at' refl $ rewrite ! 0 (λ (vs : List Val). ‵ ((B at).own_val r vs)) (sym is_made) refl $
    let whole_box : Good (layout (B at)) made = subst (Good (layout (B at))) (sym (ap only is_made)) (box_typed at h' b' o' fits') in
    lands_last ! refl whole_box $ exec ! 𝓣.C 𝓣.Λ locals (after 3 body.body) (at_ret locals Post) $
    sets ! (of_opd ! (get ! refl)) refl whole_box $
    nothing ! $ nothing ! $ fjoin ! $ returns ! (look_at ! 0 refl) $ free_all ! refl $
    -- [nothing of the parameter; the box; the tokens; its value]
    keep ! (2 ∷ 0 ∷ 1 ∷ 3 ∷ []) $ by ! (leaves 𝓛 ended stayed clauses z made r ((tt, (tt, tt)), tt) (tt, tt)))))))))
