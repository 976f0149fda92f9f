-- `new` puts the value in.
use mathlib.Core.Path.{◌≡◌, refl, sym, subst}
use mathlib.Core.List.{List, [], ◌∷◌, ◌++◌}
use lib.Dec as dec
use seplogic.Ra.Ura.{Ura}
use mir.Syntax.{Fn, Sym, Ty, a_type, ty_struct, tcons, tnil}
use mir.Val.{Val, vstruct, vcons, vnil, has_ty, WT}
use mir.MapTy.{inst_fn}
use base.Fml.{fsep, ftrue}
use base.Logic.{SProp, ent, sep, via, fst∗, snd∗}
use prog.Memory.{Memory}
use prog.Routine.{Routine}
use prog.Wp.{Calls, Loops, WpFn, Tables}
use types.Logic.{Logic, sem}
use contract.Monad.{Fun, fact_use}
use contract.Running.{tables, tables_of}
use sound.WpLaws.{WpFn-mono}
use types.Kit.{‵, raw, ◌⊛◌, ◌$◌, ◌∵◌, !, qed, by, move, keep, split, join, fsplit, fjoin, fpack, feq_i, suffices, done, use1}
use types.Run.{of_opd, returns, enter, and_then, no_more}
use types.ByLocal.{alloc_all, pass_all, free_all, look_at, get, sets}
use types.Part.{agg}
use denote.Exit.{no}
use denote.RattleType.{RattleType, Valss, owns}
use denote.Laws.{Are, Ises, Lawful, Typed, owns_show, showss, Is}
use denote.Signature.{types_at, plain}
use denote.Steps.{nothing}
use denote.Struct.Struct.{within, as_fields}
use denote.Struct.Owning as owning
use denote.Param.{layout, layouts, param}
use denote.Param.Laws.{param_laws}
use denote.Triple.Clauses.{Clauses, closing}
use denote.Triple.Entry.{on_entry, alive}
use denote.Triple.Spec.{Meets, triple_of}
use denote.Triple.Table.{entered}
use denote.Triple.Walked.{says, Stays, stay_dropped, walk_of, ends_at, Goes-dropped, walk_Meets}
use Rattle.wt_stripes.specs.contracts.exclusive.Exclusive.{the_row}
use Rattle.wt_stripes.specs.contracts.exclusive.Exclusive.TheInside as inside
use Rattle.wt_stripes.specs.declared.exclusive.Exclusive.TheInside.{Inside}
use Rattle.wt_stripes.specs.contracts.exclusive.Exclusive.new.{ended, clauses}
use Rattle.wt_stripes.specs.contracts.exclusive.Exclusive.new.Key.{name as #self}
use Rattle.wt_stripes.proofs.exclusive.Exclusive.new.Statement as stated
use Rattle.wt_stripes.proofs.exclusive.Exclusive.new.Code as code
use Rattle.wt_stripes.proofs.exclusive.Exclusive.new.Code.{code}

-- a machine value of a type;  the one of a type that has one
abbrev Good : Ty → Val → Type 0
Good τ v = dec.T (has_ty τ v) × WT v

one : (τ : Ty) (vs : List Val) → Typed (τ ∷ []) vs → (v : Val) × (vs ≡ v ∷ []) × Good τ v
one τ [] t = absurd t
one τ (v ∷ []) t = (v, refl, t.0)
one τ (v ∷ w ∷ vs) t = absurd t.1

-- the struct around it
abbrev round : Val → Val
round v = vstruct (vcons v vnil)

good_round : (ν : Sym) (τ : Ty) (v : Val) → Good τ v → Good (ty_struct ν (tcons τ tnil)) (round v)
good_round ν τ v g = as_fields (τ ∷ []) (v ∷ []) (g, tt)

module _ (Y : RattleType) where
  abbrev function : Fn
  function = inst_fn (layouts (a_type ∷ []) (Y, tt)) code.function

  abbrev stayed : Stays (ended Y).signature.params (ended Y).kept
  stayed = (stay_dropped (plain (λ _. param 0 Y)) no, tt)

  abbrev hidden : owning.Owning
  hidden = inside.the_type (param 0 Y)

module _ (Y : RattleType) {M : Type 1} {𝓤 : Ura M} (𝓛 : Logic 𝓤) where
  open 𝓛 use {H}

  wraps : (x : Y.Denot) (v : Val) → ent 𝓤 (sem 𝓛 ((param 0 Y).own_val x (v ∷ []))) (sem 𝓛 ((the_row (param 0 Y)).own_val x (round v ∷ [])))
  wraps x v = qed 𝓛 (‵ ((param 0 Y).own_val x (v ∷ [])) ∷ []) ∵ nothing ! $ move ! (1 ∷ 0 ∷ []) $ fjoin ! $ feq_i ! (List Val) (round v ∷ []) (round v ∷ []) refl $ fjoin ! $
      fpack ! (Valss (param 0 Y ∷ [])) (within (owning.shape (hidden Y)) (x, tt) (round v ∷ [])) (v ∷ [], tt) $ nothing ! $ move ! (1 ∷ 0 ∷ []) $ fjoin ! $ nothing ! $ move ! (1 ∷ 0 ∷ []) $ fjoin ! $
      fpack ! ((a : Inside Y.Denot) × ((a.value ≡ x) × Unit {0})) (λ n. fsep ((owning.row (hidden Y)).own_val n.0 (round v ∷ [])) ftrue) (record { value = x }, (refl, tt)) $ done !

module _ (Y : RattleType) {M : Type 1} {𝓤 : Ura M} (𝓛 : Logic 𝓤) (L : Lawful 𝓛 (param 0 Y)) (mem : Memory → SProp 𝓤) (run : Routine → Fun 𝓤) where
  open 𝓛 use {H}

  abbrev held : Clauses 𝓤 (ended Y)
  held = clauses Y 𝓛 mem run

  module _ (C : Calls 𝓤 H) (Λ : Loops 𝓤 H) (z : (walk_of 𝓛 (ended Y) (stayed Y) held).Ghost) where
    abbrev At : List Val → (walk_of 𝓛 (ended Y) (stayed Y) held).Ghost
    At us = ((z.0.0, z.0.1, z.0.2, z.0.3, (us, tt)), z.1)

    abbrev Post : List Val → Val → SProp 𝓤
    Post us = (walk_of 𝓛 (ended Y) (stayed Y) held).post (At us)

    abbrev Goes : List Val → Type 1
    Goes us = ent 𝓤 ((walk_of 𝓛 (ended Y) (stayed Y) held).pre (At us)) (WpFn 𝓤 H C Λ (function Y) (us ++ []) (Post us))

    exits : (v : Val) → ent 𝓤 (sep 𝓤 (alive 𝓛 (ended Y).signature z.0.0 z.0.1) (sem 𝓛 ((the_row (param 0 Y)).own_val z.0.3.0 (round v ∷ [])))) (Post (v ∷ []) (round v))
    exits v =
        qed 𝓛 (raw (alive 𝓛 (ended Y).signature z.0.0 z.0.1) ∷ ‵ ((the_row (param 0 Y)).own_val z.0.3.0 (round v ∷ [])) ∷ []) ∵ suffices ! _ (ends_at 𝓛 (ended Y) (stayed Y) held (At (v ∷ [])) (round v) z.0.3.0 (tt, tt) (tt, tt)) $
        says ! refl $ nothing ! $ nothing ! $ fjoin ! $ move ! (0 ∷ 2 ∷ []) $ join ! $ move ! (1 ∷ 0 ∷ []) $ join ! $ done !

    walks : (v : Val) → Good (layout Y) v → Goes (v ∷ [])
    walks v g =
        qed 𝓛 ((raw (alive 𝓛 (ended Y).signature z.0.0 z.0.1) ⊛ ‵ (owns (param 0 Y ∷ []) z.0.3 (v ∷ [], tt))) ∷ raw ((held z.0.0 z.0.3).requires z.1) ∷ []) ∵ split ! $ move ! (1 ∷ []) $ fsplit ! $ keep ! (0 ∷ 2 ∷ []) $
        use1 𝓛 (‵ ((the_row (param 0 Y)).own_val z.0.3.0 (round v ∷ []))) (wraps Y 𝓛 z.0.3.0 v) $
        enter ! C Λ (function Y) (v ∷ []) _ $ alloc_all ! (λ l. pass_all ! refl (g, tt) $
        sets ! (of_opd ! (get ! refl)) refl g $ sets ! (agg ! (and_then ! (get ! refl) (no_more !))) refl (good_round (hidden Y).name (layout Y) v g) $
        returns ! (look_at ! 0 refl) $ free_all ! refl $ keep ! (1 ∷ 0 ∷ []) $ by ! (exits v))

    entry : (us : List Val) → Is (param 0 Y) z.0.3.0 us → Goes us
    entry us is = let got = one (layout Y) us (L.typed z.0.3.0 us is) in subst Goes (sym got.1) (walks got.0 got.2)

  meets : (𝓣 : Tables 𝓤 H) → Meets 𝓛 (ended Y).signature (WpFn 𝓤 H 𝓣.C 𝓣.Λ (function Y)) (closing 𝓛 (ended Y) held)
  meets 𝓣 =
      walk_Meets 𝓛 (ended Y) (stayed Y) (Goes-dropped 𝓛 1 (plain (λ _. param 0 Y)) no (λ κs x f. refl), tt) held
      (WpFn 𝓤 H 𝓣.C 𝓣.Λ (function Y)) (WpFn-mono 𝓤 H 𝓛.laws 𝓣 (function Y))
      (λ z. let a = z.0.3 in let vss = z.0.4 in let Rs : List RattleType = types_at (ended Y).signature.params z.0.0 in
      fact_use 𝓤 (Are Rs (Ises Rs) a vss) (via 𝓤 (sem 𝓛 (owns Rs a vss)) (via 𝓤 (on_entry 𝓛 (ended Y).signature z.0.0 z.0.1 a vss) (fst∗ 𝓤 (on_entry 𝓛 (ended Y).signature z.0.0 z.0.1 a vss) ((held z.0.0 a).requires z.1)) (snd∗ 𝓤 (alive 𝓛 (ended Y).signature z.0.0 z.0.1) (sem 𝓛 (owns Rs a vss)))) (owns_show 𝓛 Rs (Ises Rs) (showss 𝓛 Rs) a vss)) (λ are.
      entry 𝓣.C 𝓣.Λ z vss.0 are.0))

pub new_spec : {M : Type 1} → stated.statement M
unfolding tables_of
new_spec 𝓤 𝓛 𝓜 𝓡 wired Y laws =
    let 𝓣 : Tables 𝓤 𝓛.H = tables_of 𝓤 𝓛.H 𝓜 (tables 𝓤 𝓛.H 𝓜 𝓡 𝓡.env) in
    entered 𝓤 𝓛.H (triple_of 𝓛 (ended Y).signature (closing 𝓛 (ended Y) (clauses Y 𝓛 𝓜.mem 𝓡.returns))) 𝓣.C 𝓣.Λ (#self (layouts (a_type ∷ []) (Y, tt))) (function Y) (code.unfolded 𝓤 𝓛.H 𝓜 𝓡 wired (Y, tt))
    (meets Y 𝓛 ((param_laws 0 Y laws).lawful 𝓛) 𝓜.mem 𝓡.returns 𝓣)
