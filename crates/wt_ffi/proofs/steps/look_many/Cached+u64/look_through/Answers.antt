use Rattle.std.proofs.Common.{arith, ◌≡◌, ◌<◌, ◌≤◌, ℕ, ◌+◌, length, drop, set, get_or, true, false, List, [], refl, sym, ap, ◌∙◌, subst}
use Rattle.std.proofs.Math.ListN.{drop_of_length-le}
use Rattle.std.proofs.lemmas.List.{drop-set-lt}
use Rattle.wt_ffi.specs.declared.steps.look_many.Looked.{Looked}
use Rattle.wt_ffi.specs.Looks.{Through, looked_through, IsAnswered, AreAnswered}
use Rattle.wt_ffi.specs.Open.{Open}
use Rattle.wt_ffi.proofs.LooksMade.{Answers, Leads, answers-all, answers-last, answers-next, drop-next, is_last-number, last-none, last-notice, last-number, leads-all, leads-last, leads-next}
use Rattle.wt_ffi.proofs.steps.look_many.Cached+u64.look_through.Goals as goal
use Rattle.wt_ffi.proofs.steps.look_many.Cached+u64.look_through.Goals.{then-number-gt0-via-then-number-gt0, then-number-gt0-via-else-number-gt0+then-look-gt0}

-- a look-up of nothing, which stands for what is behind the end of a list
abbrev blank : Looked
blank = record { key = 0; now = 0; answer = record { kind = 0; weight = 0; token = 0; number = 0; notices = 0 } }

pub loop-look-preserved : goal.loop-look-preserved
loop-look-preserved c =
    let xs : List Looked = c.loop-look.looks in
    let i : ℕ = c.loop-look.look-index in
    let a : Looked = record { key = (get_or xs i blank).key; now = (get_or xs i blank).now; answer = c.look-number.new.answer } in
    let step = c.look-number.ensures.made in
    let lt0 : i < length c.args.looks.now = c.loop-look-test.true in
    let lt : i < length xs = omega (arith, lt0, c.loop-look.auto.looks) in
    let inv = c.loop-look.invariant in
    let one : IsAnswered (get_or xs i blank) a c.loop-look.self =
    record { key = refl; now = refl; answer = step.answer; refusal = step.refusal; memory = step.memory } in
    let goes = is_last-number a c.loop-look.self c.look-number.result false step.number
    (last-none _ _ c.if-number-gt0.false c.if-look-gt0.false) in
    let more : i < i + 1 = omega arith in
    record {
      same = drop-set-lt (i + 1) xs i a more ∙ drop-next c.args.looks.now xs i blank lt0 lt inv.same;
      count = ap (λ (n : ℕ). n + 1) inv.count;
      answers = subst (λ (o : Open ℕ). Answers c.args.looks.now (set xs i a) (i + 1) c.args.self.now o) (sym step.state)
          (answers-next c.args.looks.now xs i blank a c.args.self.now c.loop-look.self lt0 lt inv.same inv.answers one goes);
      leads = subst (λ (o : Open ℕ). Leads (set xs i a) (i + 1) c.args.self.now o) (sym step.state)
          (leads-next xs i a c.args.self.now c.loop-look.self lt inv.leads goes);
    }

pub returns-then-number-gt0-clause-state : goal.returns-then-number-gt0-clause-state
returns-then-number-gt0-clause-state c =
    let xs : List Looked = c.loop-look.looks in
    let i : ℕ = c.loop-look.look-index in
    let a : Looked = record { key = (get_or xs i blank).key; now = (get_or xs i blank).now; answer = c.look-number.new.answer } in
    let step = c.look-number.ensures.made in
    let lt0 : i < length c.args.looks.now = c.loop-look-test.true in
    let lt : i < length xs = omega (arith, lt0, c.loop-look.auto.looks) in
    let inv = c.loop-look.invariant in
    elim c.then-number-gt0.branch [
      | then-number-gt0-via-then-number-gt0 w ↦ step.state
          ∙ sym (ap (λ (t : Through). t.cache)
          (ap (λ (zs : List Looked). looked_through zs c.args.self.now) w.looks-is
          ∙ leads-last xs i a c.args.self.now c.loop-look.self lt inv.leads
          (is_last-number a c.loop-look.self c.look-number.result true step.number
          (last-number _ _ w.if-number-gt0.true))))
      | then-number-gt0-via-else-number-gt0+then-look-gt0 w ↦ step.state
          ∙ sym (ap (λ (t : Through). t.cache)
          (ap (λ (zs : List Looked). looked_through zs c.args.self.now) w.looks-is
          ∙ leads-last xs i a c.args.self.now c.loop-look.self lt inv.leads
          (is_last-number a c.loop-look.self c.look-number.result true step.number
          (last-notice _ _ w.if-look-gt0.true))))
    ]

pub returns-then-number-gt0-clause-made : goal.returns-then-number-gt0-clause-made
returns-then-number-gt0-clause-made c =
    let xs : List Looked = c.loop-look.looks in
    let i : ℕ = c.loop-look.look-index in
    let a : Looked = record { key = (get_or xs i blank).key; now = (get_or xs i blank).now; answer = c.look-number.new.answer } in
    let step = c.look-number.ensures.made in
    let lt0 : i < length c.args.looks.now = c.loop-look-test.true in
    let lt : i < length xs = omega (arith, lt0, c.loop-look.auto.looks) in
    let inv = c.loop-look.invariant in
    elim c.then-number-gt0.branch [
      | then-number-gt0-via-then-number-gt0 w ↦ ap (λ (n : ℕ). n + 1) inv.count
          ∙ sym (ap (λ (t : Through). t.made)
          (ap (λ (zs : List Looked). looked_through zs c.args.self.now) w.looks-is
          ∙ leads-last xs i a c.args.self.now c.loop-look.self lt inv.leads
          (is_last-number a c.loop-look.self c.look-number.result true step.number
          (last-number _ _ w.if-number-gt0.true))))
      | then-number-gt0-via-else-number-gt0+then-look-gt0 w ↦ ap (λ (n : ℕ). n + 1) inv.count
          ∙ sym (ap (λ (t : Through). t.made)
          (ap (λ (zs : List Looked). looked_through zs c.args.self.now) w.looks-is
          ∙ leads-last xs i a c.args.self.now c.loop-look.self lt inv.leads
          (is_last-number a c.loop-look.self c.look-number.result true step.number
          (last-notice _ _ w.if-look-gt0.true))))
    ]

pub returns-then-number-gt0-clause-number : goal.returns-then-number-gt0-clause-number
returns-then-number-gt0-clause-number c =
    let xs : List Looked = c.loop-look.looks in
    let i : ℕ = c.loop-look.look-index in
    let a : Looked = record { key = (get_or xs i blank).key; now = (get_or xs i blank).now; answer = c.look-number.new.answer } in
    let step = c.look-number.ensures.made in
    let lt0 : i < length c.args.looks.now = c.loop-look-test.true in
    let lt : i < length xs = omega (arith, lt0, c.loop-look.auto.looks) in
    let inv = c.loop-look.invariant in
    elim c.then-number-gt0.branch [
      | then-number-gt0-via-then-number-gt0 w ↦ step.number
          ∙ sym (ap (λ (t : Through). t.number)
          (ap (λ (zs : List Looked). looked_through zs c.args.self.now) w.looks-is
          ∙ leads-last xs i a c.args.self.now c.loop-look.self lt inv.leads
          (is_last-number a c.loop-look.self c.look-number.result true step.number
          (last-number _ _ w.if-number-gt0.true))))
      | then-number-gt0-via-else-number-gt0+then-look-gt0 w ↦ step.number
          ∙ sym (ap (λ (t : Through). t.number)
          (ap (λ (zs : List Looked). looked_through zs c.args.self.now) w.looks-is
          ∙ leads-last xs i a c.args.self.now c.loop-look.self lt inv.leads
          (is_last-number a c.loop-look.self c.look-number.result true step.number
          (last-notice _ _ w.if-look-gt0.true))))
    ]

pub returns-then-number-gt0-clause-answers : goal.returns-then-number-gt0-clause-answers
returns-then-number-gt0-clause-answers c =
    let xs : List Looked = c.loop-look.looks in
    let i : ℕ = c.loop-look.look-index in
    let a : Looked = record { key = (get_or xs i blank).key; now = (get_or xs i blank).now; answer = c.look-number.new.answer } in
    let step = c.look-number.ensures.made in
    let lt0 : i < length c.args.looks.now = c.loop-look-test.true in
    let lt : i < length xs = omega (arith, lt0, c.loop-look.auto.looks) in
    let inv = c.loop-look.invariant in
    let one : IsAnswered (get_or xs i blank) a c.loop-look.self =
    record { key = refl; now = refl; answer = step.answer; refusal = step.refusal; memory = step.memory } in
    elim c.then-number-gt0.branch [
      | then-number-gt0-via-then-number-gt0 w ↦
          subst (λ (zs : List Looked). AreAnswered c.args.looks.now zs c.args.self.now) (sym w.looks-is)
          (answers-last c.args.looks.now xs i blank a c.args.self.now c.loop-look.self lt0 lt inv.same
          inv.answers one (is_last-number a c.loop-look.self c.look-number.result true step.number
          (last-number _ _ w.if-number-gt0.true)))
      | then-number-gt0-via-else-number-gt0+then-look-gt0 w ↦
          subst (λ (zs : List Looked). AreAnswered c.args.looks.now zs c.args.self.now) (sym w.looks-is)
          (answers-last c.args.looks.now xs i blank a c.args.self.now c.loop-look.self lt0 lt inv.same
          inv.answers one (is_last-number a c.loop-look.self c.look-number.result true step.number
          (last-notice _ _ w.if-look-gt0.true)))
    ]

pub returns-clause-state : goal.returns-clause-state
returns-clause-state c =
    let xs : List Looked = c.loop-look.looks in
    let i : ℕ = c.loop-look.look-index in
    let past : length xs ≤ i = omega (arith, c.loop-look-test.false, c.loop-look.auto.looks) in
    let none : drop i xs ≡ [] = drop_of_length-le xs past in
    let inv = c.loop-look.invariant in
    let all = leads-all c.args.looks.now xs i c.args.self.now c.loop-look.self inv.same none inv.leads in
    sym (ap (λ (t : Through). t.cache) all)

pub returns-clause-made : goal.returns-clause-made
returns-clause-made c =
    let xs : List Looked = c.loop-look.looks in
    let i : ℕ = c.loop-look.look-index in
    let past : length xs ≤ i = omega (arith, c.loop-look-test.false, c.loop-look.auto.looks) in
    let none : drop i xs ≡ [] = drop_of_length-le xs past in
    let inv = c.loop-look.invariant in
    let all = leads-all c.args.looks.now xs i c.args.self.now c.loop-look.self inv.same none inv.leads in
    let zero : i ≡ i + 0 = omega arith in
    inv.count ∙ zero ∙ sym (ap (λ (t : Through). t.made) all)

pub returns-clause-number : goal.returns-clause-number
returns-clause-number c =
    let xs : List Looked = c.loop-look.looks in
    let i : ℕ = c.loop-look.look-index in
    let past : length xs ≤ i = omega (arith, c.loop-look-test.false, c.loop-look.auto.looks) in
    let none : drop i xs ≡ [] = drop_of_length-le xs past in
    let inv = c.loop-look.invariant in
    let all = leads-all c.args.looks.now xs i c.args.self.now c.loop-look.self inv.same none inv.leads in
    sym (ap (λ (t : Through). t.number) all)

pub returns-clause-answers : goal.returns-clause-answers
returns-clause-answers c =
    let xs : List Looked = c.loop-look.looks in
    let i : ℕ = c.loop-look.look-index in
    let past : length xs ≤ i = omega (arith, c.loop-look-test.false, c.loop-look.auto.looks) in
    let none : drop i xs ≡ [] = drop_of_length-le xs past in
    let inv = c.loop-look.invariant in
    answers-all c.args.looks.now xs i c.args.self.now c.loop-look.self inv.same none inv.answers
