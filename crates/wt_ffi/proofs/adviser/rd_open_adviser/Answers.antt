use Rattle.std.proofs.Common.{rules, ◌≡◌, ℕ, Bool, true, false, true≢false, Option, Some, None, IsNone, is_some, inl, inr, refl, sym, ap, ◌∙◌, subst}
use Rattle.std.specs.Option.{option_map}
use Rattle.wt_adviser.specs.Advice.{Advice}
use Rattle.wt_ffi.specs.Advice.{Opens, can_advise}
use Rattle.wt_ffi.specs.declared.adviser.Advising.{Advising}
use Rattle.wt_ffi.proofs.adviser.rd_open_adviser.Goals as goal

pub returns-in-Ok-new : goal.returns-in-Ok-new
returns-in-Ok-new c =
    let within : can_advise c.args.entries ≡ true = c.in-Ok.ensures.within refl in
    record {
      made = record {
        state = λ ok. ap (λ (a : Option Advising). option_map (λ (x : Advising). x.adviser) a) c.give.ensures
            ∙ ap (λ (x : Advising). Some x.adviser) c.in-Ok-new.ensures.ok
            ∙ ap (λ (a : Advice ℕ). Some a) c.in-Ok.ensures.ok;
        refusal = λ none. subst (λ (b : Bool). Opens b 0) (sym within) (inl refl);
        already = search rules;
        err = search rules;
      };
    }

-- a handle that is closed has no adviser
not-open : (x : Option Advising) → is_some x ≡ false → IsNone (option_map (λ (a : Advising). a.adviser) x)
not-open (Some a) h = absurd (true≢false h)
not-open None h = refl

pub returns-in-Err-new : goal.returns-in-Err-new
returns-in-Err-new c =
    let within : can_advise c.args.entries ≡ true = c.in-Ok.ensures.within refl in
    let closed : is_some c.args.handle.now.pointer.advising ≡ false = sym c.args.handle.now.fits ∙ c.if-handle.false in
    let none = not-open c.args.handle.now.pointer.advising closed in
    record {
      made = record {
        state = λ zero. absurd (cc);
        refusal = λ _. subst (λ (b : Bool). Opens b 1) (sym within) (inr refl);
        already = λ some. absurd (true≢false (sym some ∙ none));
        err = λ _. refl;
      };
    }
