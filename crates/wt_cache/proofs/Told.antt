-- Lists of notices that only grow.
use Rattle.std.proofs.Common.{ℕ, ◌+◌, ◌≤◌, [], ◌++◌, refl, sym, ap, ◌∙◌, append_assoc, append-nil, arith, length-append}
use Rattle.wt_regions.specs.Notices.{NoticeList}
use Rattle.wt_shards.specs.Told.{HasTold}

module _ {K V : Type 0} where
  -- nothing was told
  pub told_none : (n : ℕ) (t : NoticeList K V) → HasTold n t t
  told_none n t = record { told = []; few = omega arith; appends = sym (append-nil t.list); whole = refl }

  -- first this, then that
  pub told_both : (m n k : ℕ) (t u v : NoticeList K V) → HasTold m t u → HasTold n u v → m + n ≤ k → HasTold k t v
  told_both m n k t u v a b le = record {
    told = a.told ++ b.told;
    few = (let f = a.few in let g = b.few in omega (arith, f, g, le, length-append a.told b.told));
    appends = b.appends ∙ ap (λ l. l ++ b.told) a.appends ∙ append_assoc t.list a.told b.told;
    whole = b.whole ∙ a.whole;
  }
