use Rattle.std.proofs.Common.{refl, sym, ◌∙◌, subst}
use Rattle.wt_regions.proofs.Looks.{IsLook, look-is}
use Rattle.wt_regions.proofs.caches.Caches.get_shared.Goals as goal

pub returns-in_err-promote-in-InProbation-clause-miss_succeeds : goal.returns-in_err-promote-in-InProbation-clause-miss_succeeds
returns-in_err-promote-in-InProbation-clause-miss_succeeds g c =
    let r = c.args.self.now in
    let is = sym c.in_ok-value.ensures.found ∙ c.in-InProbation.is in
    let look = subst (IsLook g.K.PartialEq.eq
    (g.met.K.Eq g.world.𝓛 g.world.𝓜 g.world.𝓡 ((λ s x. x), (λ x. x), (λ x. x), λ x. x)).laws
    (g.met.K.CacheKey g.world.𝓛 g.world.𝓜 g.world.𝓡 ((λ s x. x), (λ x. x), (λ x. x), λ x. x)).same c.args.key
    c.args.now r.caps r.window r.probation r.protected c.requires.placed.distinct) is
    (look-is g.K.PartialEq.eq (g.met.K.Eq g.world.𝓛 g.world.𝓜 g.world.𝓡
    ((λ s x. x), (λ x. x), (λ x. x), λ x. x)).laws
    (g.met.K.CacheKey g.world.𝓛 g.world.𝓜 g.world.𝓡 ((λ s x. x), (λ x. x), (λ x. x), λ x. x)).same c.args.key
    c.args.now r.caps r.window r.probation r.protected c.requires.placed.distinct) in
    λ miss. let never = rw look.0 at miss in cc

pub returns-in_err-promote-in-InProbation-clause-hit_succeeds : goal.returns-in_err-promote-in-InProbation-clause-hit_succeeds
returns-in_err-promote-in-InProbation-clause-hit_succeeds g c =
    let r = c.args.self.now in
    let is = sym c.in_ok-value.ensures.found ∙ c.in-InProbation.is in
    let look = subst (IsLook g.K.PartialEq.eq
    (g.met.K.Eq g.world.𝓛 g.world.𝓜 g.world.𝓡 ((λ s x. x), (λ x. x), (λ x. x), λ x. x)).laws
    (g.met.K.CacheKey g.world.𝓛 g.world.𝓜 g.world.𝓡 ((λ s x. x), (λ x. x), (λ x. x), λ x. x)).same c.args.key
    c.args.now r.caps r.window r.probation r.protected c.requires.placed.distinct) is
    (look-is g.K.PartialEq.eq (g.met.K.Eq g.world.𝓛 g.world.𝓜 g.world.𝓡
    ((λ s x. x), (λ x. x), (λ x. x), λ x. x)).laws
    (g.met.K.CacheKey g.world.𝓛 g.world.𝓜 g.world.𝓡 ((λ s x. x), (λ x. x), (λ x. x), λ x. x)).same c.args.key
    c.args.now r.caps r.window r.probation r.protected c.requires.placed.distinct) in
    let there = look.3 in
    λ copied outside. let never = rw outside at there in cc

pub returns-in-InWindow-clause-found : goal.returns-in-InWindow-clause-found
returns-in-InWindow-clause-found g c =
    let r = c.args.self.now in
    let is = sym c.in_ok-value.ensures.found ∙ c.in-InWindow.is in
    let look = subst (IsLook g.K.PartialEq.eq
    (g.met.K.Eq g.world.𝓛 g.world.𝓜 g.world.𝓡 ((λ s x. x), (λ x. x), (λ x. x), λ x. x)).laws
    (g.met.K.CacheKey g.world.𝓛 g.world.𝓜 g.world.𝓡 ((λ s x. x), (λ x. x), (λ x. x), λ x. x)).same c.args.key
    c.args.now r.caps r.window r.probation r.protected c.requires.placed.distinct) is
    (look-is g.K.PartialEq.eq (g.met.K.Eq g.world.𝓛 g.world.𝓜 g.world.𝓡
    ((λ s x. x), (λ x. x), (λ x. x), λ x. x)).laws
    (g.met.K.CacheKey g.world.𝓛 g.world.𝓜 g.world.𝓡 ((λ s x. x), (λ x. x), (λ x. x), λ x. x)).same c.args.key
    c.args.now r.caps r.window r.probation r.protected c.requires.placed.distinct) in
    rw look.0 refl

pub returns-in-InWindow-clause-state : goal.returns-in-InWindow-clause-state
returns-in-InWindow-clause-state g c =
    let i = c.self.inside in
    let once = (rw (← c.self.view_is) at c.requires.placed).distinct in
    let is = rw (← c.self.view_is) at (sym c.in_ok-value.ensures.found ∙ c.in-InWindow.is) in
    let look = subst (IsLook g.K.PartialEq.eq
    (g.met.K.Eq g.world.𝓛 g.world.𝓜 g.world.𝓡 ((λ s x. x), (λ x. x), (λ x. x), λ x. x)).laws
    (g.met.K.CacheKey g.world.𝓛 g.world.𝓜 g.world.𝓡 ((λ s x. x), (λ x. x), (λ x. x), λ x. x)).same c.args.key
    c.args.now i.caps i.window.entries i.probation.entries i.protected.entries once) is
    (look-is g.K.PartialEq.eq (g.met.K.Eq g.world.𝓛 g.world.𝓜 g.world.𝓡
    ((λ s x. x), (λ x. x), (λ x. x), λ x. x)).laws
    (g.met.K.CacheKey g.world.𝓛 g.world.𝓜 g.world.𝓡 ((λ s x. x), (λ x. x), (λ x. x), λ x. x)).same c.args.key
    c.args.now i.caps i.window.entries i.probation.entries i.protected.entries once) in
    rw (c.freshen.ensures.state, ← c.self.view_is) (sym look.1)

pub returns-in-InProtected-clause-found : goal.returns-in-InProtected-clause-found
returns-in-InProtected-clause-found g c =
    let r = c.args.self.now in
    let is = sym c.in_ok-value.ensures.found ∙ c.in-InProtected.is in
    let look = subst (IsLook g.K.PartialEq.eq
    (g.met.K.Eq g.world.𝓛 g.world.𝓜 g.world.𝓡 ((λ s x. x), (λ x. x), (λ x. x), λ x. x)).laws
    (g.met.K.CacheKey g.world.𝓛 g.world.𝓜 g.world.𝓡 ((λ s x. x), (λ x. x), (λ x. x), λ x. x)).same c.args.key
    c.args.now r.caps r.window r.probation r.protected c.requires.placed.distinct) is
    (look-is g.K.PartialEq.eq (g.met.K.Eq g.world.𝓛 g.world.𝓜 g.world.𝓡
    ((λ s x. x), (λ x. x), (λ x. x), λ x. x)).laws
    (g.met.K.CacheKey g.world.𝓛 g.world.𝓜 g.world.𝓡 ((λ s x. x), (λ x. x), (λ x. x), λ x. x)).same c.args.key
    c.args.now r.caps r.window r.probation r.protected c.requires.placed.distinct) in
    rw look.0 refl

pub returns-in-InProtected-clause-state : goal.returns-in-InProtected-clause-state
returns-in-InProtected-clause-state g c =
    let i = c.self.inside in
    let once = (rw (← c.self.view_is) at c.requires.placed).distinct in
    let is = rw (← c.self.view_is) at (sym c.in_ok-value.ensures.found ∙ c.in-InProtected.is) in
    let look = subst (IsLook g.K.PartialEq.eq
    (g.met.K.Eq g.world.𝓛 g.world.𝓜 g.world.𝓡 ((λ s x. x), (λ x. x), (λ x. x), λ x. x)).laws
    (g.met.K.CacheKey g.world.𝓛 g.world.𝓜 g.world.𝓡 ((λ s x. x), (λ x. x), (λ x. x), λ x. x)).same c.args.key
    c.args.now i.caps i.window.entries i.probation.entries i.protected.entries once) is
    (look-is g.K.PartialEq.eq (g.met.K.Eq g.world.𝓛 g.world.𝓜 g.world.𝓡
    ((λ s x. x), (λ x. x), (λ x. x), λ x. x)).laws
    (g.met.K.CacheKey g.world.𝓛 g.world.𝓜 g.world.𝓡 ((λ s x. x), (λ x. x), (λ x. x), λ x. x)).same c.args.key
    c.args.now i.caps i.window.entries i.probation.entries i.protected.entries once) in
    rw (c.freshen-in-InProtected.ensures.state, ← c.self.view_is) (sym look.1)

pub returns-in_ok-promote-in-InProbation-clause-found : goal.returns-in_ok-promote-in-InProbation-clause-found
returns-in_ok-promote-in-InProbation-clause-found g c =
    let r = c.args.self.now in
    let is = sym c.in_ok-value.ensures.found ∙ c.in-InProbation.is in
    let look = subst (IsLook g.K.PartialEq.eq
    (g.met.K.Eq g.world.𝓛 g.world.𝓜 g.world.𝓡 ((λ s x. x), (λ x. x), (λ x. x), λ x. x)).laws
    (g.met.K.CacheKey g.world.𝓛 g.world.𝓜 g.world.𝓡 ((λ s x. x), (λ x. x), (λ x. x), λ x. x)).same c.args.key
    c.args.now r.caps r.window r.probation r.protected c.requires.placed.distinct) is
    (look-is g.K.PartialEq.eq (g.met.K.Eq g.world.𝓛 g.world.𝓜 g.world.𝓡
    ((λ s x. x), (λ x. x), (λ x. x), λ x. x)).laws
    (g.met.K.CacheKey g.world.𝓛 g.world.𝓜 g.world.𝓡 ((λ s x. x), (λ x. x), (λ x. x), λ x. x)).same c.args.key
    c.args.now r.caps r.window r.probation r.protected c.requires.placed.distinct) in
    rw look.0 refl

pub returns-in_ok-promote-in-InProbation-clause-state : goal.returns-in_ok-promote-in-InProbation-clause-state
returns-in_ok-promote-in-InProbation-clause-state g c =
    let r = c.args.self.now in
    let is = sym c.in_ok-value.ensures.found ∙ c.in-InProbation.is in
    let look = subst (IsLook g.K.PartialEq.eq
    (g.met.K.Eq g.world.𝓛 g.world.𝓜 g.world.𝓡 ((λ s x. x), (λ x. x), (λ x. x), λ x. x)).laws
    (g.met.K.CacheKey g.world.𝓛 g.world.𝓜 g.world.𝓡 ((λ s x. x), (λ x. x), (λ x. x), λ x. x)).same c.args.key
    c.args.now r.caps r.window r.probation r.protected c.requires.placed.distinct) is
    (look-is g.K.PartialEq.eq (g.met.K.Eq g.world.𝓛 g.world.𝓜 g.world.𝓡
    ((λ s x. x), (λ x. x), (λ x. x), λ x. x)).laws
    (g.met.K.CacheKey g.world.𝓛 g.world.𝓜 g.world.𝓡 ((λ s x. x), (λ x. x), (λ x. x), λ x. x)).same c.args.key
    c.args.now r.caps r.window r.probation r.protected c.requires.placed.distinct) in
    c.in_ok-promote-in-InProbation.ensures.state ∙ sym look.1

pub returns-in-Nowhere-clause-found : goal.returns-in-Nowhere-clause-found
returns-in-Nowhere-clause-found g c =
    let r = c.args.self.now in
    let is = sym c.in_ok-value.ensures.found ∙ c.in-Nowhere.is in
    let look = subst (IsLook g.K.PartialEq.eq
    (g.met.K.Eq g.world.𝓛 g.world.𝓜 g.world.𝓡 ((λ s x. x), (λ x. x), (λ x. x), λ x. x)).laws
    (g.met.K.CacheKey g.world.𝓛 g.world.𝓜 g.world.𝓡 ((λ s x. x), (λ x. x), (λ x. x), λ x. x)).same c.args.key
    c.args.now r.caps r.window r.probation r.protected c.requires.placed.distinct) is
    (look-is g.K.PartialEq.eq (g.met.K.Eq g.world.𝓛 g.world.𝓜 g.world.𝓡
    ((λ s x. x), (λ x. x), (λ x. x), λ x. x)).laws
    (g.met.K.CacheKey g.world.𝓛 g.world.𝓜 g.world.𝓡 ((λ s x. x), (λ x. x), (λ x. x), λ x. x)).same c.args.key
    c.args.now r.caps r.window r.probation r.protected c.requires.placed.distinct) in
    rw look.0 refl

pub returns-in-Nowhere-clause-state : goal.returns-in-Nowhere-clause-state
returns-in-Nowhere-clause-state g c =
    let r = c.args.self.now in
    let is = sym c.in_ok-value.ensures.found ∙ c.in-Nowhere.is in
    let look = subst (IsLook g.K.PartialEq.eq
    (g.met.K.Eq g.world.𝓛 g.world.𝓜 g.world.𝓡 ((λ s x. x), (λ x. x), (λ x. x), λ x. x)).laws
    (g.met.K.CacheKey g.world.𝓛 g.world.𝓜 g.world.𝓡 ((λ s x. x), (λ x. x), (λ x. x), λ x. x)).same c.args.key
    c.args.now r.caps r.window r.probation r.protected c.requires.placed.distinct) is
    (look-is g.K.PartialEq.eq (g.met.K.Eq g.world.𝓛 g.world.𝓜 g.world.𝓡
    ((λ s x. x), (λ x. x), (λ x. x), λ x. x)).laws
    (g.met.K.CacheKey g.world.𝓛 g.world.𝓜 g.world.𝓡 ((λ s x. x), (λ x. x), (λ x. x), λ x. x)).same c.args.key
    c.args.now r.caps r.window r.probation r.protected c.requires.placed.distinct) in
    sym look.1

pub returns-in-Expired-clause-found : goal.returns-in-Expired-clause-found
returns-in-Expired-clause-found g c =
    let r = c.args.self.now in
    let is = sym c.in_ok-value.ensures.found ∙ c.in-Expired.is in
    let look = subst (IsLook g.K.PartialEq.eq
    (g.met.K.Eq g.world.𝓛 g.world.𝓜 g.world.𝓡 ((λ s x. x), (λ x. x), (λ x. x), λ x. x)).laws
    (g.met.K.CacheKey g.world.𝓛 g.world.𝓜 g.world.𝓡 ((λ s x. x), (λ x. x), (λ x. x), λ x. x)).same c.args.key
    c.args.now r.caps r.window r.probation r.protected c.requires.placed.distinct) is
    (look-is g.K.PartialEq.eq (g.met.K.Eq g.world.𝓛 g.world.𝓜 g.world.𝓡
    ((λ s x. x), (λ x. x), (λ x. x), λ x. x)).laws
    (g.met.K.CacheKey g.world.𝓛 g.world.𝓜 g.world.𝓡 ((λ s x. x), (λ x. x), (λ x. x), λ x. x)).same c.args.key
    c.args.now r.caps r.window r.probation r.protected c.requires.placed.distinct) in
    rw look.0 refl

pub returns-in-Expired-clause-state : goal.returns-in-Expired-clause-state
returns-in-Expired-clause-state g c =
    let r = c.args.self.now in
    let is = sym c.in_ok-value.ensures.found ∙ c.in-Expired.is in
    let look = subst (IsLook g.K.PartialEq.eq
    (g.met.K.Eq g.world.𝓛 g.world.𝓜 g.world.𝓡 ((λ s x. x), (λ x. x), (λ x. x), λ x. x)).laws
    (g.met.K.CacheKey g.world.𝓛 g.world.𝓜 g.world.𝓡 ((λ s x. x), (λ x. x), (λ x. x), λ x. x)).same c.args.key
    c.args.now r.caps r.window r.probation r.protected c.requires.placed.distinct) is
    (look-is g.K.PartialEq.eq (g.met.K.Eq g.world.𝓛 g.world.𝓜 g.world.𝓡
    ((λ s x. x), (λ x. x), (λ x. x), λ x. x)).laws
    (g.met.K.CacheKey g.world.𝓛 g.world.𝓜 g.world.𝓡 ((λ s x. x), (λ x. x), (λ x. x), λ x. x)).same c.args.key
    c.args.now r.caps r.window r.probation r.protected c.requires.placed.distinct) in
    sym look.1

pub promote-requires-clause-elsewhere : goal.promote-requires-clause-elsewhere
promote-requires-clause-elsewhere g c κs within =
    let r = c.args.self.now in
    let is = sym c.in_ok-value.ensures.found ∙ c.in-InProbation.is in
    let look = subst (IsLook g.K.PartialEq.eq
    (g.met.K.Eq g.world.𝓛 g.world.𝓜 g.world.𝓡 ((λ s x. x), (λ x. x), (λ x. x), λ x. x)).laws
    (g.met.K.CacheKey g.world.𝓛 g.world.𝓜 g.world.𝓡 ((λ s x. x), (λ x. x), (λ x. x), λ x. x)).same c.args.key
    c.args.now r.caps r.window r.probation r.protected c.requires.placed.distinct) is
    (look-is g.K.PartialEq.eq (g.met.K.Eq g.world.𝓛 g.world.𝓜 g.world.𝓡
    ((λ s x. x), (λ x. x), (λ x. x), λ x. x)).laws
    (g.met.K.CacheKey g.world.𝓛 g.world.𝓜 g.world.𝓡 ((λ s x. x), (λ x. x), (λ x. x), λ x. x)).same c.args.key
    c.args.now r.caps r.window r.probation r.protected c.requires.placed.distinct) in
    look.2
