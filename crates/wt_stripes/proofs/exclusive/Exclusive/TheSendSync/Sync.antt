use denote.RattleType.{RattleType}
use denote.Param.Send.{IsSend, IsSync, whole-keyless}
use Rattle.wt_stripes.specs.contracts.exclusive.Exclusive.{the_row}

pub sync : (T : RattleType) → IsSend T → IsSync (the_row T)
sync T s = record { shared = λ d b o κ x. ((λ q. whole-keyless _ _ (λ z vs. ((λ y. (tt, (s.owned z.value y.0, tt))), tt)) q x.0 b o), tt) }
