use denote.RattleType.{RattleType}
use denote.Param.Send.{IsSend}
use Rattle.wt_stripes.specs.contracts.exclusive.Exclusive.{the_row}

pub send : (T : RattleType) → IsSend T → IsSend (the_row T)
send T s = record { owned = λ d vs x. (((λ y. (tt, (s.owned x.0.value y.0, tt))), tt), tt); leaving = λ k d w. tt }
