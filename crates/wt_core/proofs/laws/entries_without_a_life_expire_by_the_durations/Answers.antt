use Rattle.wt_regions.proofs.Lives.{expired-lifeless}
use Rattle.wt_core.proofs.laws.entries_without_a_life_expire_by_the_durations.Goals as goal

pub returns : goal.returns
returns g c = λ caps now h none. expired-lifeless caps now h none
