-- The law of clocks makes it.
use Rattle.wl_plan.proofs.CheckProofs.{faultless_is_checked}
use Rattle.wl_plan.proofs.laws.faultless_is_checked.Goals as goal

pub returns : goal.returns
returns c = faultless_is_checked c.ticks_increase.ensures.later
