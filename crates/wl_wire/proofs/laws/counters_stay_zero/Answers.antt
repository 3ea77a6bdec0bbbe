use Rattle.wl_wire.proofs.Deeds.{counts_stay}
use Rattle.wl_wire.proofs.laws.counters_stay_zero.Goals as goal

pub returns : goal.returns
returns c = counts_stay c.machines_stay_in_step.ensures.errors
