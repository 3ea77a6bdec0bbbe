use Rattle.wl_buses.proofs.BoundedWaits.Windows.{have_windows}
use Rattle.wl_buses.proofs.bounded_waits.laws.a_busy_period_goes_back_to.Goals as goal

pub returns : goal.returns
returns c = λ x t blocking r is some blocks. have_windows c.periods_give_a_curve.ensures x t blocking r is some blocks
