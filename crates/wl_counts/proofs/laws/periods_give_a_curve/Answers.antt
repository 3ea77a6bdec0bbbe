use Rattle.wl_counts.proofs.Waits.{periods_curve}
use Rattle.wl_counts.proofs.laws.periods_give_a_curve.Goals as goal

pub returns : goal.returns
returns c = periods_curve
