use Rattle.wl_counts.proofs.Windows.{closed_few}
use Rattle.wl_counts.proofs.laws.a_closed_window_has_few.Goals as goal

pub returns : goal.returns
returns c = closed_few
