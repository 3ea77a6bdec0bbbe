use Rattle.wl_counts.proofs.Windows.{few}
use Rattle.wl_counts.proofs.laws.a_window_has_few.Goals as goal

pub returns : goal.returns
returns c = λ picked instant n period from back on. few picked instant period from back on n
