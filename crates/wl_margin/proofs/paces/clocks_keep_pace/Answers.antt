use Rattle.wl_margin.proofs.KeepingPace.{all_keep}
use Rattle.wl_margin.proofs.paces.clocks_keep_pace.Goals as goal

pub returns : goal.returns
returns c = λ deviations plan f none steady. all_keep deviations plan f none steady
