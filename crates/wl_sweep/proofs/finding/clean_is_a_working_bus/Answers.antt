use Rattle.wl_sweep.proofs.Working.{clean}
use Rattle.wl_sweep.proofs.finding.clean_is_a_working_bus.Goals as goal

pub returns : goal.returns
returns c = clean
