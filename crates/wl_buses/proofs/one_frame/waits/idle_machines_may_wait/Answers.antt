use Rattle.wl_buses.proofs.OneFrame.Waited.{wait_together}
use Rattle.wl_buses.proofs.one_frame.waits.idle_machines_may_wait.Goals as goal

pub returns : goal.returns
returns c = λ count frames old new may waited. wait_together frames count old new may waited
