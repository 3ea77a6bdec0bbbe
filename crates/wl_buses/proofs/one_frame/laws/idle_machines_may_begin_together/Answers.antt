use Rattle.wl_buses.proofs.OneFrame.Idling.{may_together}
use Rattle.wl_buses.proofs.one_frame.laws.idle_machines_may_begin_together.Goals as goal

pub returns : goal.returns
returns c = λ count frames past idled. may_together frames count past idled
