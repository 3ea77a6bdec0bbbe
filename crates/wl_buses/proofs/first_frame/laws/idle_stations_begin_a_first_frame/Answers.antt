use Rattle.wl_buses.proofs.FirstFrame.Beginning.{after_first, outset_first}
use Rattle.wl_buses.proofs.first_frame.laws.idle_stations_begin_a_first_frame.Goals as goal

pub returns-clause-outset : goal.returns-clause-outset
returns-clause-outset c = λ w line are. outset_first c.idle_machines_may_begin_together.ensures w line are

pub returns-clause-after : goal.returns-clause-after
returns-clause-after c = λ w line are i inside. after_first w line are i inside
