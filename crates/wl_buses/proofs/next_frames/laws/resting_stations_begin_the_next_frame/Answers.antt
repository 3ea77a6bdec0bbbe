use Rattle.wl_buses.proofs.NextFrames.Lasting.{after_next}
use Rattle.wl_buses.proofs.NextFrames.Outset.{next_is_outset}
use Rattle.wl_buses.proofs.next_frames.laws.resting_stations_begin_the_next_frame.Goals as goal

pub returns-clause-outset : goal.returns-clause-outset
returns-clause-outset c = λ r before line are rests. next_is_outset c.idle_machines_may_wait.ensures r before line are rests

pub returns-clause-after : goal.returns-clause-after
returns-clause-after c = λ r before line are i inside. after_next r line are before i inside
