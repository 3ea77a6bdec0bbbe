use Rattle.wl_buses.proofs.FrameTimes.Adding.{added, in_whole_units, later_than, longer, sooner}
use Rattle.wl_buses.proofs.frame_times.laws.times_add_up.Goals as goal

pub returns-clause-sum : goal.returns-clause-sum
returns-clause-sum c = added

pub returns-clause-more : goal.returns-clause-more
returns-clause-more c = longer

pub returns-clause-earlier : goal.returns-clause-earlier
returns-clause-earlier c = sooner

pub returns-clause-whole : goal.returns-clause-whole
returns-clause-whole c = in_whole_units

pub returns-clause-later : goal.returns-clause-later
returns-clause-later c = later_than
