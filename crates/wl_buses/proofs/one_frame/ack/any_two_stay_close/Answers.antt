use Rattle.wl_buses.proofs.OneFrame.AckWays.{any_close, chased_stations, fits_but, gathered_stations}
use Rattle.wl_buses.proofs.one_frame.ack.any_two_stay_close.Goals as goal

pub returns-clause-ways : goal.returns-clause-ways
returns-clause-ways c = λ s winner chase line. (gathered_stations s line winner chase, chased_stations s line winner chase)

pub returns-clause-fits : goal.returns-clause-fits
returns-clause-fits c = λ s winner chase line. fits_but s line winner chase

pub returns-clause-close : goal.returns-clause-close
returns-clause-close c = λ s bits drove length until winner chase are room is inside wins catch n less.
    any_close s are room bits drove length until is c.driven_laws.ensures winner inside wins chase catch n less
