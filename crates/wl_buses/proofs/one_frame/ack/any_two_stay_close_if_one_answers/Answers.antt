use Rattle.wl_buses.proofs.OneFrame.AckWays.{close_if_one_answers}
use Rattle.wl_buses.proofs.one_frame.ack.any_two_stay_close_if_one_answers.Goals as goal

pub returns : goal.returns
returns c = λ s answers way bits drove length until winner chase are room ways speaks is inside wins catch n less.
    close_if_one_answers s are room bits drove length until is c.driven_laws.ensures winner inside wins chase catch answers way ways speaks n less
