use Rattle.wl_buses.proofs.FrameEnd.ThirdStart.{frame_at_all}
use Rattle.wl_buses.proofs.frame_end.laws.a_start_of_frame_begins_the_next_frame_at_all.Goals as goal

pub returns : goal.returns
returns c = λ count frames third past handed sound may j there drives k inside.
    frame_at_all c.a_dominant_bit_begins_a_frame_at_all.ensures c.machines_that_are_in_step_stay_so.ensures.heads count frames third past handed sound may j there drives k inside
