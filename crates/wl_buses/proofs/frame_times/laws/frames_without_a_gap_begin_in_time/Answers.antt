use Rattle.wl_buses.proofs.FrameTimes.Unbroken.{begins, passes}
use Rattle.wl_buses.proofs.frame_times.laws.frames_without_a_gap_begin_in_time.Goals as goal

pub returns-clause-begins : goal.returns-clause-begins
returns-clause-begins c = λ s frames count t stations room are take winner wins first n none less.
    begins c.times_add_up.ensures.sum c.the_next_frame_begins_in_time.ensures.winner c.a_frame_lasts_no_longer.ensures.passes s frames count t stations room are take winner wins first n none less

pub returns-clause-passes : goal.returns-clause-passes
returns-clause-passes c = λ s frames count t stations room are take winner wins first n none less i there.
    passes c.times_add_up.ensures.sum c.the_next_frame_begins_in_time.ensures.winner c.a_frame_lasts_no_longer.ensures.passes s frames count t stations room are take winner wins first n none less i there
