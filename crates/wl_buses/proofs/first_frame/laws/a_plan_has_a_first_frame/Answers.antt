use Rattle.wl_buses.proofs.FirstFrame.Plans.{first_frames, hands, idle}
use Rattle.wl_buses.proofs.first_frame.laws.a_plan_has_a_first_frame.Goals as goal

pub returns-clause-ready : goal.returns-clause-ready
returns-clause-ready c = λ plan queues s of has by.
    first_frames plan queues s of has.begin (c.a_plan_is_on_a_line.ensures plan s of) (c.checked_is_sound.ensures plan of.checked).causal has by

pub returns-clause-idle : goal.returns-clause-idle
returns-clause-idle c = λ plan queues s of first. idle plan queues s of first.has.begin (c.a_plan_is_on_a_line.ensures plan s of) (c.checked_is_sound.ensures plan of.checked).causal first

pub returns-clause-hands : goal.returns-clause-hands
returns-clause-hands c = λ plan queues s of begin. hands plan queues s of begin (c.a_plan_is_on_a_line.ensures plan s of) (c.checked_is_sound.ensures plan of.checked).causal
