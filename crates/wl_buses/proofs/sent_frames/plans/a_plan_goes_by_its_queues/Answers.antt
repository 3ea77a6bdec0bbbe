use Rattle.wl_buses.proofs.sent_frames.plans.a_plan_goes_by_its_queues.Goals as goal

pub returns : goal.returns
returns c = λ plan s bus frames count stop of calm bus_of sound has all some first by before.
    c.a_plan_goes_from_frame_to_frame.ensures.goes plan s bus frames count stop of calm bus_of sound all some
    (c.a_plan_sends_by_its_queues.ensures plan s bus frames count of calm bus_of sound has all some first by).begins before
