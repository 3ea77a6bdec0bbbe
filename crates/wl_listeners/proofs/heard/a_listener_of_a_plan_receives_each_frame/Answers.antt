use Rattle.wl_buses.specs.FirstFrame.FirstFrames.{queues_of, waiting_of}
use Rattle.wl_buses.specs.OneListener.Muted.{muted, muted_way}
use Rattle.wl_buses.specs.OneFrame.Acknowledged.{most_overrun}
use Rattle.wl_buses.specs.OneListener.Beside.{with_listener}
use Rattle.wl_listeners.proofs.Hearers as heard
use Rattle.wl_listeners.proofs.heard.a_listener_of_a_plan_receives_each_frame.Goals as goal

pub returns : goal.returns
returns c = λ plan other at i s chase checked without of first are room has is all.
    (let w = waiting_of other (queues_of other) s in
    let causal = (c.checked_is_sound.ensures plan checked).causal in
    let idle = c.a_plan_has_a_first_frame.ensures.idle other (queues_of other) s of first in
    let hands = c.a_plan_has_a_first_frame.ensures.hands other (queues_of other) s of first.has.begin in
    let laws = c.driven_laws.ensures in
    let sim = c.simulation_laws.ensures in
    let idle_with = heard.idle_with laws sim plan other at i s checked causal without of idle hands is all in
    let may = c.a_station_with_room_may_join.ensures s (waiting_of other (queues_of other) s) all.bus.frames all.bus.count chase has idle_with in
    let r =
    c.a_listener_receives_each_frame_of_a_line.ensures (heard.part laws sim plan other at i s checked causal without of idle hands is all) (heard.setups laws sim plan other at i s checked causal without of idle hands is all)
    s (muted s may.0).delay (muted s may.0).way (muted_way s may.0) (waiting_of other (queues_of other) s) all.bus.frames all.bus.count chase (λ winner. most_overrun (with_listener s) winner chase) all.bus.by.content are room
    all.bus.are all.bus.by.wins_with all.bus.some all.bus.first may.1 (heard.hands_muted laws sim plan other at i s checked causal without of idle hands is all may.0)
    (heard.listener laws sim plan other at i s checked causal without of idle hands is all may.0) (heard.others_drive laws sim plan other at i s checked causal without of idle hands is all) in
    heard.hears_all laws sim plan other at i s checked causal without of idle hands is all may.0 chase r.0 r.1)
