use Rattle.wl_buses.specs.OneFrame.Stations.{AreStations}
use Rattle.wl_buses.proofs.OneFrame.Plans.{line_of_plan}
use Rattle.wl_plan.specs.PlanLine.{line_of, setup_at}
use Rattle.wl_buses.specs.FirstFrame.FirstFrames.{waiting_of}
use Rattle.wl_buses.proofs.NextFrames.PoweredUp.{powered_up}
use Rattle.wl_buses.proofs.next_frames.lines.a_plan_goes_from_frame_to_frame.Goals as goal

pub returns-clause-goes : goal.returns-clause-goes
returns-clause-goes c = λ plan s bus frames count stop of calm bus_of sound all some begin before.
    (let line = c.a_plan_is_on_a_line.ensures plan s of in
    c.a_line_goes_from_frame_to_frame.ensures (line_of plan) (setup_at plan) s frames count stop (line_of_plan c.checked_is_sound.ensures plan s of calm)
    (record { line = line; ways = c.a_sound_bus_has_room.ensures.ways bus s line bus_of }) (c.a_sound_bus_has_room.ensures.room bus s line bus_of sound) all some begin before)

pub returns-clause-power_up : goal.returns-clause-power_up
returns-clause-power_up c = λ plan queues s bus frames count stop of calm bus_of sound has all some first hands before.
    (let line = c.a_plan_is_on_a_line.ensures plan s of in
    let are : AreStations s = record { line = line; ways = c.a_sound_bus_has_room.ensures.ways bus s line bus_of } in
    let room = c.a_sound_bus_has_room.ensures.room bus s line bus_of sound in
    let on = line_of_plan c.checked_is_sound.ensures plan s of calm in
    let begin = powered_up c.idle_stations_begin_a_first_frame.ensures.after c.nodes_rest_before_a_first_frame.ensures (line_of plan) (setup_at plan) (waiting_of plan queues s) on are room
    (c.a_plan_has_a_first_frame.ensures.idle plan queues s of has) (c.a_plan_has_a_first_frame.ensures.hands plan queues s of has.has.begin) frames count all some first hands in
    c.a_line_goes_from_frame_to_frame.ensures (line_of plan) (setup_at plan) s frames count stop on are room all some begin before)
