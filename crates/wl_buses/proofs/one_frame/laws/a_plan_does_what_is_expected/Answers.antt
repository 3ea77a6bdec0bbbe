use Rattle.wl_plan.specs.PlanLine.{line_of, setup_at}
use Rattle.wl_buses.specs.OneFrame.Stations.{AreStations}
use Rattle.wl_buses.proofs.OneFrame.Plans.{line_of_plan}
use Rattle.wl_buses.proofs.one_frame.laws.a_plan_does_what_is_expected.Goals as goal

pub returns-clause-room : goal.returns-clause-room
returns-clause-room c = λ plan s o rest length end of calm ways room is some valid begin rests before.
    (let are : AreStations s = record { line = c.a_plan_is_on_a_line.ensures plan s of; ways = ways } in
    let line = line_of_plan c.checked_is_sound.ensures plan s of calm in
    c.a_line_does_what_is_expected.ensures (line_of plan) (setup_at plan) s o length end line are room is some valid
    (λ i inside. c.a_node_at_rest_begins_as_expected.ensures (line_of plan) (setup_at plan) s o length i (rest i) line are room is some valid inside (begin i inside) (rests i inside)) before)

pub returns-clause-sound : goal.returns-clause-sound
returns-clause-sound c = λ plan s bus o rest length end of calm bus_of sound is some valid begin rests before.
    (let on = c.a_plan_is_on_a_line.ensures plan s of in
    let are : AreStations s = record { line = on; ways = c.a_sound_bus_has_room.ensures.ways bus s on bus_of } in
    let room = c.a_sound_bus_has_room.ensures.room bus s on bus_of sound in
    let line = line_of_plan c.checked_is_sound.ensures plan s of calm in
    c.a_line_does_what_is_expected.ensures (line_of plan) (setup_at plan) s o length end line are room is some valid
    (λ i inside. c.a_node_at_rest_begins_as_expected.ensures (line_of plan) (setup_at plan) s o length i (rest i) line are room is some valid inside (begin i inside) (rests i inside)) before)
