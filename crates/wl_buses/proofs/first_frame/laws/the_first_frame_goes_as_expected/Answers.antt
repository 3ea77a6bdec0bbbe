use Rattle.wl_buses.proofs.FirstFrame.Going.{BeginLaws, goes}
use Rattle.wl_buses.proofs.first_frame.laws.the_first_frame_goes_as_expected.Goals as goal

pub returns-clause-room : goal.returns-clause-room
returns-clause-room c = λ plan queues s of calm ways room has.
    (let begins : BeginLaws = record { outset = c.idle_stations_begin_a_first_frame.ensures.outset; after = c.idle_stations_begin_a_first_frame.ensures.after } in
    goes c.a_plan_does_what_is_expected.ensures.room c.the_stuffed_part_ends.ensures begins c.nodes_rest_before_a_first_frame.ensures c.checked_is_sound.ensures plan queues s of calm ways room
    (c.a_plan_is_on_a_line.ensures plan s of) (c.a_plan_has_a_first_frame.ensures.idle plan queues s of has) (c.a_plan_has_a_first_frame.ensures.hands plan queues s of has.has.begin))

pub returns-clause-sound : goal.returns-clause-sound
returns-clause-sound c = λ plan queues s bus of calm bus_of sound has.
    (let begins : BeginLaws = record { outset = c.idle_stations_begin_a_first_frame.ensures.outset; after = c.idle_stations_begin_a_first_frame.ensures.after } in
    let line = c.a_plan_is_on_a_line.ensures plan s of in
    goes c.a_plan_does_what_is_expected.ensures.room c.the_stuffed_part_ends.ensures begins c.nodes_rest_before_a_first_frame.ensures c.checked_is_sound.ensures plan queues s of calm
    (c.a_sound_bus_has_room.ensures.ways bus s line bus_of) (c.a_sound_bus_has_room.ensures.room bus s line bus_of sound) line
    (c.a_plan_has_a_first_frame.ensures.idle plan queues s of has) (c.a_plan_has_a_first_frame.ensures.hands plan queues s of has.has.begin))
