use Rattle.std.proofs.Common.{◌<◌, arith}
use Rattle.wl_plan.specs.PlanLine.{line_of, setup_at}
use Rattle.wl_buses.specs.OneFrame.Stations.{AreStations}
use Rattle.wl_buses.proofs.OneFrame.Plans.{line_of_plan}
use Rattle.wl_buses.proofs.OneFrame.Expecting.{may}
use Rattle.wl_buses.proofs.FrameEnd.Asked.{not_first}
use Rattle.wl_buses.proofs.frame_end.laws.a_plan_goes_to_the_end.Goals as goal

pub returns-clause-ends : goal.returns-clause-ends
returns-clause-ends c = λ plan s bus o rest chase end stop of calm bus_of sound answers is stuffed begin rests before.
    (let on = c.a_plan_is_on_a_line.ensures plan s of in
    let are : AreStations s = record { line = on; ways = c.a_sound_bus_has_room.ensures.ways bus s on bus_of } in
    let room = c.a_sound_bus_has_room.ensures.room bus s on bus_of sound in
    let line = line_of_plan c.checked_is_sound.ensures plan s of calm in
    let first = not_first s o end stuffed.there in
    let e = first.1 in
    let some : 0 < end = omega arith in
    let done = c.a_plan_does_what_is_expected.ensures.sound plan s bus o rest end 0 of calm bus_of sound is some stuffed.none begin rests (record { inside = omega arith; sampled = λ i inside. omega arith }) in
    let won = done.won stuffed.there in
    let sends = may c.machines_stay_in_step.ensures.step c.machines_stay_in_step.ensures.errors c.the_least_field_wins.ensures c.a_transmitter_sends_its_head_stuffed.ensures.sent
    c.a_front_of_no_stuffing_ends_six_equal_bits.ensures c.ten_bits_have_an_edge.ensures.ten s are room o is end won.station won.inside won.sends in (
      won,
      c.a_line_goes_to_the_end.ensures (line_of plan) (setup_at plan) s o end stop chase line are room is stuffed won
          (record {
            catch = c.a_bus_has_room_to_answer.ensures.catch bus s chase on bus_of answers won.station won.inside sends;
            room = c.a_bus_has_room_to_answer.ensures.room bus s chase on bus_of answers won.station won.inside sends;
          })
          (λ i inside. c.a_node_at_rest_begins_as_expected.ensures (line_of plan) (setup_at plan) s o end i (rest i) line are room is some stuffed.none inside (begin i inside) (rests i inside)) before,
    ))

pub returns-clause-rests : goal.returns-clause-rests
returns-clause-rests c = λ plan s bus o rest chase end of calm bus_of sound answers leaves is stuffed begin rests inside_stop.
    (let on = c.a_plan_is_on_a_line.ensures plan s of in
    let are : AreStations s = record { line = on; ways = c.a_sound_bus_has_room.ensures.ways bus s on bus_of } in
    let room = c.a_sound_bus_has_room.ensures.room bus s on bus_of sound in
    let line = line_of_plan c.checked_is_sound.ensures plan s of calm in
    let first = not_first s o end stuffed.there in
    let e = first.1 in
    let some : 0 < end = omega arith in
    let done = c.a_plan_does_what_is_expected.ensures.sound plan s bus o rest end 0 of calm bus_of sound is some stuffed.none begin rests (record { inside = omega arith; sampled = λ i inside. omega arith }) in
    let won = done.won stuffed.there in
    let sends = may c.machines_stay_in_step.ensures.step c.machines_stay_in_step.ensures.errors c.the_least_field_wins.ensures c.a_transmitter_sends_its_head_stuffed.ensures.sent
    c.a_front_of_no_stuffing_ends_six_equal_bits.ensures c.ten_bits_have_an_edge.ensures.ten s are room o is end won.station won.inside won.sends in (
      won,
      c.a_line_rests_after_a_frame.ensures (line_of plan) (setup_at plan) s o end chase line are room is stuffed won
          (record {
            catch = c.a_bus_has_room_to_answer.ensures.catch bus s chase on bus_of answers won.station won.inside sends;
            room = c.a_bus_has_room_to_answer.ensures.room bus s chase on bus_of answers won.station won.inside sends;
          })
          (c.a_bus_has_room_to_rest.ensures bus s chase on bus_of answers leaves won.station won.inside sends)
          (λ i inside. c.a_node_at_rest_begins_as_expected.ensures (line_of plan) (setup_at plan) s o end i (rest i) line are room is some stuffed.none inside (begin i inside) (rests i inside)) inside_stop,
    ))
