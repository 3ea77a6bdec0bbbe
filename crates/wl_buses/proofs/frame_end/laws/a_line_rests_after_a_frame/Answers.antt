use Rattle.wl_buses.proofs.FrameEnd.Below.{ClockLaws, MachineLaws}
use Rattle.wl_buses.proofs.FrameEnd.LineEnds.{line_rests}
use Rattle.wl_buses.proofs.frame_end.laws.a_line_rests_after_a_frame.Goals as goal

pub returns : goal.returns
returns c = λ l setups s o end chase line are room is stuffed won can rest begin inside_stop.
    (let m : MachineLaws = record {
      steps = c.machines_stay_in_step.ensures.step;
      errors = c.machines_stay_in_step.ensures.errors;
      winner = c.the_least_field_wins.ensures;
      stuffed = c.a_transmitter_sends_its_head_stuffed.ensures.sent;
      found = c.a_transmitter_sends_its_head_stuffed.ensures.found;
      six = c.a_front_of_no_stuffing_ends_six_equal_bits.ensures;
      ten = c.ten_bits_have_an_edge.ensures.ten;
      driven = c.driven_laws.ensures;
    } in
    let clocks : ClockLaws = record { edges = c.a_station_begins_its_bits.ensures; calm = c.no_edge_counts_then.ensures } in
    line_rests m clocks c.a_node_goes_as_expected.ensures l setups s line are room o is end stuffed.none stuffed.there won chase can.catch can.room begin c.what_is_expected_is_driven.ensures.driven
    c.what_is_expected_is_driven.ensures.seen
    (c.the_next_frame_finds_all_at_rest.ensures s o end chase are room is stuffed won can rest) inside_stop)
