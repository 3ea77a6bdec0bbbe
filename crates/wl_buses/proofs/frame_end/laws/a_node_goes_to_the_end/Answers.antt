use Rattle.std.proofs.Common.{◌≤◌, arith}
use Rattle.wl_buses.proofs.FrameEnd.Below.{ClockLaws, MachineLaws}
use Rattle.wl_buses.proofs.FrameEnd.Finding.{finds_the_end}
use Rattle.wl_buses.proofs.FrameEnd.NodeEnds.{node_ends}
use Rattle.wl_buses.proofs.frame_end.laws.a_node_goes_to_the_end.Goals as goal

pub returns : goal.returns
returns c = λ s o end chase are room is stuffed won can i setup levels node inside segments run finds first.
    (let m : MachineLaws = record {
      steps = c.machines_stay_in_step.ensures.step;
      errors = c.machines_stay_in_step.ensures.errors;
      winner = c.the_least_field_wins.ensures;
      stuffed = c.a_transmitter_sends_its_head_stuffed.ensures.sent;
      found = c.a_transmitter_sends_its_head_stuffed.ensures.found;
      six = c.a_front_of_no_stuffing_ends_six_equal_bits.ensures;
      ten = c.ten_bits_have_an_edge.ensures.ten;
      driven = c.driven_laws.ensures;
    } in
    let clocks : ClockLaws = record { edges = c.a_station_begins_its_bits.ensures; calm = c.no_edge_counts_then.ensures } in
    node_ends m s are room o is end stuffed.none stuffed.there won clocks i inside (finds_the_end m s are room o is end stuffed.none stuffed.there won chase can.catch can.room i inside) setup segments levels node run 12 (omega arith) finds first (omega arith) (omega arith))
