use Rattle.wl_buses.proofs.FrameEnd.Below.{MachineLaws}
use Rattle.wl_buses.proofs.NextFrames.Beginning.{begins_in_third}
use Rattle.wl_buses.proofs.next_frames.nodes.a_node_in_its_third_bit_begins_the_next_frame.Goals as goal

pub returns : goal.returns
returns c =
    let m : MachineLaws = record {
      steps = c.machines_stay_in_step.ensures.step;
      errors = c.machines_stay_in_step.ensures.errors;
      winner = c.the_least_field_wins.ensures;
      stuffed = c.a_transmitter_sends_its_head_stuffed.ensures.sent;
      found = c.a_transmitter_sends_its_head_stuffed.ensures.found;
      six = c.a_front_of_no_stuffing_ends_six_equal_bits.ensures;
      ten = c.ten_bits_have_an_edge.ensures.ten;
      driven = c.driven_laws.ensures;
    } in
    begins_in_third m (record { clock = c.clock_goes_on.ensures.clock; beat = c.clock_goes_on.ensures.beat; sync = c.clock_goes_on.ensures.sync })
    c.clock_goes_on.ensures.level c.clock_goes_on.ensures.sample c.an_edge_moves_the_sample.ensures c.a_station_begins_its_bits.ensures c.no_edge_counts_then.ensures
