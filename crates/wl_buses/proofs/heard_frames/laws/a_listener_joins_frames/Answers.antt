use Rattle.wl_buses.proofs.FrameEnd.Below.{MachineLaws}
use Rattle.wl_buses.proofs.HeardFrames.Joining.{joins}
use Rattle.wl_buses.proofs.heard_frames.laws.a_listener_joins_frames.Goals as goal

pub returns : goal.returns
returns c = λ s delay way late w frames count chase more content are room follow wins first may.
    (let m : MachineLaws = record {
      steps = c.machines_stay_in_step.ensures.step;
      errors = c.machines_stay_in_step.ensures.errors;
      winner = c.the_least_field_wins.ensures;
      stuffed = c.a_transmitter_sends_its_head_stuffed.ensures.sent;
      found = c.a_transmitter_sends_its_head_stuffed.ensures.found;
      six = c.a_front_of_no_stuffing_ends_six_equal_bits.ensures;
      ten = c.ten_bits_have_an_edge.ensures.ten;
      driven = c.driven_laws.ensures;
    } in
    joins m c.the_stuffed_part_ends.ensures c.one_station_wins.ensures c.stations_rest_after_a_frame.ensures.free c.stations_rest_after_a_frame.ensures.rest c.the_next_frame_finds_all_at_rest.ensures
    c.idle_stations_begin_a_first_frame.ensures.outset c.resting_stations_begin_the_next_frame.ensures.outset s delay way late w frames count chase more content are room follow wins first may)
