use Rattle.wl_buses.proofs.FrameEnd.Below.{MachineLaws}
use Rattle.wl_buses.proofs.OneListener.Frames.{receives_all}
use Rattle.wl_buses.proofs.one_listener.laws.a_listener_receives_all_frames.Goals as goal

pub returns : goal.returns
returns c = λ s frames count way chase more are room mute all can content wins setup segments empty levels node run finds rest since begins first early.
    (let m : MachineLaws = record {
      steps = c.machines_stay_in_step.ensures.step;
      errors = c.machines_stay_in_step.ensures.errors;
      winner = c.the_least_field_wins.ensures;
      stuffed = c.a_transmitter_sends_its_head_stuffed.ensures.sent;
      found = c.a_transmitter_sends_its_head_stuffed.ensures.found;
      six = c.a_front_of_no_stuffing_ends_six_equal_bits.ensures;
      ten = c.ten_bits_have_an_edge.ensures.ten;
      driven = c.driven_laws.ensures;
    } in
    receives_all m c.nothing_is_found_before_a_frame.ensures c.all_may_begin_again.ensures.rests c.stations_rest_after_a_frame.ensures.free c.a_node_waits_for_the_next_frame.ensures
    c.a_node_that_finds_its_end_goes_through_the_next_frame.ensures c.a_frame_passes_a_node_that_finds_its_end.ensures c.nothing_passes_a_waiting_node.ensures
    s are room mute frames count all way chase more can content wins setup segments empty levels node run finds rest since begins first early)
