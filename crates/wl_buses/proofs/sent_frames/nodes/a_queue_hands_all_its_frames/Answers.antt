use Rattle.wl_buses.proofs.FrameEnd.Below.{MachineLaws}
use Rattle.wl_buses.proofs.SentFrames.Handing.{all_passed}
use Rattle.wl_buses.proofs.sent_frames.nodes.a_queue_hands_all_its_frames.Goals as goal

pub returns : goal.returns
returns c = λ s setups frames count are room all by i inside segments levels node run finds rest since begins first early none fine.
    (let m : MachineLaws = record {
      steps = c.machines_stay_in_step.ensures.step;
      errors = c.machines_stay_in_step.ensures.errors;
      winner = c.the_least_field_wins.ensures;
      stuffed = c.a_transmitter_sends_its_head_stuffed.ensures.sent;
      found = c.a_transmitter_sends_its_head_stuffed.ensures.found;
      six = c.a_front_of_no_stuffing_ends_six_equal_bits.ensures;
      ten = c.ten_bits_have_an_edge.ensures.ten;
      driven = c.driven_laws.ensures;
    } in
    all_passed m c.nothing_is_found_before_a_frame.ensures
    (λ s a b are room f next. c.stations_rest_after_a_frame.ensures.rest s a.outset a.bits f.chase next.which next.decides are room f.outset f.ends f.won f.answer f.room next.more)
    c.all_may_begin_again.ensures.rests c.stations_rest_after_a_frame.ensures.free c.a_node_waits_for_the_next_frame.ensures c.a_node_that_finds_its_end_goes_through_the_next_frame.ensures
    c.a_frame_passes_a_node.ensures c.nothing_passes_a_waiting_node.ensures c.what_is_found_stays.ensures.counters
    s are room setups frames count all by i inside segments levels node run finds rest since begins first early none fine)
