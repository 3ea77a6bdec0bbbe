use Rattle.wl_buses.proofs.FrameEnd.Below.{MachineLaws}
use Rattle.wl_buses.proofs.NextFrames.LineGoing.{line_goes}
use Rattle.wl_buses.proofs.next_frames.lines.a_line_goes_from_frame_to_frame.Goals as goal

pub returns : goal.returns
returns c = λ l setups s frames count stop line are room all some begin before.
    (let m : MachineLaws = record {
      steps = c.machines_stay_in_step.ensures.step;
      errors = c.machines_stay_in_step.ensures.errors;
      winner = c.the_least_field_wins.ensures;
      stuffed = c.a_transmitter_sends_its_head_stuffed.ensures.sent;
      found = c.a_transmitter_sends_its_head_stuffed.ensures.found;
      six = c.a_front_of_no_stuffing_ends_six_equal_bits.ensures;
      ten = c.ten_bits_have_an_edge.ensures.ten;
      driven = c.driven_laws.ensures;
    } in
    line_goes m c.nothing_is_found_before_a_frame.ensures
    (λ s a b are room f next. c.stations_rest_after_a_frame.ensures.rest s a.outset a.bits f.chase next.which next.decides are room f.outset f.ends f.won f.answer f.room next.more)
    c.machines_answer_as_asked.ensures c.a_node_goes_from_frame_to_frame.ensures l setups s line are room frames count all some begin c.what_is_expected_is_driven.ensures.driven
    c.what_is_expected_is_driven.ensures.seen stop before)
