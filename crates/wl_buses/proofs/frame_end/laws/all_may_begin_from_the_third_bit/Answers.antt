use Rattle.wl_buses.proofs.FrameEnd.Third.{begin_from_third}
use Rattle.wl_buses.proofs.FrameEnd.Below.{MachineLaws}
use Rattle.wl_buses.proofs.frame_end.laws.all_may_begin_from_the_third_bit.Goals as goal

pub returns : goal.returns
returns c = λ s o end are room is stuffed won handed active third.
    (let m : MachineLaws = record {
      steps = c.machines_stay_in_step.ensures.step;
      errors = c.machines_stay_in_step.ensures.errors;
      winner = c.the_least_field_wins.ensures;
      stuffed = c.a_transmitter_sends_its_head_stuffed.ensures.sent;
      found = c.a_transmitter_sends_its_head_stuffed.ensures.found;
      six = c.a_front_of_no_stuffing_ends_six_equal_bits.ensures;
      ten = c.ten_bits_have_an_edge.ensures.ten;
      driven = c.driven_laws.ensures;
    } in
    begin_from_third m s are room o is end stuffed.none stuffed.there won handed third active)
