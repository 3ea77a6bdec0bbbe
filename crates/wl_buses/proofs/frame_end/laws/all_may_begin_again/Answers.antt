use Rattle.wl_buses.proofs.FrameEnd.Again.{may_begin, rests_again}
use Rattle.wl_buses.proofs.FrameEnd.Below.{MachineLaws}
use Rattle.wl_buses.proofs.frame_end.laws.all_may_begin_again.Goals as goal

pub returns-clause-may : goal.returns-clause-may
returns-clause-may c = λ s o end are room is stuffed won handed active.
    (let m : MachineLaws = record {
      steps = c.machines_stay_in_step.ensures.step;
      errors = c.machines_stay_in_step.ensures.errors;
      winner = c.the_least_field_wins.ensures;
      stuffed = c.a_transmitter_sends_its_head_stuffed.ensures.sent;
      found = c.a_transmitter_sends_its_head_stuffed.ensures.found;
      six = c.a_front_of_no_stuffing_ends_six_equal_bits.ensures;
      ten = c.ten_bits_have_an_edge.ensures.ten;
      driven = c.driven_laws.ensures;
    } in
    may_begin m s are room o is end stuffed.none stuffed.there won handed active)

pub returns-clause-rests : goal.returns-clause-rests
returns-clause-rests c = λ s o end are room is stuffed won handed active i setup levels node inside ends waits.
    (let m : MachineLaws = record {
      steps = c.machines_stay_in_step.ensures.step;
      errors = c.machines_stay_in_step.ensures.errors;
      winner = c.the_least_field_wins.ensures;
      stuffed = c.a_transmitter_sends_its_head_stuffed.ensures.sent;
      found = c.a_transmitter_sends_its_head_stuffed.ensures.found;
      six = c.a_front_of_no_stuffing_ends_six_equal_bits.ensures;
      ten = c.ten_bits_have_an_edge.ensures.ten;
      driven = c.driven_laws.ensures;
    } in
    rests_again m s are room o is end stuffed.none stuffed.there won handed active i inside setup levels node ends waits)
