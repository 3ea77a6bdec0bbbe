use Rattle.wl_buses.proofs.FrameEnd.Below.{MachineLaws}
use Rattle.wl_buses.proofs.CleanPlans.Growing.{ends_later, grows}
use Rattle.wl_buses.proofs.clean_plans.laws.each_frame_ends_later.Goals as goal

pub returns-clause-grows : goal.returns-clause-grows
returns-clause-grows c = λ s frames count are room all n bit i less inside.
    (let m : MachineLaws = record {
      steps = c.machines_stay_in_step.ensures.step;
      errors = c.machines_stay_in_step.ensures.errors;
      winner = c.the_least_field_wins.ensures;
      stuffed = c.a_transmitter_sends_its_head_stuffed.ensures.sent;
      found = c.a_transmitter_sends_its_head_stuffed.ensures.found;
      six = c.a_front_of_no_stuffing_ends_six_equal_bits.ensures;
      ten = c.ten_bits_have_an_edge.ensures.ten;
      driven = c.driven_laws.ensures;
    } in
    grows m c.resting_stations_begin_the_next_frame.ensures.after c.stations_rest_after_a_frame.ensures.rest s are room frames count all n bit i less inside)

pub returns-clause-later : goal.returns-clause-later
returns-clause-later c = λ s frames count are room all n i less inside.
    (let m : MachineLaws = record {
      steps = c.machines_stay_in_step.ensures.step;
      errors = c.machines_stay_in_step.ensures.errors;
      winner = c.the_least_field_wins.ensures;
      stuffed = c.a_transmitter_sends_its_head_stuffed.ensures.sent;
      found = c.a_transmitter_sends_its_head_stuffed.ensures.found;
      six = c.a_front_of_no_stuffing_ends_six_equal_bits.ensures;
      ten = c.ten_bits_have_an_edge.ensures.ten;
      driven = c.driven_laws.ensures;
    } in
    ends_later m c.resting_stations_begin_the_next_frame.ensures.after c.stations_rest_after_a_frame.ensures.rest s are room frames count all n i less inside)
