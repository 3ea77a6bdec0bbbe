use Rattle.wl_buses.proofs.FrameEnd.Below.{MachineLaws}
use Rattle.wl_buses.proofs.TakesPart.Forward.{other_forward, own_forward}
use Rattle.wl_buses.proofs.takes_part.laws.a_frame_begins_before_later_ones.Goals as goal

pub returns-clause-own : goal.returns-clause-own
returns-clause-own c = λ s frames count are room all n k bit i low less inside.
    (let m : MachineLaws = record {
      steps = c.machines_stay_in_step.ensures.step;
      errors = c.machines_stay_in_step.ensures.errors;
      winner = c.the_least_field_wins.ensures;
      stuffed = c.a_transmitter_sends_its_head_stuffed.ensures.sent;
      found = c.a_transmitter_sends_its_head_stuffed.ensures.found;
      six = c.a_front_of_no_stuffing_ends_six_equal_bits.ensures;
      ten = c.ten_bits_have_an_edge.ensures.ten;
      driven = c.driven_laws.ensures;
    } in
    own_forward m c.each_frame_ends_later.ensures.grows s are room frames count all n k bit i low less inside)

pub returns-clause-other : goal.returns-clause-other
returns-clause-other c = λ s frames count are room all n k bit i j low less inside there apart.
    (let m : MachineLaws = record {
      steps = c.machines_stay_in_step.ensures.step;
      errors = c.machines_stay_in_step.ensures.errors;
      winner = c.the_least_field_wins.ensures;
      stuffed = c.a_transmitter_sends_its_head_stuffed.ensures.sent;
      found = c.a_transmitter_sends_its_head_stuffed.ensures.found;
      six = c.a_front_of_no_stuffing_ends_six_equal_bits.ensures;
      ten = c.ten_bits_have_an_edge.ensures.ten;
      driven = c.driven_laws.ensures;
    } in
    other_forward m c.each_frame_ends_later.ensures.grows s are room frames count all n k bit i j low less inside there apart)
