use Rattle.wl_buses.proofs.FrameEnd.Below.{MachineLaws}
use Rattle.wl_buses.proofs.OneListener.Same.{expects_the_same}
use Rattle.wl_buses.proofs.one_listener.laws.a_listener_changes_no_expected_bit.Goals as goal

pub returns : goal.returns
returns c = λ s o end are room them two mute is stuffed won unheard.
    (let m : MachineLaws = record {
      steps = c.machines_stay_in_step.ensures.step;
      errors = c.machines_stay_in_step.ensures.errors;
      winner = c.the_least_field_wins.ensures;
      stuffed = c.a_transmitter_sends_its_head_stuffed.ensures.sent;
      found = c.a_transmitter_sends_its_head_stuffed.ensures.found;
      six = c.a_front_of_no_stuffing_ends_six_equal_bits.ensures;
      ten = c.ten_bits_have_an_edge.ensures.ten;
      driven = c.driven_laws.ensures;
    } in
    expects_the_same m s are room them two mute o is end stuffed.none stuffed.there won (λ same. unheard))
