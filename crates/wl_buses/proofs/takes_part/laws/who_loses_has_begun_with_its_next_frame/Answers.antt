use Rattle.wl_buses.proofs.FrameEnd.Below.{MachineLaws}
use Rattle.wl_buses.proofs.TakesPart.Losing.{LosesLaw, first_loses, loses, next_loses}
use Rattle.wl_buses.proofs.takes_part.laws.who_loses_has_begun_with_its_next_frame.Goals as goal

law : goal.After-stations_rest_after_a_frame → LosesLaw
law c s o end are room is ends won alone k inside apart drives =
    (let m : MachineLaws = record {
      steps = c.machines_stay_in_step.ensures.step;
      errors = c.machines_stay_in_step.ensures.errors;
      winner = c.the_least_field_wins.ensures;
      stuffed = c.a_transmitter_sends_its_head_stuffed.ensures.sent;
      found = c.a_transmitter_sends_its_head_stuffed.ensures.found;
      six = c.a_front_of_no_stuffing_ends_six_equal_bits.ensures;
      ten = c.ten_bits_have_an_edge.ensures.ten;
      driven = c.driven_laws.ensures;
    } in
    loses m c.what_is_expected_is_a_course.ensures c.all_sample_the_same_bits.ensures c.machines_drive_as_a_course_asks.ensures c.machines_answer_as_asked.ensures s o end are room is ends won alone k inside apart
    drives)

pub returns-clause-begun : goal.returns-clause-begun
returns-clause-begun c = law c

pub returns-clause-first : goal.returns-clause-first
returns-clause-first c = λ w f are room idle is first k inside apart drives. first_loses c.idle_machines_may_begin_together.ensures (law c) w f are room is first k inside apart drives

pub returns-clause-next : goal.returns-clause-next
returns-clause-next c = λ s a b are room was is after k inside apart drives.
    next_loses c.idle_machines_may_wait.ensures
    (λ s a b are room f next. c.stations_rest_after_a_frame.ensures.rest s a.outset a.bits f.chase next.which next.decides are room f.outset f.ends f.won f.answer f.room next.more)
    c.stations_rest_after_a_frame.ensures.free (law c) s are room a b was is after k inside apart drives
