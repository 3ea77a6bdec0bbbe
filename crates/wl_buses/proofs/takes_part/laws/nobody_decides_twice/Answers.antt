use Rattle.wl_buses.specs.OneFrame.Expected.{expected_bits}
use Rattle.wl_buses.specs.NextFrames.Frames.{resting_of}
use Rattle.wl_buses.proofs.NextFrames.Winning.{has_begun}
use Rattle.wl_buses.proofs.FrameEnd.Below.{MachineLaws}
use Rattle.wl_buses.proofs.TakesPart.Once.{comes_by, decide_once}
use Rattle.wl_buses.proofs.takes_part.laws.nobody_decides_twice.Goals as goal

pub returns : goal.returns
returns c = λ s a b chase are room for_all decide was next i k inside has now begins.
    (let m : MachineLaws = record {
      steps = c.machines_stay_in_step.ensures.step;
      errors = c.machines_stay_in_step.ensures.errors;
      winner = c.the_least_field_wins.ensures;
      stuffed = c.a_transmitter_sends_its_head_stuffed.ensures.sent;
      found = c.a_transmitter_sends_its_head_stuffed.ensures.found;
      six = c.a_front_of_no_stuffing_ends_six_equal_bits.ensures;
      ten = c.ten_bits_have_an_edge.ensures.ten;
      driven = c.driven_laws.ensures;
    } in
    let won = was.won in
    let may = was.outset.allowed won.station won.inside (has_begun s (expected_bits s a.outset) a.bits won.station won.sends) in
    let can = for_all won.station won.inside may in
    let rests = c.stations_rest_after_a_frame.ensures.rest s a.outset a.bits chase next.which next.decides are room was.outset was.ends won can.0 can.1 next.more in
    decide_once (resting_of s a b next) are.line rests
    (comes_by m s are room a.outset was.outset a.bits was.ends.none was.ends.there won chase can.0.catch can.0.room can.1 (decide won.station won.inside may)) i k inside has now begins)
