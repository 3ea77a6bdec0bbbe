use Rattle.std.proofs.Common.{◌≡◌, ◌∙◌, ℕ, ◌+◌, ◌*◌, ◌<◌, arith}
use Rattle.wl_segments.specs.Lengths.{bit_quanta}
use Rattle.wl_phase.specs.Clocks.{steady_tick}
use Rattle.wl_buses.specs.OneFrame.Expected.{IsOutset, Outset, expected_bits, expected_sample}
use Rattle.wl_buses.specs.OneFrame.Machines.{HasWon}
use Rattle.wl_buses.specs.OneFrame.Stations.{AreStations, HaveRoom, Stations}
use Rattle.wl_buses.specs.FrameEnd.Asked.{EndsBefore}
use Rattle.wl_buses.specs.ThirdBit.ThirdStarts.{is_in_third}
use Rattle.wl_buses.proofs.FrameEnd.Below.{MachineLaws}
use Rattle.wl_buses.proofs.FrameEnd.Placing.{last_place, second_place}
use Rattle.wl_buses.proofs.ThirdBit.After.{all_rest, decides_later, inside_third, reached_new}
use Rattle.wl_buses.proofs.third_bit.laws.stations_are_in_the_third_bit_or_rest_after_a_frame.Goals as goal

-- the third bit of the intermission begins a bit after the second one
third_after : MachineLaws → (s : Stations) (o : Outset) (end : ℕ) → AreStations s → HaveRoom s → IsOutset s o → EndsBefore s o end → HasWon s (expected_bits s o) o.frames end
    → (i : ℕ) → (expected_bits s o (end + 12)).place i ≡ (expected_bits s o (end + 11)).place i + bit_quanta (s.lengths i)
third_after m s o end are room is ends won i =
    let a = last_place m s are room o is end ends.none ends.there won i in
    let b = second_place m s are room o is end ends.none ends.there won i in
    omega arith

pub returns-clause-rest : goal.returns-clause-rest
returns-clause-rest c = λ s o end chase which decides are room is ends won can more.
    (let m : MachineLaws = record {
      steps = c.machines_stay_in_step.ensures.step;
      errors = c.machines_stay_in_step.ensures.errors;
      winner = c.the_least_field_wins.ensures;
      stuffed = c.a_transmitter_sends_its_head_stuffed.ensures.sent;
      found = c.a_transmitter_sends_its_head_stuffed.ensures.found;
      six = c.a_front_of_no_stuffing_ends_six_equal_bits.ensures;
      ten = c.ten_bits_have_an_edge.ensures.ten;
      driven = c.driven_laws.ensures;
    } in
    all_rest s are o is.frames end which decides (third_after m s o end are room is ends won)
    (λ i k inside there. c.the_next_frame_finds_all_in_the_third_bit.ensures s o end chase are room is ends won can i k inside there) more)

pub returns-clause-free : goal.returns-clause-free
returns-clause-free c = λ s o end chase which decides are room is ends won can more.
    (let m : MachineLaws = record {
      steps = c.machines_stay_in_step.ensures.step;
      errors = c.machines_stay_in_step.ensures.errors;
      winner = c.the_least_field_wins.ensures;
      stuffed = c.a_transmitter_sends_its_head_stuffed.ensures.sent;
      found = c.a_transmitter_sends_its_head_stuffed.ensures.found;
      six = c.a_front_of_no_stuffing_ends_six_equal_bits.ensures;
      ten = c.ten_bits_have_an_edge.ensures.ten;
      driven = c.driven_laws.ensures;
    } in
    let places = third_after m s o end are room is ends won in
    let second : (i k : ℕ) → i < s.count → k < s.count → steady_tick (s.clocks i) (expected_sample s o (end + 11) i)
    < steady_tick (s.clocks k) ((expected_bits s o (end + 12)).place k + bit_quanta (s.lengths k)) + s.delay k i =
    λ i k inside there. c.the_next_frame_finds_all_in_the_third_bit.ensures s o end chase are room is ends won can i k inside there in
    record {
      free = c.stations_rest_after_a_frame.ensures.free s o end are room is ends won;
      together = λ handed active. c.all_may_begin_from_the_third_bit.ensures s o end are room is ends won handed active (is_in_third s o end which decides);
      inside = inside_third s are o is.frames end which decides places second more;
      decides = decides_later s are o is.frames end which decides places second more;
      reached = reached_new s are o is.frames end which decides places second more;
    })
