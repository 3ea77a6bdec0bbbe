use Rattle.std.proofs.Common.{◌≡◌, ◌<◌, ◌≤◌, ℕ, suc, ◌+◌, arith}
use Rattle.wl_level.specs.Levels.{level_of}
use Rattle.wl_segments.specs.Lengths.{sample_at}
use Rattle.wl_buses.specs.OneFrame.Expected.{expected_sample}
use Rattle.wl_buses.specs.OneFrame.Nodes.{IsInBit}
use Rattle.wl_buses.specs.FrameEnd.Finds.{finds_at}
use Rattle.wl_buses.specs.FrameEnd.Third.{NodeEndsInThird}
use Rattle.wl_buses.proofs.FrameEnd.Below.{MachineLaws}
use Rattle.wl_buses.proofs.FrameEnd.Placing.{samples_up}
use Rattle.wl_buses.proofs.NextFrames.Beginning.{rest_early}
use Rattle.wl_buses.proofs.NextFrames.Through.{finds_early, next_at, to_the_end}
use Rattle.wl_buses.proofs.third_bit.laws.a_node_goes_from_third_bit_to_third_bit.Goals as goal

pub returns-clause-third : goal.returns-clause-third
returns-clause-third c = λ s o end are room is some ends won i rest since setup levels node inside hears segments run after rests early hands finds.
    (let m : MachineLaws = record {
      steps = c.machines_stay_in_step.ensures.step;
      errors = c.machines_stay_in_step.ensures.errors;
      winner = c.the_least_field_wins.ensures;
      stuffed = c.a_transmitter_sends_its_head_stuffed.ensures.sent;
      found = c.a_transmitter_sends_its_head_stuffed.ensures.found;
      six = c.a_front_of_no_stuffing_ends_six_equal_bits.ensures;
      ten = c.ten_bits_have_an_edge.ensures.ten;
      driven = c.driven_laws.ensures;
    } in
    let by_end = samples_up m s are room o is end ends.none ends.there won 0 end i inside (omega arith) in
    let begins = c.a_node_in_its_third_bit_begins_the_next_frame.ensures s o end i rest since setup levels node are room is some ends.none inside segments run after rests early hands
    (λ q more less. finds_early m c.a_node_goes_as_expected.ensures s are room o is end ends.none ends.there won i inside hears setup segments levels node run since (rest + sample_at (s.lengths i)) 11 (omega arith) finds q more (omega arith)) in
    let to_third : ((n q : ℕ) → suc n ≡ end → expected_sample s o n i < q → q ≤ expected_sample s o (end + 11) i → levels q ≡ level_of (finds_at s o end i q)) → ((n : ℕ) → suc n ≡ end → IsInBit s o i levels node n)
    → NodeEndsInThird s o end won.station i won.frame levels node =
    λ f b. c.a_node_goes_to_its_third_bit.ensures s o end are room is ends won i setup levels node inside hears segments run f b in
    record {
      begins = begins;
      next = next_at m c.a_node_goes_as_expected.ensures s are room o is end ends.none ends.there won i inside hears setup segments levels node run since (rest + sample_at (s.lengths i)) 11 (omega arith) finds
          (rest_early s o i rest after (is.begin i inside)) begins (NodeEndsInThird s o end won.station i won.frame levels node) to_third (λ e. e.next);
      ends = to_the_end m c.a_node_goes_as_expected.ensures s are room o is end ends.none ends.there won i inside hears setup segments levels node run since (rest + sample_at (s.lengths i)) 11 (omega arith) finds
          (rest_early s o i rest after (is.begin i inside)) begins (NodeEndsInThird s o end won.station i won.frame levels node) to_third (λ e. e.next);
    })

pub returns-clause-rests : goal.returns-clause-rests
returns-clause-rests c = λ s o end are room is some ends won i rest since setup levels node inside hears segments run after rests early finds.
    (let m : MachineLaws = record {
      steps = c.machines_stay_in_step.ensures.step;
      errors = c.machines_stay_in_step.ensures.errors;
      winner = c.the_least_field_wins.ensures;
      stuffed = c.a_transmitter_sends_its_head_stuffed.ensures.sent;
      found = c.a_transmitter_sends_its_head_stuffed.ensures.found;
      six = c.a_front_of_no_stuffing_ends_six_equal_bits.ensures;
      ten = c.ten_bits_have_an_edge.ensures.ten;
      driven = c.driven_laws.ensures;
    } in
    let by_end = samples_up m s are room o is end ends.none ends.there won 0 end i inside (omega arith) in
    let begins = c.a_node_begins_the_next_frame.ensures s o end i rest since setup levels node are room is some ends.none inside segments run after rests early
    (λ q more less. finds_early m c.a_node_goes_as_expected.ensures s are room o is end ends.none ends.there won i inside hears setup segments levels node run since (rest + sample_at (s.lengths i)) 11 (omega arith) finds q more (omega arith)) in
    let to_third : ((n q : ℕ) → suc n ≡ end → expected_sample s o n i < q → q ≤ expected_sample s o (end + 11) i → levels q ≡ level_of (finds_at s o end i q)) → ((n : ℕ) → suc n ≡ end → IsInBit s o i levels node n)
    → NodeEndsInThird s o end won.station i won.frame levels node =
    λ f b. c.a_node_goes_to_its_third_bit.ensures s o end are room is ends won i setup levels node inside hears segments run f b in
    record {
      begins = begins;
      next = next_at m c.a_node_goes_as_expected.ensures s are room o is end ends.none ends.there won i inside hears setup segments levels node run since (rest + sample_at (s.lengths i)) 11 (omega arith) finds
          (rest_early s o i rest after (is.begin i inside)) begins (NodeEndsInThird s o end won.station i won.frame levels node) to_third (λ e. e.next);
      ends = to_the_end m c.a_node_goes_as_expected.ensures s are room o is end ends.none ends.there won i inside hears setup segments levels node run since (rest + sample_at (s.lengths i)) 11 (omega arith) finds
          (rest_early s o i rest after (is.begin i inside)) begins (NodeEndsInThird s o end won.station i won.frame levels node) to_third (λ e. e.next);
    })
