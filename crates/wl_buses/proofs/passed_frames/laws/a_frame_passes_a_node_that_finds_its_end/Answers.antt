use Rattle.std.proofs.Common.{◌≡◌, ◌∙◌, sym, ap, length, Some}
use Rattle.wl_frame.specs.Grammar.{is_crc_right}
use Rattle.wl_frame.specs.Stuffing.{destuffed_bits}
use Rattle.wl_buses.specs.OneFrame.Expected.{expected_bits}
use Rattle.wl_buses.specs.OneFrame.Machines.{bus_levels}
use Rattle.wl_buses.specs.FrameEnd.Asked.{begun_frame}
use Rattle.wl_buses.proofs.FrameEnd.Below.{MachineLaws}
use Rattle.wl_buses.proofs.PassedFrames.Passed.{passes_one}
use Rattle.wl_buses.proofs.passed_frames.laws.a_frame_passes_a_node_that_finds_its_end.Goals as goal
use Rattle.wl_buses.proofs.OneFrame.Machines.{levels_length}

pub returns : goal.returns
returns c = λ s o end are room is some ends won i rest since setup levels node inside hears segments run after rests early finds.
    (let m : MachineLaws = record {
      steps = c.machines_stay_in_step.ensures.step;
      errors = c.machines_stay_in_step.ensures.errors;
      winner = c.the_least_field_wins.ensures;
      stuffed = c.a_transmitter_sends_its_head_stuffed.ensures.sent;
      found = c.a_transmitter_sends_its_head_stuffed.ensures.found;
      six = c.a_front_of_no_stuffing_ends_six_equal_bits.ensures;
      ten = c.ten_bits_have_an_edge.ensures.ten;
      driven = c.driven_laws.ensures;
    } in
    let asked = c.machines_answer_as_asked.ensures s o end are room is ends won in
    let long : end ≡ length (bus_levels s (expected_bits s o) end) = sym (levels_length s (expected_bits s o) end) in
    passes_one m c.an_edge_moves_the_sample.ensures c.no_edge_counts_then.ensures s are room o is end some ends.none ends.there won asked i inside hears
    setup segments levels node run since rest after rests finds
    (λ n seen less sees has. (c.bit_clocks_go_as_expected.ensures s o end i seen are room is ends.none inside n less sees has).0)
    (λ place n seen small at sees has. (c.bit_clocks_go_to_the_end.ensures s o end are room is ends won place n i seen small at inside hears sees has).0)
    (λ place z below e. c.a_machine_ends_its_frame.ensures.goes (begun_frame s o end i) (bus_levels s (expected_bits s o) end) place z
    (ends.there ∙ ap Some (sym (levels_length s (expected_bits s o) end)))
    (ap (λ n. is_crc_right (destuffed_bits (bus_levels s (expected_bits s o) end) n)) (levels_length s (expected_bits s o) end) ∙ asked.crc) below e)
    (λ q by unreached. c.nothing_is_found_before_a_frame.ensures s o end i q are room is ends.none inside by unreached)
    (c.a_node_that_finds_its_end_goes_through_the_next_frame.ensures s o end are room is some ends won i rest since setup levels node inside hears segments run after rests early finds))
