use Rattle.std.proofs.Common.{◌≡◌, ◌∙◌, ap, ℕ, suc, ◌<◌, ◌++◌, arith}
use Rattle.wl_buses.specs.FirstFrame.Faults.{fault_count}
use Rattle.wl_buses.specs.FirstFrame.FirstStarts.{rest_first}
use Rattle.wl_buses.specs.NextFrames.Frames.{third_sample}
use Rattle.wl_buses.specs.OneListener.Beside.{with_listener}
use Rattle.wl_buses.specs.OneListener.Frames.{received_with, waiting_with}
use Rattle.wl_buses.proofs.FrameEnd.Below.{MachineLaws}
use Rattle.wl_buses.proofs.OneListener.Frames.{finds_first, receives_all}
use Rattle.wl_buses.proofs.OneListener.PoweredUp.{begun_by}
use Rattle.wl_buses.proofs.one_listener.laws.a_listener_receives_all_frames_from_its_power_up.Goals as goal

pub returns : goal.returns
returns c = λ s w frames count way chase more are room mute all can content wins some outset idle setups hand segments empty levels node run finds.
    (let m : MachineLaws = record {
      steps = c.machines_stay_in_step.ensures.step;
      errors = c.machines_stay_in_step.ensures.errors;
      winner = c.the_least_field_wins.ensures;
      stuffed = c.a_transmitter_sends_its_head_stuffed.ensures.sent;
      found = c.a_transmitter_sends_its_head_stuffed.ensures.found;
      six = c.a_front_of_no_stuffing_ends_six_equal_bits.ensures;
      ten = c.ten_bits_have_an_edge.ensures.ten;
      driven = c.driven_laws.ensures;
    } in
    let rest : ℕ = rest_first (waiting_with s w) s.count in
    let b =
    begun_by c.idle_machines_may_begin_together.ensures c.nothing_is_found_before_a_frame.ensures c.an_edge_moves_the_sample.ensures c.no_edge_counts_then.ensures c.a_station_begins_its_bits.ensures
    s w are room idle setups hand (c.idle_stations_begin_a_first_frame.ensures.outset (waiting_with s w) are.line idle)
    (c.idle_stations_begin_a_first_frame.ensures.after (waiting_with s w) are.line idle s.count (omega arith)) segments levels node run (frames 0).bits (frames 0).outset outset (all.each 0 some).ends.none
    (finds_first m c.nothing_is_found_before_a_frame.ensures c.all_may_begin_again.ensures.rests c.stations_rest_after_a_frame.ensures.free c.a_node_waits_for_the_next_frame.ensures
    c.a_node_that_finds_its_end_goes_through_the_next_frame.ensures c.a_frame_passes_a_node_that_finds_its_end.ensures c.nothing_passes_a_waiting_node.ensures
    s are room mute frames count all way chase more can content wins (setups s.count) segments empty levels node run finds some) in
    let r =
    receives_all m c.nothing_is_found_before_a_frame.ensures c.all_may_begin_again.ensures.rests c.stations_rest_after_a_frame.ensures.free c.a_node_waits_for_the_next_frame.ensures
    c.a_node_that_finds_its_end_goes_through_the_next_frame.ensures c.a_frame_passes_a_node_that_finds_its_end.ensures c.nothing_passes_a_waiting_node.ensures
    s are room mute frames count all way chase more can content wins (setups s.count) segments empty levels node run finds rest 0 b.after b.rests (omega arith) in
    let faults : (n : ℕ) → n < count → fault_count (node (suc (third_sample (with_listener s) (frames n) s.count))) ≡ 0 = (λ n less. r.faults n less ∙ b.untouched.2) in
    record {
      goes = r.goes;
      received = λ n less. r.received n less ∙ ap (λ old. old ++ received_with s frames content (suc n)) b.untouched.0;
      errors = λ n less. r.errors n less ∙ b.untouched.1;
      faults = faults;
      counters = λ n less. (c.what_is_found_stays.ensures.counters (node (suc (third_sample (with_listener s) (frames n) s.count))) (faults n less)).1;
    })
