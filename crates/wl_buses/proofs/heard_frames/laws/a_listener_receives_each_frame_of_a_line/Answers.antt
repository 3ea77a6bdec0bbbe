use Rattle.std.proofs.Common.{◌∙◌, refl, sym}
use Rattle.wl_buses.specs.HeardFrames.Joined.{JoinsFrames, on_line}
use Rattle.wl_buses.specs.OneListener.Frames.{ReceivesFromPowerUp}
use Rattle.wl_buses.proofs.FrameEnd.Below.{MachineLaws}
use Rattle.wl_buses.proofs.OneFrame.Lines.{run_of}
use Rattle.wl_buses.proofs.HeardFrames.Listening.{heard_levels, heard_node, receives_each}
use Rattle.wl_buses.proofs.heard_frames.laws.a_listener_receives_each_frame_of_a_line.Goals as goal

pub returns : goal.returns
returns c = λ l setups s delay way late w frames count chase more content are room follow wins some first may hand on others.
    (let m : MachineLaws = record {
      steps = c.machines_stay_in_step.ensures.step;
      errors = c.machines_stay_in_step.ensures.errors;
      winner = c.the_least_field_wins.ensures;
      stuffed = c.a_transmitter_sends_its_head_stuffed.ensures.sent;
      found = c.a_transmitter_sends_its_head_stuffed.ensures.found;
      six = c.a_front_of_no_stuffing_ends_six_equal_bits.ensures;
      ten = c.ten_bits_have_an_edge.ensures.ten;
      driven = c.driven_laws.ensures;
    } in
    let found = c.what_is_found_stays.ensures in
    let j : JoinsFrames s delay way late w frames count chase content = c.a_listener_joins_frames.ensures s delay way late w frames count chase more content are room follow wins first may in
    let got : ReceivesFromPowerUp (on_line s delay way) j.joined count j.are content (setups s.count) (heard_levels (on_line s delay way) j.joined count) (heard_node (setups s.count) (on_line s delay way) j.joined count) =
    c.a_listener_receives_all_frames_from_its_power_up.ensures (on_line s delay way) w j.joined count late chase j.more may.are may.room may.mute j.are j.can content j.wins some j.first may.idle setups hand on.segments
    on.queue (heard_levels (on_line s delay way) j.joined count) (heard_node (setups s.count) (on_line s delay way) j.joined count)
    (run_of (setups s.count) (heard_levels (on_line s delay way) j.joined count)) (λ n q less by. refl) in (
      j,
      receives_each m c.nothing_is_found_before_a_frame.ensures c.all_may_begin_again.ensures.rests c.stations_rest_after_a_frame.ensures.free c.a_node_waits_for_the_next_frame.ensures
          c.a_node_that_finds_its_end_goes_through_the_next_frame.ensures c.a_frame_passes_a_node_that_finds_its_end.ensures c.nothing_passes_a_waiting_node.ensures c.machines_answer_as_asked.ensures
          c.a_node_rests_for_ever.ensures c.simulation_laws.ensures found.faults found.frames found.counters l (on_line s delay way) (setups s.count) on may.are may.room may.mute may.two j.joined count some j.are late chase
          j.more j.can content j.wins got (λ i t inside below. others i t inside below ∙ sym (j.drove i t inside)),
    ))
