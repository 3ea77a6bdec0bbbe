use Rattle.std.proofs.Common.{◌⊎◌, inl, inr, suc, ◌+◌, arith}
use Rattle.wl_segments.specs.Lengths.{sample_at}
use Rattle.wl_buses.specs.FirstFrame.FirstStarts.{rest_first}
use Rattle.wl_buses.proofs.FrameEnd.Below.{MachineLaws}
use Rattle.wl_buses.specs.NextFrames.Lines.{IsBeforeLast, LineGoes}
use Rattle.wl_buses.specs.NextFrames.Silence.{LineFallsSilent}
use Rattle.wl_buses.specs.CleanLines.Lines.{EmptyEachQueue}
use Rattle.wl_buses.proofs.CleanLines.Through.{all_sent, handed_as, through}
use Rattle.wl_buses.proofs.NextFrames.PoweredUp.{nothing_passed}
use Rattle.wl_buses.proofs.SentFrames.Planned.{line_sends}
use Rattle.wl_buses.proofs.clean_lines.laws.all_frames_of_a_line_get_through.Goals as goal

pub returns : goal.returns
returns c = λ l setups w chase up are room enough.
    (let m : MachineLaws = record {
      steps = c.machines_stay_in_step.ensures.step;
      errors = c.machines_stay_in_step.ensures.errors;
      winner = c.the_least_field_wins.ensures;
      stuffed = c.a_transmitter_sends_its_head_stuffed.ensures.sent;
      found = c.a_transmitter_sends_its_head_stuffed.ensures.found;
      six = c.a_front_of_no_stuffing_ends_six_equal_bits.ensures;
      ten = c.ten_bits_have_an_edge.ensures.ten;
      driven = c.driven_laws.ensures;
    } in
    let found = c.what_is_found_stays.ensures in
    let x = c.the_frames_of_a_line.ensures setups w chase l.stop are room enough up.idle up.hands up.queues in
    let f = x.bus in
    let sends =
    line_sends m c.nothing_is_found_before_a_frame.ensures
    (λ s a b are room f next. c.stations_rest_after_a_frame.ensures.rest s a.outset a.bits f.chase next.which next.decides are room f.outset f.ends f.won f.answer f.room next.more)
    c.idle_stations_begin_a_first_frame.ensures.after c.nodes_rest_before_a_first_frame.ensures c.a_queue_hands_all_its_frames.ensures c.the_winner_sends_its_next_frame.ensures.first
    c.the_winner_sends_its_next_frame.ensures.queued l setups w up.line are room up.idle up.hands up.queues f.frames f.count f.are f.some f.first f.by
    (λ i inside. (let none =
    nothing_passed m c.nothing_is_found_before_a_frame.ensures
    (λ s a b are room f next. c.stations_rest_after_a_frame.ensures.rest s a.outset a.bits f.chase next.which next.decides are room f.outset f.ends f.won f.answer f.room next.more)
    c.idle_stations_begin_a_first_frame.ensures.after c.nothing_passes_before_a_first_frame.ensures.line l setups w up.line are room up.idle up.hands f.frames f.count f.are f.some f.first i inside
    (suc (rest_first w i + sample_at (w.stations.lengths i))) (omega arith) in
    (none.0, none.2))) in
    let ends : IsBeforeLast l w.stations f.frames f.count l.stop ⊎ EmptyEachQueue setups w f =
    elim x.ends [
      | inl all ↦ inl (record {
        inside = omega arith;
        sampled = λ i n inside e. (let later = c.each_frame_ends_later.ensures.later w.stations f.frames f.count are room f.are n i (omega arith) inside in omega arith);
      })
      | inr emptied ↦ inr emptied
    ] in
    let silent : EmptyEachQueue setups w f → LineFallsSilent l setups w.stations f.frames f.count f.are l.stop =
    λ emptied. c.a_line_rests_after_its_frames.ensures l setups w.stations f.frames f.count l.stop up.line are room f.are f.some sends.begins
    (all_sent found.faults found.frames found.counters c.each_frame_ends_later.ensures.grows l setups w up.line are room f sends.passes sends.order emptied) (omega arith) in
    let goes : LineGoes l setups w.stations f.frames f.count f.are l.stop =
    elim ends [
      | inl before ↦ c.a_line_goes_from_frame_to_frame.ensures l setups w.stations f.frames f.count l.stop up.line are room f.are f.some sends.begins before
      | inr emptied ↦ (silent emptied).goes
    ] in
    through found.faults found.frames found.counters c.each_frame_ends_later.ensures.grows l setups w up.line are room f sends.passes goes ends silent
    (handed_as c.the_winner_sends_its_next_frame.ensures.first c.the_winner_sends_its_next_frame.ensures.queued setups w are room up.idle up.hands f))
