use Rattle.wl_buses.specs.OneFrame.Stations.{AreStations}
use Rattle.wl_buses.proofs.OneFrame.Plans.{line_of_plan}
use Rattle.wl_plan.specs.PlanLine.{line_of, setup_at}
use Rattle.wl_buses.specs.FirstFrame.FirstFrames.{waiting_of}
use Rattle.wl_buses.proofs.FrameEnd.Below.{MachineLaws}
use Rattle.wl_buses.proofs.NextFrames.PoweredUp.{nothing_passed}
use Rattle.wl_buses.proofs.next_frames.lines.nothing_passes_before_the_frames.Goals as goal

pub returns : goal.returns
returns c = λ plan queues s bus frames count i q of calm bus_of sound has all some first inside by.
    (let m : MachineLaws = record {
      steps = c.machines_stay_in_step.ensures.step;
      errors = c.machines_stay_in_step.ensures.errors;
      winner = c.the_least_field_wins.ensures;
      stuffed = c.a_transmitter_sends_its_head_stuffed.ensures.sent;
      found = c.a_transmitter_sends_its_head_stuffed.ensures.found;
      six = c.a_front_of_no_stuffing_ends_six_equal_bits.ensures;
      ten = c.ten_bits_have_an_edge.ensures.ten;
      driven = c.driven_laws.ensures;
    } in
    let line = c.a_plan_is_on_a_line.ensures plan s of in
    let are : AreStations s = record { line = line; ways = c.a_sound_bus_has_room.ensures.ways bus s line bus_of } in
    nothing_passed m c.nothing_is_found_before_a_frame.ensures
    (λ s a b are room f next. c.stations_rest_after_a_frame.ensures.rest s a.outset a.bits f.chase next.which next.decides are room f.outset f.ends f.won f.answer f.room next.more)
    c.idle_stations_begin_a_first_frame.ensures.after c.nothing_passes_before_a_first_frame.ensures.line (line_of plan) (setup_at plan) (waiting_of plan queues s)
    (line_of_plan c.checked_is_sound.ensures plan s of calm) are (c.a_sound_bus_has_room.ensures.room bus s line bus_of sound) (c.a_plan_has_a_first_frame.ensures.idle plan queues s of has)
    (c.a_plan_has_a_first_frame.ensures.hands plan queues s of has.has.begin) frames count all some first i inside q by)
