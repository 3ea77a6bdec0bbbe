use Rattle.wl_bound.specs.Conditions.{IsSound, plain}
use Rattle.wl_bound.specs.Rooms.{plain_bus}
use Rattle.wl_buses.specs.FamilyPlans.FamilyStations.{stations_of}
use Rattle.wl_buses.specs.FrameTimes.BusTimes.{bus_times}
use Rattle.wl_buses.specs.OneFrame.Stations.{AreStations}
use Rattle.wl_buses.proofs.CleanPlans.Verdicts.{of_verdict}
use Rattle.wl_buses.proofs.FrameTimes.Passing.{pass_in_time}
use Rattle.wl_buses.proofs.frame_times.laws.the_frames_of_a_plan_pass_in_time.Goals as goal

pub returns-clause-plan : goal.returns-clause-plan
returns-clause-plan c = pass_in_time c.a_frame_lasts_no_longer.ensures.passes c.times_add_up.ensures.later

pub returns-clause-covered : goal.returns-clause-covered
returns-clause-covered c = λ f plan clocks steady of contents sends verdict covered room.
    (let s = stations_of f plan clocks in
    let speaks = c.a_covered_plan_has_first_frames.ensures.speaks plan covered in
    let bus = c.a_plan_has_stations.ensures.bus f plan clocks of speaks in
    let line = c.a_plan_is_on_a_line.ensures plan s (c.a_plan_has_stations.ensures.plan f plan clocks steady of speaks) in
    let sound : IsSound (plain_bus f) = (c.condition_laws.ensures.any f plain).0 (of_verdict plan f verdict).1 in
    let are : AreStations s = record { line = line; ways = c.a_sound_bus_has_room.ensures.ways (plain_bus f) s line bus } in
    let all = c.any_senders_are_clean.ensures.covered f plan clocks steady of contents sends verdict covered room in (
      all,
      pass_in_time c.a_frame_lasts_no_longer.ensures.passes c.times_add_up.ensures.later plan s (bus_times (plain_bus f)) are (c.a_sound_bus_has_room.ensures.room (plain_bus f) s line bus sound)
          (c.a_bus_has_times.ensures.exact (plain_bus f) s line bus) all,
    ))
