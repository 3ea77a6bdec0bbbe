use Rattle.wl_plan.specs.PlanLine.{line_of, setup_at}
use Rattle.wl_buses.specs.OneFrame.Stations.{AreStations}
use Rattle.wl_buses.proofs.OneFrame.Plans.{line_of_plan}
use Rattle.wl_buses.specs.FirstFrame.FirstFrames.{outset_of, waiting_of}
use Rattle.wl_buses.specs.FirstFrame.FirstStarts.{rest_first}
use Rattle.wl_buses.proofs.frame_end.first.the_first_frame_gets_through.Goals as goal

pub returns : goal.returns
returns c = λ plan queues s bus chase of calm bus_of sound answers has.
    (let on = c.a_plan_is_on_a_line.ensures plan s of in
    let are : AreStations s = record { line = on; ways = c.a_sound_bus_has_room.ensures.ways bus s on bus_of } in
    let room = c.a_sound_bus_has_room.ensures.room bus s on bus_of sound in
    let line = line_of_plan c.checked_is_sound.ensures plan s of calm in
    let idle = c.a_plan_has_a_first_frame.ensures.idle plan queues s of has in
    let hands = c.a_plan_has_a_first_frame.ensures.hands plan queues s of has.has.begin in
    let w = waiting_of plan queues s in
    let o = outset_of plan queues s in
    let is = c.idle_stations_begin_a_first_frame.ensures.outset w on idle in
    let bits = c.the_stuffed_part_ends.ensures s o are room is in
    record {
      bits = bits.0;
      stuffed = bits.1;
      ends = λ stop before. c.a_plan_goes_to_the_end.ensures.ends plan s bus o (rest_first w) chase bits.0 stop of calm bus_of sound answers is
          (record { none = bits.1.going; there = bits.1.over })
          (c.idle_stations_begin_a_first_frame.ensures.after w on idle)
          (λ i inside. c.nodes_rest_before_a_first_frame.ensures (line_of plan) (setup_at plan) w bits.0 i line are room idle hands bits.1.going inside)
          before;
    })
