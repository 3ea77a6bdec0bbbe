use Rattle.std.proofs.Common.{◌≤◌, length, arith}
use Rattle.wl_bound.specs.Conditions.{plain}
use Rattle.wl_bound.specs.Rooms.{plain_bus}
use Rattle.wl_buses.specs.FamilyPlans.FamilyStations.{stations_of}
use Rattle.wl_plan.specs.PlanLine.{setup_at}
use Rattle.wl_proved.proofs.Early as early
use Rattle.wl_proved.proofs.Emptied.{all_empty}
use Rattle.wl_proved.proofs.Queues.{of_each, stuffed_of, stuffs_of}
use Rattle.wl_frame.specs.Grammar.{IsContent, bits_of}
use Rattle.wl_frame.specs.Stuffing.{Stuffs}
use Rattle.wl_buses.specs.OneSender.Clean.{bus_with}
use Rattle.wl_buses.specs.OneSender.Through.{AreFrames}
use Rattle.wl_proved.proofs.Paced as paced
use Rattle.wl_proved.proofs.laws.a_late_end_leaves_no_frame.Goals as goal

pub returns-clause-any : goal.returns-clause-any
returns-clause-any c = λ f plan of none room late.
    (let steady = c.a_covered_plan_is_one_of_these.ensures.steady plan (paced.clocks f plan of) of.covered of.runs.checked (paced.rates f plan of) (paced.book f plan of) in
    let family = paced.of_family f plan of in
    let speaks = c.a_covered_plan_has_first_frames.ensures.speaks plan of.covered in
    let is = c.a_plan_has_stations.ensures.plan f plan (paced.clocks f plan of) steady family speaks in
    let bus = c.a_plan_has_stations.ensures.bus f plan (paced.clocks f plan of) family speaks in
    let line = c.a_plan_is_on_a_line.ensures plan (stations_of f plan (paced.clocks f plan of)) is in
    let ways = c.a_sound_bus_has_room.ensures.ways (plain_bus f) (stations_of f plan (paced.clocks f plan of)) line bus in
    let has_room = c.a_sound_bus_has_room.ensures.room (plain_bus f) (stations_of f plan (paced.clocks f plan of)) line bus ((c.condition_laws.ensures.any f plain).0 none) in
    let first = c.a_covered_plan_has_first_frames.ensures.first f plan (paced.clocks f plan of) steady family of.covered of.inside of.runs.frames of.senders in
    let all = c.any_senders_are_clean.ensures.covered f plan (paced.clocks f plan of) steady family of.runs.frames of.senders (paced.for_any_senders f plan of none) of.covered room in
    all_empty c.simulation_laws.ensures plan (stations_of f plan (paced.clocks f plan of)) is late (c.checked_is_sound.ensures plan of.runs.checked).causal all first
    (λ n bit i less inside. c.each_frame_ends_later.ensures.grows (stations_of f plan (paced.clocks f plan of)) all.bus.frames all.bus.count (record { line = line; ways = ways }) has_room all.bus.are n bit i
    less inside))

pub returns-clause-one : goal.returns-clause-one
returns-clause-one c = λ f plan sender of lone sound late.
    (let steady = c.a_covered_plan_is_one_of_these.ensures.steady plan (paced.clocks f plan of) of.covered of.runs.checked (paced.rates f plan of) (paced.book f plan of) in
    let family = paced.of_family f plan of in
    let speaks = c.a_covered_plan_has_first_frames.ensures.speaks plan of.covered in
    let is = c.a_plan_has_stations.ensures.plan f plan (paced.clocks f plan of) steady family speaks in
    let node = paced.node f plan of sender lone in
    let waiting = paced.waiting f plan of sender lone in
    let one = c.a_covered_plan_is_one_of_these.ensures.sender plan sender waiting.0 waiting.1 of.covered node waiting.2 (λ j inside other. lone j other) in
    let members = of.members in
    let bus = c.a_covered_plan_is_one_of_these.ensures.sound f sender sound (omega arith) (of.senders sender node (paced.has f plan of sender lone)) in
    let contents = of.runs.frames sender node in
    let frames : AreFrames (bus_with plan (paced.clocks f plan of) sender one stuffed_of) stuffed_of (λ n. late.bits) = record {
      content = λ place frame is. of_each IsContent (setup_at plan sender).queue contents place frame is;
      stuffs = λ place frame is. stuffs_of frame;
      short = λ n frame may.
          of_each (λ q. Stuffs (stuffed_of frame) (bits_of q) → length (stuffed_of frame) ≤ late.bits) (setup_at plan sender).queue (late.frames sender (stuffed_of frame) node) may.some.0 frame may.some.1
          (stuffs_of frame);
    } in
    let through = c.one_sender_is_clean.ensures f plan (paced.clocks f plan of) sender one stuffed_of (λ n. late.bits) steady family frames bus in
    early.all_empty c.simulation_laws.ensures plan (stations_of f plan (paced.clocks f plan of)) is late (c.checked_is_sound.ensures plan of.runs.checked).causal (paced.clocks f plan of) sender one lone
    stuffed_of through)
