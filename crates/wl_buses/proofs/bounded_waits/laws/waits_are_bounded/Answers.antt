use Rattle.std.proofs.Common.{subst, ℕ, ◌<◌, refl}
use Rattle.wl_counts.specs.Instances.{AreEnoughByInstances}
use Rattle.wl_plan.specs.declared.plan.Plan.{Plan}
use Rattle.wl_plan.specs.PlanLine.{setup_at}
use Rattle.wl_bound.specs.Conditions.{IsSound, plain}
use Rattle.wl_bound.specs.Families.{Bus}
use Rattle.wl_bound.specs.Rooms.{least_chase, plain_bus}
use Rattle.wl_buses.specs.OneFrame.Answers.{HasRoomToAnswer}
use Rattle.wl_buses.specs.OneFrame.Bounds.{HasStations}
use Rattle.wl_buses.specs.OneFrame.Plans.{IsPlanOf}
use Rattle.wl_buses.specs.OneFrame.Stations.{AreStations, HaveRoom, Stations}
use Rattle.wl_buses.specs.FirstFrame.FirstFrames.{HasFirstFrames, queues_of}
use Rattle.wl_buses.specs.FrameEnd.Again.{LeavesRoomToRest}
use Rattle.wl_buses.specs.FrameTimes.BusTimes.{bus_times}
use Rattle.wl_buses.specs.FrameTimes.Times.{TakeNoLonger, Times}
use Rattle.wl_buses.specs.FamilyPlans.FamilyStations.{stations_of}
use Rattle.wl_buses.specs.NextFrames.Frames.{HasRoomForAll}
use Rattle.wl_buses.specs.CleanPlans.PlanFrames.{FramesOfPlan}
use Rattle.wl_buses.specs.TakesPart.Decisions.{AllMayDecide, LeavesRoomToDecide}
use Rattle.wl_buses.specs.BoundedWaits.Bounds.{WaitInQuanta, WaitNoLonger}
use Rattle.wl_buses.specs.BoundedWaits.Messages.{AreReadyLate, BusDelaysNoLonger, DelayNoLonger, Delays, HaveMessages, Messages, terms_of}
use Rattle.wl_buses.specs.BoundedWaits.QueuedFrames.{BlockNoLonger, table_by}
use Rattle.wl_buses.proofs.BoundedWaits.Families.{delays_of, pass_in_time, wait_in_quanta}
use Rattle.wl_buses.proofs.CleanPlans.Verdicts.{of_verdict}
use Rattle.wl_buses.proofs.bounded_waits.laws.waits_are_bounded.Goals as goal

-- who wins is one of the stations
wins : (plan : Plan) (s : Stations) (bus : FramesOfPlan plan s) (n : ℕ) → n < bus.count → bus.by.winner n < s.count
wins plan s bus n less = subst (λ i. i < s.count) (bus.by.wins n less) (bus.are.each n less).won.inside

exact : goal.After-waits_are_bounded_if_frames_last_no_longer → (plan : Plan) (s : Stations) (bus : FramesOfPlan plan s) (t : Times) (ms : Messages) (d : Delays) (chase blocking whole r : ℕ → ℕ) (w : ℕ → ℕ → ℕ)
    → IsPlanOf plan s → AreStations s → HaveRoom s → HasRoomForAll s chase → AllMayDecide s chase → HasFirstFrames plan (queues_of plan) s → TakeNoLonger s t → HaveMessages s (setup_at plan) ms
    → AreReadyLate s (setup_at plan) → DelayNoLonger s t ms d → BlockNoLonger (terms_of t ms d) blocking → AreEnoughByInstances (table_by (terms_of t ms d) blocking r) d.period whole w r → WaitNoLonger plan s bus t ms r
exact c plan s bus t ms d chase blocking whole r w of are room for_all decide has times have late delays blocks enough =
    c.waits_are_bounded_if_frames_last_no_longer.ensures plan s bus t ms d chase blocking whole r w of are room for_all decide has
    (λ f b i inside. c.a_frame_lasts_no_longer.ensures.next s f t are room b times i inside) (λ f b i inside. c.a_frame_lasts_no_longer.ensures.passes s f t are room b times i inside)
    have late delays blocks enough

-- on a bus
in_quanta : goal.After-waits_are_bounded_if_frames_last_no_longer → (plan : Plan) (s : Stations) (bus_of : Bus) (chase : ℕ → ℕ) (bus : FramesOfPlan plan s) (ms : Messages) (d : Delays) (blocking whole r : ℕ → ℕ) (w : ℕ → ℕ → ℕ)
    → IsPlanOf plan s → HasStations bus_of s → IsSound bus_of → HasRoomToAnswer bus_of chase → LeavesRoomToRest bus_of chase
    → LeavesRoomToDecide bus_of chase → HasFirstFrames plan (queues_of plan) s → HaveMessages s (setup_at plan) ms → AreReadyLate s (setup_at plan) → BusDelaysNoLonger bus_of ms d → BlockNoLonger (terms_of (bus_times bus_of) ms d) blocking
    → AreEnoughByInstances (table_by (terms_of (bus_times bus_of) ms d) blocking r) d.period whole w r → WaitInQuanta plan s bus ms bus_of.shortest r
in_quanta c plan s bus_of chase bus ms d blocking whole r w of has_bus sound answer rest decide has have late delays blocks enough =
    let line = c.a_plan_is_on_a_line.ensures plan s of in
    let are : AreStations s = record { line = line; ways = c.a_sound_bus_has_room.ensures.ways bus_of s line has_bus } in
    let room = c.a_sound_bus_has_room.ensures.room bus_of s line has_bus sound in
    let waits =
    exact c plan s bus (bus_times bus_of) ms d chase blocking whole r w of are room (c.a_bus_has_room_for_all.ensures bus_of s chase line has_bus answer rest)
    (c.a_bus_has_room_to_decide.ensures bus_of s chase line has_bus answer decide) has (c.a_bus_has_times.ensures.exact bus_of s line has_bus) have late
    (delays_of bus_of s (bus_times bus_of) line has_bus refl ms d delays) blocks enough in
    wait_in_quanta bus_of plan s bus (bus_times bus_of) line has_bus refl ms r (wins plan s bus) waits

pub returns-clause-plan : goal.returns-clause-plan
returns-clause-plan c = exact c

pub returns-clause-covered : goal.returns-clause-covered
returns-clause-covered c = λ f plan clocks ms d blocking whole r w steady of contents sends verdict covered room decide have late delays blocks enough.
    (let v = of_verdict plan f verdict in
    let s = stations_of f plan clocks in
    let all = c.any_senders_are_clean.ensures.covered f plan clocks steady of contents sends verdict covered room in
    let speaks = c.a_covered_plan_has_first_frames.ensures.speaks plan covered in
    let has_bus = c.a_plan_has_stations.ensures.bus f plan clocks of speaks in
    let waits =
    in_quanta c plan (stations_of f plan clocks) (plain_bus f) (least_chase (plain_bus f)) all.bus ms d blocking whole r w (c.a_plan_has_stations.ensures.plan f plan clocks steady of speaks) has_bus
    ((c.condition_laws.ensures.any f plain).0 v.1) (c.a_family_leaves_room.ensures.answers f room) (c.a_family_leaves_room.ensures.rests f room) decide
    (c.a_covered_plan_has_first_frames.ensures.first f plan clocks steady of covered v.0 contents sends) have late delays blocks enough in
    (all, waits, pass_in_time plan (stations_of f plan clocks) all ms (plain_bus f).shortest r (wins plan (stations_of f plan clocks) all.bus) waits))
