use Rattle.std.proofs.Common.{◌≡◌, ap, ℕ, true, length}
use Rattle.std.proofs.lemmas.Bool.{lt-ltb}
use Rattle.std.proofs.lemmas.List.{get_or_past}
use Rattle.wl_plan.specs.declared.plan.Plan.{Plan}
use Rattle.wl_plan.specs.PlanLine.{line_of, no_setup, setup_at}
use Rattle.wl_node.specs.declared.setup.NodeSetup.{NodeSetup}
use Rattle.wl_phase.specs.Clocks.{Steady}
use Rattle.wl_plan.specs.Checked.{IsChecked}
use Rattle.wl_bound.specs.Conditions.{IsSound, plain}
use Rattle.wl_bound.specs.Families.{Bus, Buses}
use Rattle.wl_bound.specs.Rooms.{leaves_room, least_chase, plain_bus}
use Rattle.wl_buses.specs.BothProofs.Plans.{IsOfFamily, IsSteadyPlan}
use Rattle.wl_buses.proofs.Callers.{of_verdict}
use Rattle.wl_buses.specs.OneFrame.Answers.{HasRoomToAnswer}
use Rattle.wl_buses.specs.OneFrame.Bounds.{HasStations}
use Rattle.wl_buses.specs.OneFrame.Plans.{IsPlanOf}
use Rattle.wl_buses.specs.OneFrame.Stations.{AreStations, Stations}
use Rattle.wl_buses.specs.FrameEnd.Again.{LeavesRoomToRest}
use Rattle.wl_buses.specs.FamilyPlans.FamilyStations.{NoneListens, stations_of}
use Rattle.wl_silence.specs.Silences.{HaveFramesLeft, IsCleanSince, IsSilentFor}
use Rattle.wl_silence.specs.SilentPlans.{NoneDisturbsSince, undisturbed_plan}
use Rattle.wl_silence.proofs.SilentPlans.{line_since_of, plan_with}
use Rattle.wl_silence.proofs.laws.a_bus_is_clean_after_a_silence.Goals as goal

whole : goal.After-a_line_is_clean_after_a_silence → (plan : Plan) (s : Stations) (bus : Bus) (from until : ℕ) (first chase : ℕ → ℕ) → IsPlanOf plan s → HasStations bus s → IsSound bus → HasRoomToAnswer bus chase
    → LeavesRoomToRest bus chase → NoneDisturbsSince plan from → IsSilentFor (line_of plan) (setup_at plan) from until first → HaveFramesLeft (line_of plan) (setup_at plan) s first
    → IsCleanSince (line_of plan) (setup_at plan) s from first
whole c plan s bus from until first chase of bus_of sound answer rest passed silent left =
    (let on = c.a_plan_is_on_a_line.ensures plan s of in
    let are : AreStations s = record { line = on; ways = c.a_sound_bus_has_room.ensures.ways bus s on bus_of } in
    let room = c.a_sound_bus_has_room.ensures.room bus s on bus_of sound in
    let line = line_since_of c.checked_is_sound.ensures plan s from of passed in
    c.a_line_is_clean_after_a_silence.ensures (line_of plan) (setup_at plan) s from until first chase line silent are room (c.a_bus_has_room_for_all.ensures bus s chase on bus_of answer rest) left)

pub returns-clause-plan : goal.returns-clause-plan
returns-clause-plan c = whole c

family : goal.After-a_line_is_clean_after_a_silence → (f : Buses) (plan : Plan) (clocks : ℕ → Steady) (from until : ℕ) (first : ℕ → ℕ) → IsChecked plan → IsSteadyPlan (undisturbed_plan plan) clocks
    → IsOfFamily f (undisturbed_plan plan) clocks → NoneListens plan → leaves_room f ≡ true → IsSound (plain_bus f) → NoneDisturbsSince plan from
    → IsSilentFor (line_of plan) (setup_at plan) from until first → HaveFramesLeft (line_of plan) (setup_at plan) (stations_of f plan clocks) first
    → IsCleanSince (line_of plan) (setup_at plan) (stations_of f plan clocks) from first
family c f plan clocks from until first checked steady of speaks has sound passed silent left =
    (let bus = c.a_plan_has_stations.ensures.bus f (undisturbed_plan plan) clocks of speaks in
    let p = c.a_plan_has_stations.ensures.plan f (undisturbed_plan plan) clocks steady of speaks in
    let q = plan_with plan (stations_of f plan clocks) checked p in
    whole c plan (stations_of f plan clocks) (plain_bus f) from until first (least_chase (plain_bus f)) q bus sound (c.a_family_leaves_room.ensures.answers f has) (c.a_family_leaves_room.ensures.rests f has) passed silent left)

pub returns-clause-family : goal.returns-clause-family
returns-clause-family c = family c

pub returns-clause-tested : goal.returns-clause-tested
returns-clause-tested c = λ f plan clocks from until i first checked steady of speaks contents sends verdict has passed silent inside some.
    (let v = of_verdict (undisturbed_plan plan) f verdict in
    let frames = c.a_covered_plan_has_first_frames.ensures.frames f (undisturbed_plan plan) clocks v.0 contents sends in
    let left : HaveFramesLeft (line_of plan) (setup_at plan) (stations_of f plan clocks) first = record {
      frames = record { two = frames.frames.two; content = frames.frames.content; apart = frames.frames.apart };
      none = λ k past. ap (λ (x : NodeSetup). x.queue) (get_or_past plan.nodes k no_setup past);
      may = λ k less more. frames.may k less (lt-ltb 0 (length (setup_at plan k).queue) more);
      some = (i, inside, some);
    } in
    family c f plan clocks from until first checked steady of speaks has ((c.condition_laws.ensures.any f plain).0 v.1) passed silent left)
