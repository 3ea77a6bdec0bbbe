use Rattle.std.proofs.Common.{◌≡◌, ◌∙◌, refl, sym, ap, subst, ℕ, zero, suc, ◌<◌, [], length, Some}
use Rattle.wl_plan.specs.declared.plan.Plan.{Plan}
use Rattle.wl_plan.specs.PlanLine.{line_of, setup_at}
use Rattle.wl_bound.specs.Conditions.{IsSound, plain}
use Rattle.wl_bound.specs.Families.{Bus}
use Rattle.wl_bound.specs.Rooms.{least_chase, plain_bus}
use Rattle.wl_buses.specs.OneFrame.Answers.{HasRoomToAnswer}
use Rattle.wl_buses.specs.OneFrame.Bounds.{HasStations}
use Rattle.wl_buses.specs.OneFrame.Plans.{IsPlanOf}
use Rattle.wl_buses.specs.OneFrame.Stations.{AreStations, HaveRoom, Stations}
use Rattle.wl_buses.specs.NextFrames.Frames.{HasRoomForAll}
use Rattle.wl_buses.proofs.OneFrame.Plans.{line_of_plan}
use Rattle.wl_buses.specs.FirstFrame.FirstFrames.{HasFirstFrames, queues_of, waiting_of}
use Rattle.wl_buses.specs.FrameEnd.Again.{LeavesRoomToRest}
use Rattle.wl_buses.specs.FamilyPlans.FamilyStations.{stations_of}
use Rattle.wl_buses.specs.CleanLines.Lines.{IsPoweredUp, LineGetsThrough, line_history}
use Rattle.wl_buses.specs.BothProofs.Queues.{ComeFrom, head_at, queued_contents}
use Rattle.wl_buses.specs.SentFrames.Sending.{unsent_with}
use Rattle.wl_buses.specs.CleanPlans.PlanFrames.{plan_decision_of}
use Rattle.wl_node.specs.History.{counters_of, error_count, unsent_of}
use Rattle.wl_node.proofs.Callers.{stays_on}
use Rattle.wl_plan.specs.Simulation.{seen}
use Rattle.wl_buses.specs.CleanPlans.Clean.{AllGetThrough, plan_history, sent_contents}
use Rattle.wl_buses.proofs.CleanPlans.Verdicts.{of_verdict}
use Rattle.wl_buses.proofs.clean_plans.laws.any_senders_are_clean.Goals as goal

-- its nodes are those of its line, since none leaves
same : (plan : Plan) (s : Stations) → IsPlanOf plan s → (i k : ℕ) → i < s.count → plan_history plan i k ≡ line_history (line_of plan) (setup_at plan) i k
same plan s of i k inside = stays_on (setup_at plan i) (seen (line_of plan) i k) (of.stays i inside)

-- as its line has it
handed_on : (plan : Plan) (s : Stations) (x : LineGetsThrough (line_of plan) (setup_at plan) (waiting_of plan (queues_of plan) s)) → (n : ℕ) (less : n < x.bus.count)
    → head_at (setup_at plan (x.bus.by.winner n)) (unsent_with s (setup_at plan) x.bus.frames x.bus.by.winner x.bus.by.content (x.bus.by.winner n) n)
    (plan_decision_of plan s (record { frames = x.bus.frames; count = x.bus.count; some = x.bus.some; are = x.bus.are; first = x.bus.first; by = x.bus.by }) n less) ≡ Some (x.bus.by.content n)
handed_on plan s x zero less = x.handed zero less
handed_on plan s x (suc n) less = x.handed (suc n) less

-- as all frames of its line do
whole : goal.After-all_frames_of_a_line_get_through → (plan : Plan) (s : Stations) (chase : ℕ → ℕ) → IsPlanOf plan s → plan.disturbances ≡ [] → AreStations s → HaveRoom s → HasRoomForAll s chase
    → HasFirstFrames plan (queues_of plan) s → AllGetThrough plan s
whole c plan s chase of calm are room all has =
    (let up : IsPoweredUp (line_of plan) (setup_at plan) (waiting_of plan (queues_of plan) s) = record {
      line = line_of_plan c.checked_is_sound.ensures plan s of calm;
      idle = c.a_plan_has_a_first_frame.ensures.idle plan (queues_of plan) s of has;
      hands = c.a_plan_has_a_first_frame.ensures.hands plan (queues_of plan) s of has.has.begin;
      queues = λ i. refl;
    } in
    let x = c.all_frames_of_a_line_get_through.ensures (line_of plan) (setup_at plan) (waiting_of plan (queues_of plan) s) chase up are room all in record {
      bus = record { frames = x.bus.frames; count = x.bus.count; some = x.bus.some; are = x.bus.are; first = x.bus.first; by = x.bus.by };
      fine = λ i k inside soon. ap error_count (same plan s of i k inside) ∙ x.fine i k inside soon;
      counters = λ i k inside soon. ap counters_of (same plan s of i k inside) ∙ x.counters i k inside soon;
      passed = λ i k inside soon. (let p = x.passed i k inside soon in (p.0, p.1, ap (λ h. h.frames) (same plan s of i k inside) ∙ p.2));
      in_time = λ i k n inside soon less late. subst (λ h. n < length h.frames) (sym (same plan s of i k inside)) (x.in_time i k n inside soon less late);
      sent = λ i k inside soon.
          subst (λ h. ComeFrom (setup_at plan i) (sent_contents h.frames) (queued_contents (unsent_of (setup_at plan i) h))) (sym (same plan s of i k inside)) (x.sent i k inside soon);
      handed = handed_on plan s x;
      order = x.order;
      goes = x.goes;
      ends = x.ends;
    })

-- by its bus
by_bus : goal.After-all_frames_of_a_line_get_through → (plan : Plan) (s : Stations) (bus : Bus) (chase : ℕ → ℕ) → IsPlanOf plan s → plan.disturbances ≡ [] → HasStations bus s → IsSound bus
    → HasRoomToAnswer bus chase → LeavesRoomToRest bus chase → HasFirstFrames plan (queues_of plan) s → AllGetThrough plan s
by_bus c plan s bus chase of calm bus_of sound answer rest has =
    (let line = c.a_plan_is_on_a_line.ensures plan s of in
    whole c plan s chase of calm (record { line = line; ways = c.a_sound_bus_has_room.ensures.ways bus s line bus_of }) (c.a_sound_bus_has_room.ensures.room bus s line bus_of sound)
    (c.a_bus_has_room_for_all.ensures bus s chase line bus_of answer rest) has)

pub returns-clause-room : goal.returns-clause-room
returns-clause-room c = whole c

pub returns-clause-plan : goal.returns-clause-plan
returns-clause-plan c = by_bus c

pub returns-clause-family : goal.returns-clause-family
returns-clause-family c = λ f plan clocks steady of speaks has room sound.
    (let bus = c.a_plan_has_stations.ensures.bus f plan clocks of speaks in
    by_bus c plan (stations_of f plan clocks) (plain_bus f) (least_chase (plain_bus f)) (c.a_plan_has_stations.ensures.plan f plan clocks steady of speaks) steady.undisturbed bus
    sound (c.a_family_leaves_room.ensures.answers f room) (c.a_family_leaves_room.ensures.rests f room) has)

pub returns-clause-covered : goal.returns-clause-covered
returns-clause-covered c = λ f plan clocks steady of contents sends verdict covered room.
    (let v = of_verdict plan f verdict in
    let speaks = c.a_covered_plan_has_first_frames.ensures.speaks plan covered in
    let bus = c.a_plan_has_stations.ensures.bus f plan clocks of speaks in
    by_bus c plan (stations_of f plan clocks) (plain_bus f) (least_chase (plain_bus f)) (c.a_plan_has_stations.ensures.plan f plan clocks steady of speaks) steady.undisturbed bus
    ((c.condition_laws.ensures.any f plain).0 v.1) (c.a_family_leaves_room.ensures.answers f room)
    (c.a_family_leaves_room.ensures.rests f room) (c.a_covered_plan_has_first_frames.ensures.first f plan clocks steady of covered v.0 contents sends))
