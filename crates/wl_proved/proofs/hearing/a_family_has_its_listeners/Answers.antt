use Rattle.wl_bound.specs.Conditions.{plain}
use Rattle.wl_bound.specs.Rooms.{least_chase, plain_bus}
use Rattle.wl_listeners.specs.BusParts.{then_node}
use Rattle.wl_buses.specs.FirstFrame.FirstFrames.{queues_of}
use Rattle.std.proofs.Common.{refl, length}
use Rattle.wl_proved.proofs.Any as any
use Rattle.wl_proved.proofs.Ends.{ends_clean}
use Rattle.wl_proved.proofs.Heard.{hears_clean}
use Rattle.wl_proved.proofs.Listening.{clean_beside}
use Rattle.wl_proved.proofs.Stationed as stationed
use Rattle.wl_proved.proofs.hearing.a_family_has_its_listeners.Goals as goal

pub returns : goal.returns
returns c = λ f plan other at i of part sound room hear here listens.
    (let had = c.a_covered_plan_has_first_frames.ensures.frames f plan (stationed.clocks f plan of) of.inside of.runs.frames of.senders in
    let causal = (c.checked_is_sound.ensures plan of.runs.checked).causal in
    let alone = (c.checked_is_sound.ensures other part.checked).causal in
    let s = stationed.beside f plan other at i of part hear here listens in
    let is = stationed.is_plan f plan other at i of part hear here listens in
    let first = c.a_plan_has_a_first_frame.ensures.ready other (queues_of other) s is (stationed.has_frames_of f plan other at i of part hear here listens had)
    (stationed.idle_each f plan other at i of part hear here listens) in
    let chase = least_chase (plain_bus f) in
    let r = c.a_listener_with_room_on_the_whole_bus_receives_each_frame.ensures plan other at i s (plain_bus f) chase of.runs.checked part.without is part.undisturbed first
    (stationed.line f plan other at i of part hear here listens) of.members (stationed.only f plan other at i of part hear here listens)
    (stationed.is_bus f plan other at i of part hear here listens) ((c.condition_laws.ensures.any f plain).0 sound) (c.a_family_leaves_room.ensures.answers f room)
    (c.a_family_leaves_room.ensures.rests f room) (stationed.hears f plan other at i of part hear here listens)
    (stationed.two f plan other at i of part hear here listens had) (stationed.is_listener f plan other at i of part hear here listens causal) in
    let run = ends_clean c.simulation_laws.ensures c.clean_is_clean.ensures other alone (any.bus_frames other s r.0) (any.clean_at other s r.0) (any.in_order other s r.0) in
    let hears = hears_clean c.simulation_laws.ensures c.clean_is_clean.ensures plan other i s (λ k. chase (then_node at (length other.nodes) i k)) refl here causal alone r.0 r.1 in
    (hears, clean_beside plan other at (c.a_node_shows_the_same_beside_listeners.ensures plan other at of.runs.checked part.without) run))
