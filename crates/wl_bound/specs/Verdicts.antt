-- What of a plan lies outside of the condition, whatever its cable and its clocks. This project's.
use Rattle.std.specs.Prelude.{ℕ, ◌*◌, ◌==◌, ◌&&◌, nat_lt, not, Bool, true, false, List, [], ◌∷◌, length, Option, Some, None, if◌then◌else◌}
use Rattle.std.specs.Bool.{beq}
use Rattle.std.specs.List.{list_any}
use Rattle.std.specs.Option.{is_some}
use Rattle.wl_level.specs.Places.{first_place}
use Rattle.wl_clock.specs.Timing.{tick_of}
use Rattle.wl_segments.specs.Lengths.{bit_quanta}
use Rattle.wl_segments.specs.declared.SyncRules.{SyncRules}
use Rattle.wl_segments.specs.declared.SyncRules.TheVariants.{After, Book}
use Rattle.wl_topology.specs.Driven.{any_below}
use Rattle.wl_frame.specs.Grammar.{Content}
use Rattle.wl_node.specs.declared.setup.NodeSetup.{NodeSetup}
use Rattle.wl_node.specs.declared.setup.Queued.{Queued}
use Rattle.wl_plan.specs.declared.plan.Plan.{Plan}
use Rattle.wl_plan.specs.PlanLine.{setup_at}
use Rattle.wl_bound.specs.declared.condition.Failure.{Failure}
use Rattle.wl_bound.specs.declared.condition.Senders.TheVariants.{Any, One}
use Rattle.wl_bound.specs.declared.verdict.Outside.{Outside}
use Rattle.wl_bound.specs.declared.verdict.Outside.TheVariants.{FewNodes, NoFrames, ListenerSends, NobodyAcknowledges, NotByTheBook, SameIdentifier, NobodyIdle}
use Rattle.wl_bound.specs.declared.verdict.Verdict.{Verdict}
use Rattle.wl_bound.specs.declared.verdict.Verdict.TheVariants.{ForAny, ForOne, DoesNotHold, NoBound}
use Rattle.wl_bound.specs.Families.{Buses, only_listens}
use Rattle.wl_bound.specs.Conditions.{plain, first_failure_of}

abbrev pub is_after : SyncRules → Bool
is_after After = true
is_after Book = false

-- frames wait at a node
abbrev pub has_frames : NodeSetup → Bool
has_frames node = nat_lt 0 (length node.queue)

-- An arbitration doesn't part two frames: identifier, format and RTR bit are the same (Bosch CAN 2.0 part B, section 3.2.1).
abbrev pub has_same_field : Content → Content → Bool
has_same_field a b = (a.id == b.id) && (beq a.extended b.extended && beq a.remote b.remote)

-- some frame of one node and some frame of another
abbrev pub share_field : NodeSetup → NodeSetup → Bool
share_field one other = list_any (λ a. list_any (λ b. has_same_field a.frame b.frame) other.queue) one.queue

-- the tick at which a node has counted the 11 bits that it waits for (Bosch CAN 2.0 part B, section 2, wake-up)
abbrev pub idle_at : NodeSetup → ℕ
idle_at node = tick_of node.clock (11 * bit_quanta node.segments)

-- the first frame of a queue becomes ready at that tick or later; an empty queue waits for ever
abbrev pub is_ready_from : NodeSetup → List Queued → ℕ → Bool
is_ready_from node [] t = true
is_ready_from node (first ∷ later) t = not (nat_lt (tick_of node.clock first.ready) t)

-- another node acknowledges: it doesn't only listen (ISO 11898-1, bus monitoring)
abbrev pub acknowledges : Plan → ℕ → ℕ → Bool
acknowledges plan i j = not (j == i) && not (only_listens plan.topology j)

-- some node that acknowledges is idle if the first frame of node i becomes ready
abbrev pub finds_one_idle : Plan → ℕ → Bool
finds_one_idle plan i =
    any_below (length plan.nodes)
    (λ j. acknowledges plan i j && is_ready_from (setup_at plan i) (setup_at plan i).queue (idle_at (setup_at plan j)))

-- what lies outside, node by node
abbrev pub without_book : Plan → ℕ → Bool
without_book plan i = is_after (setup_at plan i).segments.sync

abbrev pub shares_with : Plan → ℕ → ℕ → Bool
shares_with plan i j = not (i == j) && share_field (setup_at plan i) (setup_at plan j)

abbrev pub shares : Plan → ℕ → Bool
shares plan i = is_some (first_place (shares_with plan i) (length plan.nodes))

abbrev pub finds_nobody_idle : Plan → ℕ → Bool
finds_nobody_idle plan i = not (finds_one_idle plan i)

abbrev pub sends_something : Plan → ℕ → Bool
sends_something plan i = has_frames (setup_at plan i)

-- a node that only listens has frames, which no other node ever hears
abbrev pub listener_sends : Plan → ℕ → Bool
listener_sends plan i = only_listens plan.topology i && sends_something plan i

-- a node has frames, and every other node only listens (Bosch CAN 2.0 part B, section 3.2.1: a frame that nobody acknowledges is an error)
abbrev pub is_unacknowledged : Plan → ℕ → Bool
is_unacknowledged plan i = sends_something plan i && not (any_below (length plan.nodes) (acknowledges plan i))

-- the pair of nodes with one identifier, if there is one
abbrev pub pair_at : ℕ → Option ℕ → Option Outside
pair_at i None = None
pair_at i (Some j) = Some (SameIdentifier i j)

abbrev pub pair_in : Plan → Option ℕ → Option Outside
pair_in plan None = None
pair_in plan (Some i) = pair_at i (first_place (shares_with plan i) (length plan.nodes))

-- the first of two causes
abbrev pub or_cause : Option Outside → Option Outside → Option Outside
or_cause None other = other
or_cause (Some cause) other = Some cause

abbrev pub at_node : (ℕ → Outside) → Option ℕ → Option Outside
at_node name None = None
at_node name (Some i) = Some (name i)

-- what nodes that only listen spoil
abbrev pub of_listeners : Plan → Option Outside
of_listeners plan =
    or_cause (at_node ListenerSends (first_place (listener_sends plan) (length plan.nodes)))
    (at_node NobodyAcknowledges (first_place (is_unacknowledged plan) (length plan.nodes)))

-- the first cause, in their order
abbrev pub outside_of : Plan → Option Outside
outside_of plan =
    if nat_lt (length plan.nodes) 2 then Some FewNodes
    else if not (any_below (length plan.nodes) (sends_something plan)) then Some NoFrames
    else or_cause (of_listeners plan)
    (or_cause (at_node NotByTheBook (first_place (without_book plan) (length plan.nodes)))
    (or_cause (pair_in plan (first_place (shares plan) (length plan.nodes)))
    (at_node NobodyIdle (first_place (finds_nobody_idle plan) (length plan.nodes)))))

abbrev pub for_one : Option Failure → Verdict
for_one None = ForOne
for_one (Some failure) = DoesNotHold failure

abbrev pub for_any : Option Failure → Verdict → Verdict
for_any None other = ForAny
for_any (Some failure) other = other

abbrev pub unless_outside : Option Outside → Verdict → Verdict
unless_outside None verdict = verdict
unless_outside (Some cause) verdict = NoBound cause

-- what is said of a plan
abbrev pub verdict_of : Plan → Buses → Verdict
verdict_of plan f =
    unless_outside (outside_of plan) (for_any (first_failure_of f plain Any) (for_one (first_failure_of f plain One)))

-- If all nodes send that don't only listen, whatever their frames: no node does so, and node i alone does so.
abbrev pub speaks : Plan → ℕ → Bool
speaks plan i = not (only_listens plan.topology i)

abbrev pub speaks_alone : Plan → ℕ → Bool
speaks_alone plan i = speaks plan i && not (any_below (length plan.nodes) (acknowledges plan i))

-- the first cause that lies in the nodes and not in their frames
abbrev pub outside_for_all : Plan → Option Outside
outside_for_all plan =
    if nat_lt (length plan.nodes) 2 then Some FewNodes
    else if not (any_below (length plan.nodes) (speaks plan)) then Some NoFrames
    else or_cause (at_node NobodyAcknowledges (first_place (speaks_alone plan) (length plan.nodes)))
    (at_node NotByTheBook (first_place (without_book plan) (length plan.nodes)))

-- what is said of its nodes, if all of them send that don't only listen
abbrev pub verdict_for_all : Plan → Buses → Verdict
verdict_for_all plan f =
    unless_outside (outside_for_all plan) (for_any (first_failure_of f plain Any) (for_one (first_failure_of f plain One)))
