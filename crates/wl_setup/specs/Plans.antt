-- Which plan, or which fault, belongs to a plan's text (this project's profile).
use Rattle.std.specs.Prelude.{◌≡◌, ◌≢◌, ℕ, zero, suc, ◌+◌, nat_le, nat_lt, unsigned_abs, min, max, Bool, true, false, if◌then◌else◌, List, [], ◌∷◌, ◌++◌, map, take, Option, Some, None, option_map, unwrap_or, Result, Ok, Err, MatchResult}
use Rattle.std.specs.List.{enumerate_from, position_or_len}
use Rattle.std.specs.Str.{bytes_eq}
use Rattle.wl_level.specs.ByTick.{by_tick}
use Rattle.wl_level.specs.Places.{first_place}
use Rattle.wl_device.specs.Devices.{Answer}
use Rattle.wl_limits.specs.declared.Limits.{Limits}
use Rattle.wl_clock.specs.Timing.{Timing, largest_deviation, millionths, tick_of, timing_within, rate_of_ppm}
use Rattle.wl_clock.specs.declared.Rate.{Rate}
use Rattle.wl_clock.specs.declared.ClockFault.{ClockFault}
use Rattle.wl_clock.specs.declared.ClockFault.TheVariants.{BadPpm}
use Rattle.wl_units.specs.Ratios.{fraction_with}
use Rattle.wl_segments.specs.Lengths.{Lengths, segments_of, controller_segments_of}
use Rattle.wl_segments.specs.declared.SegmentsFault.{SegmentsFault}
use Rattle.wl_segments.specs.declared.SyncRules.{SyncRules}
use Rattle.wl_frame.specs.Grammar.{Content, frame_of_numbers}
use Rattle.wl_topology.specs.declared.Place.{Place}
use Rattle.wl_topology.specs.Delays.{Cable, topology_within}
use Rattle.wl_node.specs.declared.setup.Queued.{Queued}
use Rattle.wl_node.specs.declared.setup.QueueOrder.{QueueOrder}
use Rattle.wl_node.specs.declared.setup.QueueOrder.TheVariants as order
use Rattle.wl_node.specs.declared.setup.NodeSetup.{NodeSetup}
use Rattle.wl_plan.specs.declared.plan.Disturbance.{Disturbance}
use Rattle.wl_plan.specs.declared.plan.Plan.{Plan}
use Rattle.wl_plan.specs.declared.check.PlanFault.{PlanFault}
use Rattle.wl_plan.specs.Checked.{fault_within}
use Rattle.wl_plan.specs.Limits.{latest_end, most_queued}
use Rattle.wl_setup.specs.declared.fault.SetupFault.{SetupFault}
use Rattle.wl_setup.specs.declared.fault.SetupFault.TheVariants as fault
use Rattle.wl_setup.specs.declared.plan_text.PlanText.{PlanText}
use Rattle.wl_setup.specs.declared.plan_text.NodeText.{NodeText}
use Rattle.wl_setup.specs.declared.plan_text.FrameText.{FrameText}
use Rattle.wl_setup.specs.declared.plan_text.DisturbanceText.{DisturbanceText}
use Rattle.wl_setup.specs.declared.plan_text.ClockText.{ClockText}
use Rattle.wl_setup.specs.declared.plan_text.ClockText.TheVariants as text
use Rattle.wl_setup.specs.declared.plan_text.QueueText.{QueueText}
use Rattle.wl_setup.specs.declared.plan_text.QueueText.TheVariants as queue
use Rattle.wl_setup.specs.declared.plan_text.RateText.{RateText}
use Rattle.wl_setup.specs.declared.plan_text.SegmentsText.{SegmentsText}
use Rattle.wl_setup.specs.declared.plan_text.SegmentsText.TheVariants.{Each, Controller}
use Rattle.wl_setup.specs.Version.{has_traffic, limits_in, queued_in}
use Rattle.wl_setup.specs.Names.{names_of}
use Rattle.wl_setup.specs.Reading.{ReadsPlan}

-- a result with its refusal as a fault of a plan's text
abbrev pub with_fault : {T E : Type 0} → (E → SetupFault) → Result T E → Result T SetupFault
with_fault name (Ok x) = Ok x
with_fault name (Err e) = Err (name e)

-- what is made of a value, unless it was refused
abbrev pub after : {T U : Type 0} → Result T SetupFault → (T → Result U SetupFault) → Result U SetupFault
after (Ok x) make = make x
after (Err e) make = Err e

-- what is made of each in a list, or the first refusal
abbrev pub each : {T U : Type 0} → (T → Result U SetupFault) → List T → Result (List U) SetupFault
each make [] = Ok []
each make (x ∷ xs) = after (make x) (λ y. after (each make xs) (λ ys. Ok (y ∷ ys)))

-- the rate from a quantum on that the clock keys say, or its fault
abbrev pub rate_from : ℕ → ClockText → Result Rate ClockFault
rate_from from (text.Rate num den) = Ok (record { from = from; num = num; den = den })
rate_from from (text.Ppm quantum ppm) = rate_of_ppm from quantum ppm
rate_from from (text.Fraction num den ppm) =
    if nat_lt largest_deviation (unsigned_abs ppm) then Err BadPpm
    else Ok (record { from = from; num = (fraction_with num den (millionths ppm)).0; den = (fraction_with num den (millionths ppm)).1 })

-- a rate of node i
abbrev pub rate_in : ℕ → RateText → Result Rate SetupFault
rate_in i text = with_fault (fault.NodeClock i) (rate_from text.from text.clock)

-- the clock of node i by these limits: each of its rates in order, then all of them together with the offset
abbrev pub clock_in : Limits → ℕ → NodeText → Result Timing SetupFault
clock_in limits i node =
    after (each (rate_in i) node.rates) (λ rates. with_fault (fault.NodeClock i) (timing_within limits node.offset rates))

-- segments with SYNC_SEG there in a bit that an edge begins
abbrev pub with_sync : SyncRules → Result Lengths SegmentsFault → Result Lengths SegmentsFault
with_sync sync (Ok lengths) = Ok (record lengths { sync = sync })
with_sync sync (Err e) = Err e

-- the bit segments with this jump width, or their fault
abbrev pub segments_in : SegmentsText → ℕ → Result Lengths SegmentsFault
segments_in (Each prop ps1 ps2) sjw = segments_of prop ps1 ps2 sjw
segments_in (Controller tseg1 tseg2) sjw = controller_segments_of tseg1 tseg2 sjw

abbrev pub segments_of_node : SyncRules → NodeText → Result Lengths SegmentsFault
segments_of_node sync node = with_sync sync (segments_in node.segments node.sjw)

-- a numbered frame of node i: a frame that waits from its quantum `ready` on
abbrev pub queued_of : ℕ → ℕ × FrameText → Result Queued SetupFault
queued_of i (n, text) =
    after (with_fault (fault.NodeFrame i n) (frame_of_numbers text.extended text.id text.remote text.dlc text.bytes))
    (λ frame. Ok (record { frame = frame; ready = text.ready }))

-- A frame and its later instances, `every` quanta apart: at most so many, and only those that become ready before the plan ends. Each is
-- beside the quantum at which it becomes ready.
abbrev pub repeated : Timing → ℕ → ℕ → ℕ → ℕ → Content → List (ℕ × Content)
repeated clock end every zero ready frame = []
repeated clock end every (suc most) ready frame =
    if nat_lt (tick_of clock ready) end then (ready, frame) ∷ repeated clock end every most (ready + every) frame else []

-- of one that comes once, it alone
abbrev pub instances_by : Timing → ℕ → Option ℕ → ℕ → Queued → List (ℕ × Content)
instances_by clock end None most q = (q.ready, q.frame) ∷ []
instances_by clock end (Some every) most q = repeated clock end every most q.ready q.frame

-- as many as it says, and one more than may wait at a node of any version is enough
abbrev pub instances_of : Timing → ℕ → FrameText → Queued → List (ℕ × Content)
instances_of clock end text q = instances_by clock end text.every (min (unwrap_or text.count (suc most_queued)) (suc most_queued)) q

-- of all frames of a node, frame by frame
abbrev pub all_instances : Timing → ℕ → List FrameText → List Queued → List (ℕ × Content)
all_instances clock end (text ∷ texts) (q ∷ qs) = instances_of clock end text q ++ all_instances clock end texts qs
all_instances clock end _ _ = []

abbrev pub as_queued : ℕ × Content → Queued
as_queued (ready, frame) = record { frame = frame; ready = ready }

-- the greatest quantum beside a frame
abbrev pub latest_ready : List (ℕ × Content) → ℕ
latest_ready [] = 0
latest_ready (x ∷ xs) = max x.0 (latest_ready xs)

-- in the order of their quanta, those of one quantum in the order of the list
abbrev pub by_ready : List (ℕ × Content) → List (ℕ × Content)
by_ready xs = by_tick (suc (latest_ready xs)) xs

-- They wait in the order in which they become ready, those of one quantum in the order of the text. One more than may wait is kept, so that
-- the plan is refused.
abbrev pub queue_of : Timing → ℕ → List FrameText → List Queued → List Queued
queue_of clock end texts qs = map as_queued (by_ready (take (suc most_queued) (all_instances clock end texts qs)))

-- before the version of traffic frames wait in the order of the text
abbrev pub queue_in : Bool → Timing → ℕ → List FrameText → List Queued → List Queued
queue_in false clock end texts qs = qs
queue_in true clock end texts qs = queue_of clock end texts qs

-- which of the waiting frames a node sends first
abbrev pub order_of : QueueText → QueueOrder
order_of queue.Fifo = order.Fifo
order_of queue.Priority = order.Priority

-- The first quantum of a node that begins at a tick or later, if there is such a tick: the node is unplugged with that quantum. No plan ends later than the latest end.
abbrev pub first_from : Timing → ℕ → Option ℕ
first_from clock tick = first_place (λ k. nat_le tick (tick_of clock k)) (suc tick)

abbrev pub until_in : Timing → Option ℕ → Option ℕ
until_in clock None = None
until_in clock (Some tick) = first_from clock (min tick latest_end)

-- Only what becomes ready before the plan ends comes again; a plan whose end is too late is refused.
-- a numbered node: its clock, then its segments, then its frames in order
abbrev pub setup_of : PlanText → ℕ × NodeText → Result NodeSetup SetupFault
setup_of text (i, node) =
    after (clock_in (limits_in text.version) i node)
    (λ clock. after (with_fault (fault.NodeSegments i) (segments_of_node text.sync node))
    (λ segments. after (each (queued_of i) (enumerate_from 0 node.frame))
    (λ queue. Ok (record { clock = clock; segments = segments; queue = queue_in (has_traffic text.version) clock (min text.end latest_end) node.frame queue; order = order_of node.queue; until = until_in clock node.until }))))

-- where a node sits
abbrev pub place_of : NodeText → Place
place_of node = record { x = node.x; out_delay = node.out_delay; in_delay = node.in_delay; listens = node.listens }

abbrev pub cable_of : PlanText → Result Cable SetupFault
cable_of text = with_fault fault.Topology (topology_within (limits_in text.version) (map place_of text.node) text.per)

-- the number of the node with this name, and where none has it the number of no node
abbrev pub node_named : List (List ℕ) → List ℕ → ℕ
node_named names name = position_or_len (bytes_eq name) names

abbrev pub disturbance_in : List (List ℕ) → DisturbanceText → Disturbance
disturbance_in names text = record { node = option_map (node_named names) text.node; x = text.x; from = text.from; to = text.to }

-- a plan, unless it can't be run
abbrev pub unless_refused : Plan → Option PlanFault → Result Plan SetupFault
unless_refused plan None = Ok plan
unless_refused plan (Some refusal) = Err (fault.Plan refusal)

-- its limits, and how many frames may wait at a node, go by the version
abbrev pub runnable : ℕ → Plan → Result Plan SetupFault
runnable version plan = unless_refused plan (fault_within (limits_in version) (queued_in version) plan)

-- the plan of a text, or its first fault: of the nodes in order, of the topology, of the whole plan
abbrev pub plan_of_text : PlanText → Result Plan SetupFault
plan_of_text text =
    after (each (setup_of text) (enumerate_from 0 text.node))
    (λ nodes. after (cable_of text)
    (λ cable. runnable text.version
    (record { nodes = nodes; topology = cable; disturbances = map (disturbance_in (names_of text)) text.disturbance; end = text.end })))

-- the plan and the names of its nodes
abbrev pub named_plan_of : PlanText → Result (Plan × List (List ℕ)) SetupFault
named_plan_of text = after (plan_of_text text) (λ plan. Ok (plan, names_of text))

-- the reader gave, in one reading, a text that has this answer: the text's own first fault, or else its plan's
abbrev pub GivesPlan : {S : Type 0} → (S → Answer → S → Type 0) → S → Result (Plan × List (List ℕ)) SetupFault → S → Type 0
GivesPlan gives s answer t = (read : Result PlanText SetupFault) × ReadsPlan gives s read t × (answer ≡ after read named_plan_of)

-- an answer is this one, unless memory was refused
abbrev pub IsAnswer : {T : Type 0} → Result T SetupFault → Result T SetupFault → Type 0
IsAnswer wanted answer = MatchResult answer (λ x. wanted ≡ Ok x) (λ e. e ≢ fault.Memory → wanted ≡ Err e)
