-- The frames of a queue, and what became of them, event by event. What a node sends is known by its content: of frames that carry the same the first is meant that
-- wasn't sent yet (Bosch CAN 2.0 part B, sections 2 and 5; that instances go in the order of the queue is this project's profile). So both orders of queues are told.
use Rattle.std.specs.Prelude.{ℕ, ◌+◌, ◌&&◌, min, Bool, true, false, not, List, [], ◌∷◌, length, map, fold, is_some, Option, Some, None, if◌then◌else◌}
use Rattle.std.specs.List.{filter, range_with_len}
use Rattle.wl_level.specs.declared.Level.{Level}
use Rattle.wl_delivery.specs.Joining.{joined_quantum}
use Rattle.wl_frame.specs.Grammar.{Content}
use Rattle.wl_frame.specs.Same.{same_content}
use Rattle.wl_frame.specs.declared.field.FrameField.{FrameField}
use Rattle.wl_frame.specs.declared.field.FrameField.TheVariants.{FlagDelimiter}
use Rattle.wl_machine.specs.Judged.{head_of, stretch_of}
use Rattle.wl_node.specs.declared.setup.NodeSetup.{NodeSetup}
use Rattle.wl_node.specs.declared.setup.Passed.{Passed}
use Rattle.wl_node.specs.declared.setup.Queued.{Queued}
use Rattle.wl_node.specs.History.{is_sent}
use Rattle.wl_plan.specs.declared.plan.Plan.{Plan}
use Rattle.wl_plan.specs.PlanLine.{setup_at}
use Rattle.wl_serial.specs.Outcome.{node_outcome_of}
use Rattle.wl_trace.specs.declared.event.NodeEvent.{NodeEvent}
use Rattle.wl_trace.specs.declared.event.NodeEvent.TheVariants as events
use Rattle.wl_trace.specs.Replay.{SampledPast, no_past, past_after, then_events}
use Rattle.wl_traffic.specs.declared.entries.Entry.{Entry}
use Rattle.wl_traffic.specs.declared.entries.Fate.{Fate}
use Rattle.wl_traffic.specs.declared.entries.Fate.TheVariants.{Sent, Lost, Broken}
use Rattle.wl_traffic.specs.declared.queues.NodeQueue.{NodeQueue}
use Rattle.wl_traffic.specs.Healing.{trouble_until}
use Rattle.wl_traffic.specs.States.{node_spans}
use Rattle.wl_traffic.specs.Waits.{final_sample}

-- the quanta at which a node received a frame
abbrev pub received_quanta : List Passed → List ℕ
received_quanta frames = map (λ p. p.quantum) (filter (λ p. not (is_sent p)) frames)

-- a frame of a queue before the run
abbrev pub waiting_entry : Queued → Entry
waiting_entry q = record { frame = q.frame; ready = q.ready; sent = None; lost = 0; broken = 0 }

-- where there is no frame
abbrev pub no_queued : Queued
no_queued = record { frame = record { extended = false; id = 0; remote = false; dlc = 0; bytes = [] }; ready = 0 }

-- one more, by a count of 64 bits; no run has so many samples that it stops
abbrev pub one_count_more : ℕ → ℕ
one_count_more count = min (count + 1) 18446744073709551615

-- a frame that was sent at a quantum, or with an attempt that failed
abbrev pub entry_with : Fate → Entry → Entry
entry_with (Sent quantum) e = record e { sent = Some quantum }
entry_with Lost e = record e { lost = one_count_more e.lost }
entry_with Broken e = record e { broken = one_count_more e.broken }

-- it carries this and wasn't sent yet
abbrev pub is_pending : Content → Entry → Bool
is_pending frame e = not (is_some e.sent) && same_content e.frame frame

-- the frames of a queue after that became of the first pending one that carries this
abbrev pub entries_with : Fate → Content → List Entry → List Entry
entries_with fate frame [] = []
entries_with fate frame (e ∷ es) = if is_pending frame e then entry_with fate e ∷ es else e ∷ entries_with fate frame es

-- what became of the frame that is tried, if one is
abbrev pub entries_tried : Fate → Option Content → List Entry → List Entry
entries_tried fate None entries = entries
entries_tried fate (Some frame) entries = entries_with fate frame entries

abbrev pub is_delimiter : FrameField → Bool
is_delimiter FlagDelimiter = true
is_delimiter field = false

-- An event of a node's stretch, which sends this head: a frame is sent, or an attempt loses the arbitration, or its transmitter finds an error in the frame. An error in the delimiter of a flag is
-- of no frame.
abbrev pub entries_after_event : (head : Option Content) → (quantum : ℕ) → List Entry → NodeEvent → List Entry
entries_after_event head quantum entries (events.Sent frame) = entries_with (Sent quantum) frame entries
entries_after_event head quantum entries (events.ArbitrationLost at) = entries_tried Lost head entries
entries_after_event head quantum entries (events.Error kind sends stuff at) =
    if sends && not (is_delimiter at.field) then entries_tried Broken head entries else entries
entries_after_event head quantum entries event = entries

-- the frames of a queue after the events of a sample
abbrev pub entries_after : (head : Option Content) → (quantum : ℕ) → List Entry → List NodeEvent → List Entry
entries_after head quantum entries events = fold (entries_after_event head quantum) entries events

-- what came before a sample, and the frames of the queue then; the machine's stretch has the head with which it began
abbrev pub queue_with_sample : NodeSetup → SampledPast × List Entry → ℕ × Level → SampledPast × List Entry
queue_with_sample setup (p, entries) (quantum, level) =
    (past_after setup p (quantum, level), entries_after (head_of (stretch_of p.inputs).sort) quantum entries (then_events setup p quantum level))

abbrev pub queue_before : NodeSetup → SampledPast × List Entry
queue_before setup = (no_past, map waiting_entry setup.queue)

-- what became of the frames of a node's queue with its samples
unfoldable pub entries_by : NodeSetup → List (ℕ × Level) → List Entry
entries_by setup samples = (fold (queue_with_sample setup) (queue_before setup) samples).1

-- those of node i
abbrev pub entries_of : Plan → ℕ → List Entry
entries_of plan i = entries_by (setup_at plan i) (node_outcome_of plan i).samples

-- node i with its frames, the quanta of its eleventh recessive sample in a row and of its last one, and those at which it received a frame, and until when it was at flags
abbrev pub node_queue : Plan → ℕ → NodeQueue
node_queue plan i = record {
  node = i;
  clock = (setup_at plan i).clock;
  joined = joined_quantum (node_outcome_of plan i).samples;
  last = final_sample (node_outcome_of plan i).samples;
  frames = (node_outcome_of plan i).frames;
  received = received_quanta (node_outcome_of plan i).frames;
  trouble = trouble_until (node_spans plan i);
  entries = entries_of plan i;
}

abbrev pub node_queues : Plan → List NodeQueue
node_queues plan = map (node_queue plan) (range_with_len 0 (length plan.nodes))
