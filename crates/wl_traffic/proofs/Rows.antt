-- Worked rows of the traffic's definitions, by hand from docs/use/traffic.md.
use Rattle.std.proofs.Common.{◌≡◌, List, ℕ, [], ◌∷◌, ◌++◌, Some, None, Bool, true, false, ◌&&◌, ◌||◌, nat_le, nat_lt, codes, refl}
use Rattle.std.specs.List.{list_any}
use Rattle.std.specs.Fmt.{digits}
use Rattle.wl_clock.specs.Timing.{tick_of}
use Rattle.wl_confine.specs.declared.ErrorKind.TheVariants.{Bit}
use Rattle.wl_machine.specs.declared.doing.Doing.{Doing}
use Rattle.wl_machine.specs.declared.doing.Doing.TheVariants.{ActiveFlag, Delimiting, Integrating, Idle, Receiving, Transmitting, Intermission, Suspended, OffBus, Waiting}
use Rattle.wl_node.specs.declared.setup.Passed.{Passed}
use Rattle.wl_trace.specs.declared.event.NodeEvent.{NodeEvent}
use Rattle.wl_trace.specs.declared.event.NodeEvent.TheVariants as events
use Rattle.wl_frame.specs.Grammar.{Content}
use Rattle.wl_frame.specs.Same.{same_content}
use Rattle.wl_frame.specs.declared.field.FrameField.{FrameField}
use Rattle.wl_frame.specs.declared.field.FrameField.TheVariants.{Identifier, AckSlot, FlagDelimiter}
use Rattle.wl_traffic.specs.declared.entries.Entry.{Entry}
use Rattle.wl_views.specs.declared.tick.Tick.{Tick}
use Rattle.wl_views.specs.declared.tick.TimeUnit.TheVariants.{Nanosecond}
use Rattle.wl_traffic.specs.declared.late.LateMessage.{LateMessage}
use Rattle.wl_traffic.specs.declared.queues.NodeQueue.{NodeQueue}
use Rattle.wl_traffic.specs.declared.reason.Reason.TheVariants.{Works, Errors, Overloaded, Starved, EndsTooEarly, BusOff, Deaf, Missed, TakenTwice}
use Rattle.wl_traffic.specs.declared.spans.Span.{Span}
use Rattle.wl_traffic.specs.Entries.{entries_after, no_queued}
use Rattle.wl_traffic.specs.Bus.{is_busy_span, load_below, share_of}
use Rattle.wl_traffic.specs.Causes.{full_line, line_of_late}
use Rattle.wl_traffic.specs.Healing.{clean_from, disturbed_until, healed_by, trouble_until}
use Rattle.wl_traffic.specs.Late.{in_time, is_beaten, is_late, late_messages, period_of, ticks_waited}
use Rattle.wl_traffic.specs.Messages.{statistics_words}
use Rattle.wl_traffic.specs.Reasons.{first_reason, is_overload, is_stuck, waiting_reason}
use Rattle.wl_traffic.specs.Unequal.{unequal_deliveries, unequal_lines}
use Rattle.wl_traffic.specs.Waits.{most_waiting, quanta_waited}

abbrev span : Doing → ℕ → ℕ → Span
span doing from until = record { doing = doing; from = from; until = until }

-- a node that integrates up to tick 10, sends from there on, and is idle again at 48; and one that receives the frame from 20 to 50
abbrev sender : List Span
sender = span Integrating 0 10 ∷ span Transmitting 10 44 ∷ span Intermission 44 48 ∷ span Idle 48 60 ∷ []

abbrev receiver : List Span
receiver = span Integrating 1 20 ∷ span Receiving 20 46 ∷ span Intermission 46 50 ∷ span Idle 50 60 ∷ []

abbrev both : ℕ → Bool
both t = list_any (is_busy_span t) sender || list_any (is_busy_span t) receiver

-- together they find the bus busy from 10 to 50: 40 ticks of 60, with a pause of 10 before and one of 10 after
together : load_below both 60 ≡ record { busy = 40; pause = 10; gap = 10; full = 0 }
together = refl

-- up to tick 30 it is full for the last 20
until_thirty : load_below both 30 ≡ record { busy = 20; pause = 0; gap = 10; full = 20 }
until_thirty = refl

-- busy at the ticks 2 to 4 and 7 to 9, of ten: 6 ticks, two pauses of 2, and 3 at the end
twice : load_below (λ t. (nat_le 2 t && nat_lt t 5) || nat_le 7 t) 10 ≡ record { busy = 6; pause = 0; gap = 2; full = 3 }
twice = refl

-- a node that is bus off, suspended or integrates finds nothing
off_node : list_any (is_busy_span 5) (span OffBus 0 9 ∷ span Suspended 0 9 ∷ span Integrating 0 9 ∷ span Idle 0 9 ∷ []) ≡ false
off_node = refl

-- 106,000 of 168,000 ticks are 63.095 %
load : share_of 106000 168000 ≡ 6309
load = refl

load_of_nothing : share_of 0 0 ≡ 0
load_of_nothing = refl

abbrev error_in : FrameField → NodeEvent
error_in field = events.Error Bit true false (record { field = field; bit = 0 })

abbrev lost : NodeEvent
lost = events.ArbitrationLost (record { field = Identifier; bit = 2 })

abbrev content : ℕ → Content
content id = record { extended = false; id = id; remote = false; dlc = 0; bytes = [] }

abbrev pending : ℕ → Entry
pending id = record { frame = content id; ready = 0; sent = None; lost = 0; broken = 0 }

abbrev a_line : List Entry
a_line = pending 5 ∷ pending 3 ∷ pending 5 ∷ []

-- what is tried is known by its content, wherever it is in the queue
second_tried : entries_after (Some (content 3)) 40 a_line (lost ∷ []) ≡ pending 5 ∷ record (pending 3) { lost = 1 } ∷ pending 5 ∷ []
unfolding same_content
second_tried = refl

-- Of two frames that carry the same the first is sent at quantum 100; what fails then is of the second, which is sent at 300.
sent_twice : entries_after (Some (content 5)) 300 (entries_after (Some (content 5)) 100 a_line (lost ∷ events.Sent (content 5) ∷ [])) (error_in AckSlot ∷ events.Sent (content 5) ∷ [])
    ≡ record (pending 5) { sent = Some 100; lost = 1 } ∷ pending 3 ∷ record (pending 5) { sent = Some 300; broken = 1 } ∷ []
unfolding same_content
sent_twice = refl

-- an error in a delimiter is of no attempt, nor is a receiver's, nor what comes while nothing is sent
untried : entries_after (Some (content 5)) 150 a_line (error_in FlagDelimiter ∷ events.Error Bit false false (record { field = Identifier; bit = 2 }) ∷ []) ≡ a_line
untried = refl

unsent : entries_after None 150 a_line (lost ∷ []) ≡ a_line
unsent = refl

abbrev entry : ℕ → ℕ → Entry
entry ready sent = record { frame = no_queued.frame; ready = ready; sent = Some sent; lost = 0; broken = 0 }

abbrev left : ℕ → Entry
left ready = record { frame = no_queued.frame; ready = ready; sent = None; lost = 0; broken = 0 }

-- The first frame is sent at quantum 500, at which the second becomes ready: one waits then. At 600 two wait, and with the last one, ready after the node's last
-- sample, never three.
waiting : most_waiting (Some 900) (entry 100 500 ∷ entry 500 800 ∷ left 600 ∷ left 901 ∷ []) ≡ 2
waiting = refl

-- before its first sample a node knows of no frame
none_waiting : most_waiting None (left 0 ∷ []) ≡ 0
none_waiting = refl

waited : quanta_waited (entry 100 500 ∷ left 600 ∷ entry 500 800 ∷ []) ≡ 400 ∷ 300 ∷ []
waited = refl

-- the mean of 400, 300 and 301 is 333.666
spread : statistics_words (400 ∷ 300 ∷ 301 ∷ []) ≡ codes "least 300 mean 333.66 greatest 400"
unfolding digits
spread = refl

no_spread : statistics_words [] ≡ codes "least - mean - greatest -"
no_spread = refl

-- a clock of 125 ticks a quantum, a last sample at quantum 2000, and a frame of another node at quantum 600
abbrev a_queue : NodeQueue
a_queue = record {
  node = 1;
  clock = record { offset = 7; rates = record { from = 0; num = 125; den = 1 } ∷ [] };
  joined = Some 90;
  last = Some 2000;
  frames = [];
  trouble = 0;
  received = 600 ∷ [];
  entries = entry 100 500 ∷ entry 500 800 ∷ left 900 ∷ [];
}

-- ready at 100, 500 and 900: 400 quanta are 50,000 ticks
a_period : period_of a_queue (entry 100 500 ∷ entry 500 800 ∷ left 900 ∷ []) ≡ 50000
unfolding tick_of
a_period = refl

-- two frames have none, nor have three at distances of 400 and 401, nor three at once
no_period_of_two : period_of a_queue (entry 100 500 ∷ entry 500 800 ∷ []) ≡ 0
no_period_of_two = refl

no_period_out_of_step : period_of a_queue (entry 100 500 ∷ entry 500 800 ∷ left 901 ∷ []) ≡ 0
no_period_out_of_step = refl

no_period_at_once : period_of a_queue (entry 100 500 ∷ entry 100 800 ∷ left 100 ∷ []) ≡ 0
unfolding tick_of
no_period_at_once = refl

-- what is ready after the last sample is no frame of the run
timely : in_time (Some 900) (entry 100 500 ∷ left 900 ∷ left 901 ∷ []) ≡ entry 100 500 ∷ left 900 ∷ []
timely = refl

-- from 500 to 800, and from 900 to the last sample
ticks : ticks_waited a_queue (entry 500 800) ∷ ticks_waited a_queue (left 900) ∷ [] ≡ 37500 ∷ 137500 ∷ []
unfolding tick_of
ticks = refl

-- with a period of 50,000 ticks a frame may wait for 400 quanta, and not for 401; a frame that was never sent is late from then on, too
late_by_one : is_late 0 a_queue 50000 (entry 100 500) ∷ is_late 0 a_queue 50000 (entry 100 501) ∷ is_late 0 a_queue 50000 (left 1600)
    ∷ is_late 0 a_queue 50000 (left 1599) ∷ [] ≡ false ∷ true ∷ false ∷ true ∷ []
unfolding tick_of
late_by_one = refl

-- without a period only a frame that was never sent is late, by the longest period of others; and none if there is no period at all
late_by_others : is_late 50000 a_queue 0 (entry 100 501) ∷ is_late 50000 a_queue 0 (left 1599) ∷ is_late 50000 a_queue 0 (left 1600)
    ∷ is_late 0 a_queue 0 (left 0) ∷ [] ≡ false ∷ true ∷ false ∷ false ∷ []
unfolding tick_of
late_by_others = refl

-- a frame that came at quantum 600 came while another waited from 599 on, and up to 600, and not while one waited from 600 on or up to 599
passed : is_beaten a_queue (entry 599 700) ∷ is_beaten a_queue (entry 500 600) ∷ is_beaten a_queue (entry 600 700) ∷ is_beaten a_queue (entry 500 599)
    ∷ is_beaten a_queue (left 599) ∷ [] ≡ true ∷ true ∷ false ∷ false ∷ true ∷ []
passed = refl

-- of three frames at distances of 400 quanta the last is late, by 1,100 quanta in the place of 400; nobody sent meanwhile
a_message : late_messages (a_queue ∷ [])
    ≡ record { node = 1; frame = no_queued.frame; waited = 137500; allowed = 50000; beaten = false; left = true } ∷ []
unfolding tick_of
a_message = refl

-- Node 0 sends frame 5 at its quanta 100, 200 and 300. Node 1 takes the first and the third, and the third again before it is sent; node 2 never takes part.
abbrev a_frame : Bool → ℕ → Passed
a_frame sent quantum = record { sent = sent; quantum = quantum; frame = content 5 }

abbrev a_sender : NodeQueue
a_sender = record a_queue { node = 0; joined = Some 11; frames = a_frame true 100 ∷ a_frame true 200 ∷ a_frame true 300 ∷ [] }

abbrev a_receiver : NodeQueue
a_receiver = record a_queue { joined = Some 11; frames = a_frame false 98 ∷ a_frame false 250 ∷ a_frame false 299 ∷ [] }

abbrev an_absent_node : NodeQueue
an_absent_node = record a_queue { node = 2; joined = None; frames = [] }

one_unequal : unequal_deliveries (a_sender ∷ a_receiver ∷ an_absent_node ∷ [])
    ≡ record { sender = 0; frame = content 5; sent = 3; node = 1; missed = 1; twice = 1 } ∷ []
unfolding tick_of
one_unequal = refl

-- nothing is said of a message that two nodes have sent
two_senders : unequal_deliveries (a_sender ∷ a_receiver ∷ record an_absent_node { frames = a_frame true 400 ∷ [] } ∷ []) ≡ []
unfolding tick_of
two_senders = refl

-- a line for what is missed, and one for what is taken twice
unequal_of_valve : unequal_lines (codes "pump" ∷ codes "valve" ∷ []) (record { sender = 0; frame = content 5; sent = 3; node = 1; missed = 1; twice = 2 } ∷ [])
    ≡ codes "missed valve 1 of 3 frames of pump 005\ntwice valve 2 of 3 frames of pump 005\n"
unfolding digits
unequal_of_valve = refl

-- all wait for the longest period, 800 quanta of the second node; the first one's frame was never sent, and others were
abbrev a_slow_queue : NodeQueue
a_slow_queue = record a_queue { node = 0; received = 600 ∷ 1000 ∷ []; entries = left 900 ∷ [] }

abbrev a_periodic_queue : NodeQueue
a_periodic_queue = record a_queue { entries = entry 100 500 ∷ entry 900 1000 ∷ entry 1700 1900 ∷ [] }

two_nodes : late_messages (a_slow_queue ∷ a_periodic_queue ∷ [])
    ≡ record { node = 0; frame = no_queued.frame; waited = 137500; allowed = 100000; beaten = true; left = true } ∷ []
unfolding tick_of
two_nodes = refl

abbrev message : (beaten left : Bool) → LateMessage
message beaten left = record { node = 1; frame = no_queued.frame; waited = 137500; allowed = 50000; beaten = beaten; left = left }

-- a frame that waits at the end of a bus that was full for longer than it may wait is stuck, and a sent one is not
stuck : is_stuck 50001 (message true true) ∷ is_stuck 50000 (message true true) ∷ is_stuck 50001 (message true false) ∷ [] ≡ true ∷ false ∷ false ∷ []
stuck = refl

-- a message overloads the bus if nobody else sent, or if it is stuck
overload : is_overload 0 (message false false) ∷ is_overload 0 (message true true) ∷ is_overload 50001 (message true true) ∷ [] ≡ true ∷ false ∷ true ∷ []
overload = refl

-- the first that applies, in this order
reasons : first_reason true true true true Starved ∷ first_reason false true true true Starved ∷ first_reason false false true true Starved
    ∷ first_reason false false false true Starved ∷ first_reason false false false false Starved ∷ []
    ≡ BusOff ∷ Missed ∷ TakenTwice ∷ Errors ∷ Starved ∷ []
reasons = refl

waiting_reasons : waiting_reason true true true true ∷ waiting_reason false true true true ∷ waiting_reason false false true true
    ∷ waiting_reason false false false true ∷ waiting_reason false false false false ∷ []
    ≡ Overloaded ∷ Starved ∷ EndsTooEarly ∷ Deaf ∷ Works ∷ []
waiting_reasons = refl

abbrev nanosecond : Tick
nanosecond = record { count = 1; unit = Nanosecond }

abbrev two_names : List (List ℕ)
two_names = codes "pump" ∷ codes "valve" ∷ []

-- 137,500 ns are 137 us; an identifier has three digits
starved_line : line_of_late nanosecond two_names (message true true) ≡ codes "starved valve 000 waits 137 us allowed 50 us\n"
unfolding digits
starved_line = refl

overloads_line : line_of_late nanosecond two_names (message false true) ≡ codes "overloads valve 000 waits 137 us allowed 50 us\n"
unfolding digits
overloads_line = refl

full_lines : full_line nanosecond 60999 (message true true ∷ []) ++ full_line nanosecond 50000 (message true true ∷ []) ≡ codes "full for the last 60 us\n"
unfolding digits
full_lines = refl

-- a node is at a flag and its delimiter from 10 to 24, and at no other one
flagged : trouble_until (span Receiving 0 10 ∷ span ActiveFlag 10 16 ∷ span Waiting 16 17 ∷ span Delimiting 17 24 ∷ span Intermission 24 27 ∷ []) ≡ 24
flagged = refl

never_flagged : trouble_until sender ≡ 0
never_flagged = refl

-- the last disturbance ends at 100,000, and node 0 is at a flag up to 114,500
last_disturbed : disturbed_until (record { node = None; x = 0; from = 10; to = 100000 } ∷ record { node = Some 1; x = 0; from = 20; to = 30 } ∷ []) ≡ 100000
last_disturbed = refl

last_clean : clean_from 100000 (record a_queue { trouble = 114500 } ∷ a_queue ∷ []) ≡ 114500
last_clean = refl

healed : healed_by nanosecond 400000 100000 114500 false ≡ codes "healed 14 us after the last disturbance, clean from tick 114500 on\n"
unfolding digits
healed = refl

-- nothing is said without a disturbance, if it isn't over before the end, and if a node was bus off
not_healed : healed_by nanosecond 400000 0 114500 false ++ healed_by nanosecond 114500 100000 114500 false ++ healed_by nanosecond 400000 100000 114500 true ≡ []
not_healed = refl
