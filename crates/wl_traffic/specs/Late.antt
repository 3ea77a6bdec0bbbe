-- The messages that wait for longer than they may: a message has to be sent before it becomes ready again (Davis, Burns, Bril and Lukkien 2007: no
-- deadline is longer than the period). What of its frames says so is this project's profile.
use Rattle.std.specs.Prelude.{ℕ, ◌+◌, ◌-◌, ◌*◌, ◌==◌, ◌&&◌, ◌||◌, nat_le, nat_lt, min, max, Bool, not, List, [], ◌∷◌, length, take, fold, slice_index_or, Option, Some, None, if◌then◌else◌}
use Rattle.std.specs.List.{filter, flat_map, list_all, list_any, range_with_len}
use Rattle.wl_clock.specs.Timing.{tick_of}
use Rattle.wl_traffic.specs.declared.entries.Entry.{Entry}
use Rattle.wl_traffic.specs.declared.late.LateMessage.{LateMessage}
use Rattle.wl_traffic.specs.declared.queues.NodeQueue.{NodeQueue}
use Rattle.wl_traffic.specs.Entries.{no_queued}
use Rattle.wl_traffic.specs.Messages.{has_id_of, is_left_entry, with_id_of}
use Rattle.wl_traffic.specs.Waits.{is_in_time}

-- where there is no frame
abbrev pub no_entry : Entry
no_entry = record { frame = no_queued.frame; ready = 0; sent = None; lost = 0; broken = 0 }

abbrev pub entry_at : List Entry → ℕ → Entry
entry_at entries k = slice_index_or entries k no_entry

-- the frames that became ready in time for some sample
abbrev pub in_time : Option ℕ → List Entry → List Entry
in_time last mine = filter (λ e. is_in_time last e.ready) mine

-- the distance in quanta of the first two
abbrev pub distance_of : List Entry → ℕ
distance_of timely = (entry_at timely 1).ready - (entry_at timely 0).ready

-- frame k became ready k distances after the first
abbrev pub is_in_step : List Entry → ℕ → Bool
is_in_step timely k = (entry_at timely k).ready == (entry_at timely 0).ready + k * distance_of timely

-- three frames or more that became ready at equal distances
abbrev pub are_in_step : List Entry → Bool
are_in_step timely = nat_le 3 (length timely) && list_all (is_in_step timely) (range_with_len 0 (length timely))

-- the period of a message in ticks, from its frames that became ready in time; 0 if it has none
abbrev pub period_of : NodeQueue → List Entry → ℕ
period_of q timely =
    if are_in_step timely then tick_of q.clock (entry_at timely 1).ready - tick_of q.clock (entry_at timely 0).ready else 0

-- a frame waits until it is sent, or up to the last sample
abbrev pub quantum_or : Option ℕ → Option ℕ → ℕ
quantum_or (Some sent) last = sent
quantum_or None (Some last) = last
quantum_or None None = 0

-- for how many ticks
abbrev pub ticks_waited : NodeQueue → Entry → ℕ
ticks_waited q e =
    let until : ℕ = quantum_or e.sent q.last in
    tick_of q.clock until - tick_of q.clock (min e.ready until)

-- for how long a message may wait: for its period, else for the longest of all messages
abbrev pub allowed_by : (longest period : ℕ) → ℕ
allowed_by longest period = if period == 0 then longest else period

-- it waits for longer, a frame of a message without a period only if it was never sent
abbrev pub is_late : (longest : ℕ) → NodeQueue → (period : ℕ) → Entry → Bool
is_late longest q period e =
    (not (period == 0) || is_left_entry e) && (nat_lt 0 (allowed_by longest period) && nat_lt (allowed_by longest period) (ticks_waited q e))

-- a frame of another node was sent while it waited
abbrev pub is_passed : NodeQueue → Entry → ℕ → Bool
is_passed q e quantum = nat_lt e.ready quantum && nat_le quantum (quantum_or e.sent q.last)

abbrev pub is_beaten : NodeQueue → Entry → Bool
is_beaten q e = list_any (is_passed q e) q.received

-- frame k is the first of the queue with its identifier
abbrev pub is_first : List Entry → ℕ → Bool
is_first entries k = not (list_any (has_id_of (entry_at entries k).frame) (take k entries))

-- the frames of its message that became ready in time
abbrev pub timely_at : NodeQueue → ℕ → List Entry
timely_at q k = in_time q.last (with_id_of (entry_at q.entries k).frame q.entries)

-- the longest period of the messages of a node, and of all nodes
abbrev pub period_at : NodeQueue → ℕ → ℕ
period_at q k = if is_first q.entries k then period_of q (timely_at q k) else 0

abbrev pub longest_period_in : NodeQueue → ℕ
longest_period_in q = fold (λ most k. max most (period_at q k)) 0 (range_with_len 0 (length q.entries))

abbrev pub longest_period : List NodeQueue → ℕ
longest_period queues = fold (λ most q. max most (longest_period_in q)) 0 queues

-- the longest time for which a frame waits
abbrev pub longest_wait : NodeQueue → List Entry → ℕ
longest_wait q late = fold (λ most e. max most (ticks_waited q e)) 0 late

-- what is said of a message with late frames
abbrev pub late_message : (allowed : ℕ) → NodeQueue → (late : List Entry) → LateMessage
late_message allowed q late = record {
  node = q.node;
  frame = (entry_at late 0).frame;
  waited = longest_wait q late;
  allowed = allowed;
  beaten = list_all (is_beaten q) late;
  left = list_any is_left_entry late;
}

-- that, if some frame is late
abbrev pub late_if_some : (allowed : ℕ) → NodeQueue → (late : List Entry) → List LateMessage
late_if_some allowed q [] = []
late_if_some allowed q (e ∷ late) = late_message allowed q (e ∷ late) ∷ []

-- a message by its frames that became ready in time
abbrev pub late_by : (longest : ℕ) → NodeQueue → (timely : List Entry) → List LateMessage
late_by longest q timely =
    late_if_some (allowed_by longest (period_of q timely)) q (filter (is_late longest q (period_of q timely)) timely)

abbrev pub late_at : (longest : ℕ) → NodeQueue → ℕ → List LateMessage
late_at longest q k = if is_first q.entries k then late_by longest q (timely_at q k) else []

-- the late messages of a node, in the order of their first places in its queue, and of all nodes
abbrev pub late_in : (longest : ℕ) → NodeQueue → List LateMessage
late_in longest q = flat_map (late_at longest q) (range_with_len 0 (length q.entries))

abbrev pub late_messages : List NodeQueue → List LateMessage
late_messages queues = flat_map (late_in (longest_period queues)) queues
