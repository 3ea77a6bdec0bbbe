-- The frames that wait at a node, and the one of them that is sent next. A queue is first in, first out, or the frame that wins the arbitration goes first.
use Rattle.std.specs.Prelude.{ℕ, ◌+◌, ◌*◌, ◌/◌, ◌%◌, ◌^◌, nat_le, Bool, true, false, List, [], ◌∷◌, drop, count_by, fold, Option, Some, None, if◌then◌else◌}
use Rattle.wl_frame.specs.Grammar.{Content}
use Rattle.wl_frame.specs.Header.{one_bit}
use Rattle.wl_frame.specs.Same.{same_content}
use Rattle.wl_node.specs.declared.setup.QueueOrder.{QueueOrder}
use Rattle.wl_node.specs.declared.setup.QueueOrder.TheVariants.{Fifo, Priority}
use Rattle.wl_node.specs.declared.setup.Queued.{Queued}
use Rattle.wl_node.specs.declared.setup.Passed.{Passed}

abbrev pub is_sent : Passed → Bool
is_sent p = p.sent

-- The arbitration field as a number of 32 bits: the first 11 bits of the identifier, the RTR or SRR bit, the IDE bit, and of an extended frame 18 bits and the RTR
-- bit. Where two of them differ first, the lesser has the dominant bit, so that its frame wins (Bosch CAN 2.0 part B, sections 3.1 and 3.2.1).
abbrev pub field_by : Bool → Content → ℕ
field_by true c = c.id / 2 ^ 18 * 2 ^ 21 + 2 ^ 20 + 2 ^ 19 + c.id % 2 ^ 18 * 2 + one_bit c.remote
field_by false c = c.id * 2 ^ 21 + one_bit c.remote * 2 ^ 20

abbrev pub field_number : Content → ℕ
field_number c = field_by c.extended c

-- the first of a queue, if it is ready (this project's profile)
abbrev pub ready_head : List Queued → ℕ → Option Content
ready_head [] quantum = None
ready_head (q ∷ qs) quantum = if nat_le q.ready quantum then Some q.frame else None

-- The frames that wait in the controller: a frame comes to it when it is ready, and after those that are before it in the queue (this project's profile). In a queue in
-- the order of `ready` these are all that are ready.
abbrev pub waiting_frames : List Queued → ℕ → List Queued
waiting_frames [] quantum = []
waiting_frames (q ∷ qs) quantum = if nat_le q.ready quantum then q ∷ waiting_frames qs quantum else []

-- of two frames the one with the lesser field, and of equal ones the first
abbrev pub lesser_frame : Content → Option Content → Content
lesser_frame frame None = frame
lesser_frame frame (Some other) = if nat_le (field_number frame) (field_number other) then frame else other

-- the one of a list that wins the arbitration against all others (Bosch CAN 2.0 part B, section 3.1), and of equal ones the first
abbrev pub least_frame : List Queued → Option Content
least_frame [] = None
least_frame (q ∷ qs) = Some (lesser_frame q.frame (least_frame qs))

-- the frame that is to be sent next, of those that were not sent yet
abbrev pub head_by : QueueOrder → List Queued → ℕ → Option Content
head_by Fifo unsent quantum = ready_head unsent quantum
head_by Priority unsent quantum = least_frame (waiting_frames unsent quantum)

-- the first of a queue
abbrev pub first_frame : List Queued → Option Content
first_frame [] = None
first_frame (q ∷ qs) = Some q.frame

-- a queue without the first of this content
abbrev pub queue_without : Content → List Queued → List Queued
queue_without frame [] = []
queue_without frame (q ∷ qs) = if same_content q.frame frame then qs else q ∷ queue_without frame qs

-- a frame that was sent leaves the queue
abbrev pub queue_after : List Queued → Passed → List Queued
queue_after unsent p = if p.sent then queue_without p.frame unsent else unsent

-- what is left of a queue after these frames have passed
abbrev pub unsent_by : QueueOrder → List Queued → List Passed → List Queued
unsent_by Fifo queue frames = drop (count_by is_sent frames) queue
unsent_by Priority queue frames = fold queue_after queue frames
