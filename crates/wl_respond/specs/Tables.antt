-- The table of messages of a plan: what is sent, by whom, how often, and how long it is (this project's profile; the terms are those of Davis, Burns, Bril, Lukkien 2007, section 2).
use Rattle.std.specs.Prelude.{◌≡◌, ◌⊎◌, ℕ, zero, suc, ◌-◌, ◌<◌, ◌==◌, Bool, true, min, List, [], ◌∷◌, ◌++◌, length, Option, None, Some, Result, Ok, Err, if◌then◌else◌}
use Rattle.wl_level.specs.declared.Level.{Level}
use Rattle.wl_frame.specs.Grammar.{Content, bits_of, frame_of_numbers}
use Rattle.wl_frame.specs.Stuffing.{Stuffs}
use Rattle.wl_frame.specs.declared.frame.FrameFault.{FrameFault}
use Rattle.wl_node.specs.declared.setup.Queued.{Queued}
use Rattle.wl_plan.specs.declared.plan.Plan.{Plan}
use Rattle.wl_plan.specs.PlanLine.{setup_at}
use Rattle.wl_setup.specs.declared.plan_text.FrameText.{FrameText}
use Rattle.wl_setup.specs.declared.plan_text.PlanText.{PlanText}
use Rattle.wl_bound.specs.Fields.{field_of}
use Rattle.wl_respond.specs.declared.message.MessageWait.{MessageWait}
use Rattle.wl_respond.specs.Asks.{frames_at, once}
use Rattle.wl_respond.specs.Levels.{level_in}
use Rattle.wl_respond.specs.Plans.{IsWithinBits, entry_at, message_of}
use Rattle.wl_respond.specs.Tests.{message_at}

-- a message with the first of its frames, before its numbers are known
abbrev pub first_of : ℕ → Content → MessageWait
first_of i frame = record { node = i; frame = frame; field = field_of frame; level = field_of frame; bits = 0; every = once; window = 0; wait = 0; first = 0 }

-- A frame of node i is of a message that is there, or its message comes last.
abbrev pub or_last : List MessageWait → ℕ → Content → Option ℕ → List MessageWait
or_last messages i frame None = messages ++ first_of i frame ∷ []
or_last messages i frame (Some e) = messages

abbrev pub with_frame : List MessageWait → ℕ → Content → List MessageWait
with_frame messages i frame = or_last messages i frame (message_of messages i frame)

-- so with the first n entries of a queue, and with all queues of the first i nodes
abbrev pub with_entries : List MessageWait → ℕ → List Queued → ℕ → List MessageWait
with_entries messages i queue zero = messages
with_entries messages i queue (suc n) = with_frame (with_entries messages i queue n) i (entry_at queue n).frame

abbrev pub messages_below : Plan → ℕ → List MessageWait
messages_below plan zero = []
messages_below plan (suc i) = with_entries (messages_below plan i) i (setup_at plan i).queue (length (setup_at plan i).queue)

-- so with what the text has for a node, if it is a frame, and for the first i nodes
abbrev pub made_frame : Result Content FrameFault → Option Content
made_frame (Ok frame) = Some frame
made_frame (Err fault) = None

abbrev pub frame_in : FrameText → Option Content
frame_in f = made_frame (frame_of_numbers f.extended f.id f.remote f.dlc f.bytes)

abbrev pub with_made : List MessageWait → ℕ → Option Content → List MessageWait
with_made messages i None = messages
with_made messages i (Some frame) = with_frame messages i frame

abbrev pub with_text : List MessageWait → ℕ → FrameText → List MessageWait
with_text messages i f = with_made messages i (frame_in f)

abbrev pub with_texts : List MessageWait → ℕ → List FrameText → List MessageWait
with_texts messages i [] = messages
with_texts messages i (f ∷ later) = with_texts (with_text messages i f) i later

abbrev pub messages_with : Plan → PlanText → ℕ → List MessageWait
messages_with plan text zero = messages_below plan (length plan.nodes)
messages_with plan text (suc i) = with_texts (messages_with plan text i) i (frames_at text i)

-- All messages of a plan with its text: those of its queues, by nodes, each in the order of its first frame; and after them those that no queue has before the plan's end.
abbrev pub messages_of : Plan → PlanText → List MessageWait
messages_of plan text = messages_with plan text (length plan.nodes)

-- The entries of a queue with a field. Of each, how long after the one before it of the same field it is ready; and the least of that for the first n entries.
abbrev pub is_of : List Queued → (field n : ℕ) → Bool
is_of queue field n = field_of (entry_at queue n).frame == field

abbrev pub last_ready : List Queued → (field n : ℕ) → Option ℕ
last_ready queue field zero = None
last_ready queue field (suc n) = if is_of queue field n then Some (entry_at queue n).ready else last_ready queue field n

abbrev pub gap_after : Option ℕ → ℕ → ℕ
gap_after None ready = once
gap_after (Some last) ready = ready - last

abbrev pub least_gap : List Queued → (field n : ℕ) → ℕ
least_gap queue field zero = once
least_gap queue field (suc n) =
    if is_of queue field n then min (least_gap queue field n) (gap_after (last_ready queue field n) (entry_at queue n).ready) else least_gap queue field n

-- a frame has so many bits up to the end of its CRC sequence, stuff bits among them (Bosch CAN 2.0 part B, section 5)
abbrev pub HasBits : Content → ℕ → Type 0
HasBits frame bits = (y : List Level) × Stuffs y (bits_of frame) × (length y ≡ bits)

-- the most bits of a frame, and of the first n entries of a queue with a field: none has more, and one has as many
pub record IsMostBits (queue : List Queued) (field : ℕ) (frame : Content) (n most : ℕ) : Type 0 where
  pub own : IsWithinBits frame most
  pub each : (k : ℕ) → k < n → is_of queue field k ≡ true → IsWithinBits (entry_at queue k).frame most
  pub reached : HasBits frame most ⊎ ((k : ℕ) × (k < n) × (is_of queue field k ≡ true) × HasBits (entry_at queue k).frame most)

-- A message with its numbers: the most bits of its frames, the least number of quanta between two that follow one another, and its level among all messages. Its bounds may be any.
pub record HasNumbers (plan : Plan) (messages : List MessageWait) (x y : MessageWait) : Type 0 where
  pub is : y ≡ record x {
    level = level_in plan messages x;
    bits = y.bits;
    every = least_gap (setup_at plan x.node).queue x.field (length (setup_at plan x.node).queue);
    window = y.window;
    wait = y.wait;
    first = y.first;
  }
  pub bits : IsMostBits (setup_at plan x.node).queue x.field x.frame (length (setup_at plan x.node).queue) y.bits

-- all messages with their numbers
pub record HaveNumbers (plan : Plan) (messages table : List MessageWait) : Type 0 where
  pub count : length table ≡ length messages
  pub each : (e : ℕ) → e < length table → HasNumbers plan messages (message_at messages e) (message_at table e)

-- the table of a plan with its text
abbrev pub IsTable : Plan → PlanText → List MessageWait → Type 0
IsTable plan text table = HaveNumbers plan (messages_of plan text) table

-- the same messages with other bounds
abbrev pub IsBounded : MessageWait → MessageWait → Type 0
IsBounded x y = y ≡ record x { window = y.window; wait = y.wait; first = y.first }

pub record AreSameButBounds (messages all : List MessageWait) : Type 0 where
  pub count : length all ≡ length messages
  pub each : (e : ℕ) → e < length all → IsBounded (message_at messages e) (message_at all e)
