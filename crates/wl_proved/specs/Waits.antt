-- How long the messages of a plan wait at most. This project's.
use Rattle.std.specs.Prelude.{◌≡◌, ℕ, ◌<◌, ◌≤◌, ◌&&◌, nat_le, nat_lt, Bool, true, false, List, ◌∷◌, ◌++◌, length, map, unwrap_or, if◌then◌else◌, Some, None}
use Rattle.wl_frame.specs.Grammar.{IsContent}
use Rattle.wl_phase.specs.Clocks.{HasRate, Steady}
use Rattle.wl_node.specs.declared.setup.Queued.{Queued}
use Rattle.wl_node.specs.declared.setup.QueueOrder.{QueueOrder}
use Rattle.wl_node.specs.declared.setup.QueueOrder.TheVariants.{Fifo, Priority}
use Rattle.wl_plan.specs.declared.plan.Plan.{Plan}
use Rattle.wl_plan.specs.PlanLine.{setup_at}
use Rattle.wl_setup.specs.declared.bus.Bus.{Bus}
use Rattle.wl_setup.specs.declared.plan_text.FrameText.{FrameText}
use Rattle.wl_setup.specs.declared.plan_text.PlanText.{PlanText}
use Rattle.wl_bound.specs.Families.{Buses}
use Rattle.wl_bound.specs.Rooms.{plain_bus}
use Rattle.wl_lines.specs.Formats.{lines_text}
use Rattle.wl_lines.specs.Shapes.{TextLine}
use Rattle.wl_respond.specs.declared.bounds.Waits.{Waits}
use Rattle.wl_respond.specs.declared.message.MessageWait.{MessageWait}
use Rattle.wl_respond.specs.Asks.{IsOfText, frames_at, is_frame_of, message_in}
use Rattle.wl_respond.specs.Bounds.{AreWaitsFor, asked_in}
use Rattle.wl_respond.specs.Levels.{top_of}
use Rattle.wl_respond.specs.Plans.{ArePeriodApart, eleventh_sample, entry_at, message_of}
use Rattle.wl_respond.specs.Tests.{message_at}
use Rattle.wl_respond.specs.Texts.{AreLinesOf}
use Rattle.wl_buses.specs.FamilyPlans.FamilyStations.{stations_of}
use Rattle.wl_buses.specs.CleanPlans.Clean.{AllGetThrough}
use Rattle.wl_buses.specs.BoundedWaits.Bounds.{PassInTime, WaitInQuanta}
use Rattle.wl_buses.specs.BoundedWaits.Messages.{Messages}
use Rattle.wl_proved.specs.Words.{IsFamilyOfText}

-- a queue is first in, first out
abbrev pub is_fifo : QueueOrder → Bool
is_fifo Fifo = true
is_fifo Priority = false

-- A table of messages as the laws on waits have it: a frame of node i is of the first message with its field.
abbrev pub messages_in : Plan → List MessageWait → Messages
messages_in plan messages = record {
  count = length messages;
  of = λ i frame. unwrap_or (message_of messages i frame) 0;
  node = λ e. if nat_lt e (length messages) then (message_at messages e).node else length plan.nodes;
  bits = λ e. (message_at messages e).bits;
  every = λ e. (message_at messages e).every;
  joins = λ m e. nat_le (message_at messages e).field (message_at messages m).level;
  mixed = λ m i. is_fifo (setup_at plan i).order && nat_lt (message_at messages m).level (top_of messages i);
}

abbrev pub wait_of : List MessageWait → ℕ → ℕ
wait_of messages e = (message_at messages e).wait

-- All frames of a plan get through, and none waits longer than its message says, from `ready` to the sample with which it is sent: in quanta of its node, each of which takes no less than the shortest. If
-- a node has been for longer than that after its frame was ready, it has sent it.
pub record HasBoundedWaits (f : Buses) (plan : Plan) (messages : List MessageWait) : Type 0 where
  pub clocks : ℕ → Steady
  pub rates : (i : ℕ) → i < length plan.nodes → HasRate (setup_at plan i).clock (clocks i)
  pub all : AllGetThrough plan (stations_of f plan clocks)
  pub waits : WaitInQuanta plan (stations_of f plan clocks) all.bus (messages_in plan messages) (plain_bus f).shortest (wait_of messages)
  pub passes : PassInTime plan (stations_of f plan clocks) all (messages_in plan messages) (plain_bus f).shortest (wait_of messages)

-- the messages of a table as a plan's text asks them, with their bounds
abbrev pub messages_asked : Buses → (any : Bool) → PlanText → List MessageWait → List MessageWait
messages_asked f any plain table = map message_in (asked_in f any plain table)

-- The lines of `respond` are about waits of a bus of which no premise lacks. On its plan no frame waits longer than the lines say.
pub record HasBoundedLines (tick : ℕ) (any : Bool) (plain : PlanText) (bus : Bus) (lines : List TextLine) (met : Bool) : Type 0 where
  pub family : Buses
  pub of : IsFamilyOfText plain bus family
  pub figures : Waits
  pub are : AreWaitsFor tick any plain bus family figures
  pub told : AreLinesOf bus.names (Some figures) lines met
  pub proved : figures.lacking ≡ None
  pub waits : HasBoundedWaits family bus.plan (messages_asked family any plain are.0)

-- A text has such lines.
abbrev pub HasBoundedText : ℕ → (any : Bool) → PlanText → Bus → (text : List ℕ) → (met : Bool) → Type 0
HasBoundedText tick any plain bus text met = (lines : List TextLine) × (text ≡ lines_text lines) × HasBoundedLines tick any plain bus lines met

-- An entry of node i is a frame of its text, but for its data: of one that has the identifier of the entry's message.
pub record HasTextFrame (plain : PlanText) (messages : List MessageWait) (i : ℕ) (entry : Queued) : Type 0 where
  pub message : ℕ
  pub is : message_of messages i entry.frame ≡ Some message
  pub before : List FrameText
  pub text : FrameText
  pub later : List FrameText
  pub frames : frames_at plain i ≡ before ++ text ∷ later
  pub own : is_frame_of (message_at messages message).frame text ≡ true
  pub same : IsOfText entry.frame text
  pub content : IsContent entry.frame

-- A queue keeps the messages, as `HasMessages` of wl_respond has it, with frames of the text that may have any data.
pub record HasTextFrames (plain : PlanText) (messages : List MessageWait) (i from : ℕ) (queue : List Queued) : Type 0 where
  pub known : (n : ℕ) → n < length queue → HasTextFrame plain messages i (entry_at queue n)
  pub late : (n : ℕ) → n < length queue → from ≤ (entry_at queue n).ready
  pub ordered : (m n : ℕ) → m < n → n < length queue → (entry_at queue m).ready ≤ (entry_at queue n).ready
  pub apart : (m n : ℕ) → m < n → n < length queue → ArePeriodApart messages i (entry_at queue m) (entry_at queue n)

abbrev pub KeepsText : PlanText → Plan → List MessageWait → Type 0
KeepsText plain plan messages = (i : ℕ) → i < length plan.nodes → HasTextFrames plain messages i (eleventh_sample plan i) (setup_at plan i).queue
