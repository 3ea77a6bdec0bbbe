-- The messages of the queues of nodes.
use Rattle.std.specs.Prelude.{◌≡◌, ◌≢◌, ℕ, ◌+◌, ◌-◌, ◌*◌, ◌<◌, ◌≤◌, Bool, true, false, List, length}
use Rattle.wl_level.specs.declared.Level.{Level}
use Rattle.wl_segments.specs.Lengths.{bit_quanta, sample_at}
use Rattle.wl_frame.specs.Grammar.{Content, bits_of}
use Rattle.wl_frame.specs.Stuffing.{Stuffs}
use Rattle.wl_node.specs.declared.setup.NodeSetup.{NodeSetup}
use Rattle.wl_node.specs.declared.setup.Queued.{Queued}
use Rattle.wl_node.specs.Queues.{field_number}
use Rattle.wl_wire.specs.Winner.{Beats}
use Rattle.wl_bound.specs.Families.{Bus}
use Rattle.wl_buses.specs.BothProofs.Queues.{IsFifo, queued_contents, ready_at}
use Rattle.wl_buses.specs.FrameTimes.Times.{Times, frame_time, tail_time}
use Rattle.wl_buses.specs.OneFrame.Stations.{Stations}
use Rattle.wl_buses.specs.BoundedWaits.Leaving.{IsByPriority, IsQueued}
use Rattle.wl_buses.specs.BoundedWaits.QueuedFrames.{Terms}

-- A frame of node i is of message `of i frame`. A message has a node, no more than so many bits up to the end of the CRC sequence, stuff bits among them, and a period in quanta of its node. `joins m e`
-- says that e has a field within the level of m, and `mixed m i` that the queue of node i is first in, first out, and that not all messages of it are within.
pub record Messages : Type 0 where
  pub count : ℕ
  pub of : ℕ → Content → ℕ
  pub node : ℕ → ℕ
  pub bits : ℕ → ℕ
  pub every : ℕ → ℕ
  pub joins : ℕ → ℕ → Bool
  pub mixed : ℕ → ℕ → Bool

abbrev pub entries : (setups : ℕ → NodeSetup) → ℕ → ℕ
entries setups i = length (queued_contents (setups i).queue)

-- entry n of the queue of node i
abbrev pub IsEntry : (setups : ℕ → NodeSetup) → (i n : ℕ) → Queued → Type 0
IsEntry setups i n entry = IsQueued (setups i).queue n entry

-- The queues have these messages, in the order in which they become ready. Two frames of one message are a period apart at least, and in a queue by priority they have one field. Each message is within
-- its own level, and its own queue isn't mixed then. In a queue that is first in, first out, and not mixed, all messages are within. No frame beyond a level beats one within it, or has a field that is
-- no greater (Bosch CAN 2.0 part B, section 3.1, arbitration).
pub record HaveMessages (s : Stations) (setups : ℕ → NodeSetup) (ms : Messages) : Type 0 where
  pub known : (i n : ℕ) (q : Queued) → i < s.count → IsEntry setups i n q → ms.of i q.frame < ms.count
  pub node : (i n : ℕ) (q : Queued) → i < s.count → IsEntry setups i n q → ms.node (ms.of i q.frame) ≡ i
  pub ordered : (i m n : ℕ) (p q : Queued) → i < s.count → m < n → IsEntry setups i m p → IsEntry setups i n q → p.ready ≤ q.ready
  pub apart : (i m n : ℕ) (p q : Queued) → i < s.count → m < n → IsEntry setups i m p → IsEntry setups i n q → ms.of i p.frame ≡ ms.of i q.frame
      → p.ready + ms.every (ms.of i p.frame) ≤ q.ready
  pub short : (i n : ℕ) (q : Queued) (levels : List Level) → i < s.count → IsEntry setups i n q → Stuffs levels (bits_of q.frame) → length levels ≤ ms.bits (ms.of i q.frame)
  pub one_field : (i m n : ℕ) (p q : Queued) → i < s.count → IsByPriority (setups i) → IsEntry setups i m p → IsEntry setups i n q → ms.of i p.frame ≡ ms.of i q.frame
      → field_number p.frame ≡ field_number q.frame
  pub own : (i n : ℕ) (q : Queued) → i < s.count → IsEntry setups i n q → ms.joins (ms.of i q.frame) (ms.of i q.frame) ≡ true
  pub pure : (i n : ℕ) (q : Queued) → i < s.count → IsEntry setups i n q → ms.mixed (ms.of i q.frame) i ≡ false
  pub within : (m i n : ℕ) (q : Queued) → i < s.count → IsFifo (setups i) → IsEntry setups i n q → ms.mixed m i ≡ false → ms.joins m (ms.of i q.frame) ≡ true
  pub stronger : (m i n j k : ℕ) (beyond inside : Queued) → i < s.count → j < s.count → IsEntry setups i n beyond → IsEntry setups j k inside
      → ms.joins m (ms.of i beyond.frame) ≡ false → ms.joins m (ms.of j inside.frame) ≡ true → Beats beyond.frame inside.frame → ⊥
  pub greater : (m i n k : ℕ) (beyond inside : Queued) → i < s.count → IsByPriority (setups i) → IsEntry setups i n beyond → IsEntry setups i k inside
      → ms.joins m (ms.of i beyond.frame) ≡ false → ms.joins m (ms.of i inside.frame) ≡ true → field_number inside.frame < field_number beyond.frame

-- no frame is ready before the eleventh sample of its node (ISO 11898-1, bus integration)
abbrev pub AreReadyLate : Stations → (setups : ℕ → NodeSetup) → Type 0
AreReadyLate s setups = (i : ℕ) → i < s.count → 0 < entries setups i → 10 * bit_quanta (s.lengths i) + sample_at (s.lengths i) ≤ ready_at (setups i).queue 0

-- Times in units, wherever the clocks lie. A station that samples once a bit may have sampled so long before the start of frame of another one reaches it; and if it has decided to send, its start of
-- frame is due so long after that sample. A message comes again no sooner than its period.
pub record Delays : Type 0 where
  pub lead : ℕ
  pub wake : ℕ
  pub period : ℕ → ℕ

pub record DelayNoLonger (s : Stations) (t : Times) (ms : Messages) (d : Delays) : Type 0 where
  pub own : (i : ℕ) → i < s.count → t.unit * ((bit_quanta (s.lengths i) - 1) * (s.clocks i).num) < d.lead * (s.clocks i).den
  pub others : (i k : ℕ) → i < s.count → k < s.count → i ≢ k
      → t.unit * ((bit_quanta (s.lengths i) - 1) * (s.clocks i).num) + t.unit * s.delay i k * (s.clocks i).den < d.lead * (s.clocks i).den
  pub wakes : (i : ℕ) → i < s.count → t.unit * ((s.lengths i).ps2 * (s.clocks i).num) ≤ d.wake * (s.clocks i).den
  pub positive : (e : ℕ) → 0 < d.period e
  pub periods : (i e : ℕ) → i < s.count → ms.node e ≡ i → d.period e * (s.clocks i).den ≤ t.unit * (ms.every e * (s.clocks i).num)

-- so it is on a bus, wherever within its tolerance each clock lies
pub record BusDelaysNoLonger (bus : Bus) (ms : Messages) (d : Delays) : Type 0 where
  pub own : (i : ℕ) → i < bus.nodes → (bit_quanta (bus.lengths i) - 1) * bus.longest i < d.lead
  pub others : (i k : ℕ) → i < bus.nodes → k < bus.nodes → i ≢ k → (bit_quanta (bus.lengths i) - 1) * bus.longest i + bus.delay i k < d.lead
  pub wakes : (i : ℕ) → i < bus.nodes → (bus.lengths i).ps2 * bus.longest i ≤ d.wake
  pub positive : (e : ℕ) → 0 < d.period e
  pub periods : (i e : ℕ) → i < bus.nodes → ms.node e ≡ i → d.period e ≤ ms.every e * bus.shortest i

-- what is known of them, in units
abbrev pub terms_of : Times → Messages → Delays → Terms
terms_of t ms d = record {
  messages = ms.count;
  node = ms.node;
  cost = λ e. frame_time t (ms.bits e);
  tail = λ e. tail_time t (ms.bits e);
  period = d.period;
  joins = ms.joins;
  mixed = ms.mixed;
  lead = d.lead;
  wake = d.wake;
}
