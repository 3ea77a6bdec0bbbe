-- A line on which one node has a frame to send: what is asked of its nodes and their clocks, and what comes of it, from the power-up of all nodes to the
-- acknowledgement.
use Rattle.std.specs.Prelude.{◌≡◌, ◌≢◌, ℕ, suc, ◌+◌, ◌*◌, ◌<◌, ◌≤◌, false, List, [], ◌∷◌, ◌++◌, length, Some, None}
use Rattle.wl_level.specs.declared.Level.{Level}
use Rattle.wl_level.specs.declared.Level.TheVariants.{Recessive}
use Rattle.wl_level.specs.Levels.{is_dominant}
use Rattle.wl_segments.specs.Lengths.{Lengths, sample_at, bit_quanta}
use Rattle.wl_frame.specs.Stuffing.{Stuffs}
use Rattle.wl_frame.specs.Grammar.{Content, IsContent, bits_of}
use Rattle.wl_frame.specs.Laws.{up_to_ack}
use Rattle.wl_machine.specs.Stretch.{Stretch}
use Rattle.wl_machine.specs.Stretch.Sort.{Framing}
use Rattle.wl_machine.specs.Judged.{stretch_of}
use Rattle.wl_machine.specs.States.{stretch_by}
use Rattle.wl_node.specs.declared.setup.NodeSetup.{NodeSetup}
use Rattle.wl_node.specs.History.{staying_history, error_count}
use Rattle.wl_phase.specs.Clocks.{Steady, IsSteady, steady_tick}
use Rattle.wl_phase.specs.Ways.{ByTheBook}
use Rattle.wl_phase.specs.InStep.{Sender, Listener, ClocksAreNear, arrival}
use Rattle.wl_phase.specs.Answer.{ComesInTime, ComesAfterSample, own_sample}
use Rattle.wl_plan.specs.Line.{Line}
use Rattle.wl_plan.specs.Simulation.{seen}
use Rattle.wl_plan.specs.Sound.{IsCausal}
use Rattle.wl_buses.specs.BothProofs.Queues.{head_at}

-- A line and its nodes by number: their setups, and their clocks of one rate; the node that sends; its frame, and that with its stuff bits; and the bit, counted
-- from its power-up, at whose sample it decides to send.
pub record SenderBus : Type 0 where
  pub line : Line
  pub setups : ℕ → NodeSetup
  pub clocks : ℕ → Steady
  pub sender : ℕ
  pub frame : Content
  pub stuffed : List Level
  pub decides : ℕ

abbrev pub lengths_of : SenderBus → ℕ → Lengths
lengths_of b i = (b.setups i).segments

-- the sender, whose start of frame is its next bit; up to the CRC delimiter
abbrev pub sender_of : SenderBus → Sender
sender_of b = record {
  clock = b.clocks b.sender;
  bit_quanta = bit_quanta (lengths_of b b.sender);
  from = suc b.decides * bit_quanta (lengths_of b b.sender);
  bits = b.stuffed ++ Recessive ∷ [];
}

-- any other node
abbrev pub IsListener : SenderBus → ℕ → Type 0
IsListener b j = (j < b.line.nodes) × (j ≢ b.sender)

abbrev pub listener_of : SenderBus → ℕ → Listener
listener_of b j = record { clock = b.clocks j; lengths = lengths_of b j; delay = b.line.delay b.sender j }

-- These are the nodes of the line, at least two. They synchronise by the rules of the book, nothing disturbs them, and a way over a third node is longer.
pub record IsBus (b : SenderBus) : Type 0 where
  pub causal : IsCausal b.line
  pub sender : b.sender < b.line.nodes
  pub other : (j : ℕ) × IsListener b j
  pub drives : (i : ℕ) (levels : List Level) → i < b.line.nodes → b.line.drives i levels ≡ is_dominant (staying_history (b.setups i) levels).drive
  pub ticks : (i k : ℕ) → i < b.line.nodes → b.line.instant i k ≡ steady_tick (b.clocks i) k
  pub steady : (i : ℕ) → i < b.line.nodes → IsSteady (b.clocks i)
  pub book : (i : ℕ) → i < b.line.nodes → ByTheBook (lengths_of b i)
  pub undisturbed : (i t : ℕ) → i < b.line.nodes → b.line.disturbed i t ≡ false
  pub detours : (i j k : ℕ) → i < b.line.nodes → j < b.line.nodes → k < b.line.nodes → b.line.delay i k < b.line.delay i j + b.line.delay j k

-- The sender decides at the first sample at which its frame is ready and the bus is idle to it: the eleventh since its power-up, or a later one (Bosch CAN 2.0
-- part B, section 3.2.5; ISO 11898-1, bus integration). No other node has a frame, and the bus is idle to each before the start of frame reaches it.
pub record SendsFirst (b : SenderBus) : Type 0 where
  pub content : IsContent b.frame
  pub stuffs : Stuffs b.stuffed (bits_of b.frame)
  pub idle : 10 ≤ b.decides
  pub ready : head_at (b.setups b.sender) (b.setups b.sender).queue (b.decides * bit_quanta (lengths_of b b.sender) + sample_at (lengths_of b b.sender)) ≡ Some b.frame
  pub unready : (n : ℕ) → 10 ≤ n → n < b.decides
      → head_at (b.setups b.sender) (b.setups b.sender).queue (n * bit_quanta (lengths_of b b.sender) + sample_at (lengths_of b b.sender)) ≡ None
  pub alone : (j : ℕ) → IsListener b j → (b.setups j).queue ≡ []
  pub others : (j : ℕ) → IsListener b j
      → steady_tick (b.clocks j) (10 * bit_quanta (lengths_of b j) + sample_at (lengths_of b j)) < arrival (sender_of b) (listener_of b j) 0

-- What the clocks and delays have to meet: each listener's rate is near the sender's, its acknowledgement comes back in time, and reaches no other listener before that
-- one's sample of the CRC delimiter. What it drives itself comes back to it by the sample.
pub record IsInStepWithAll (b : SenderBus) : Type 0 where
  pub near : (j : ℕ) → IsListener b j → ClocksAreNear (sender_of b) (listener_of b j)
  pub answers : (j : ℕ) → IsListener b j → ComesInTime (sender_of b) (lengths_of b b.sender) (listener_of b j) (b.line.delay j b.sender)
  pub apart : (i j : ℕ) → IsListener b i → IsListener b j → i ≢ j → ComesAfterSample (sender_of b) (listener_of b i) (listener_of b j) (b.line.delay i j)
  pub loops : (j : ℕ) → IsListener b j → (b.clocks j).den * b.line.delay j j ≤ sample_at (lengths_of b j) * (b.clocks j).num

-- the tick of the sender's sample of the ACK slot, if nothing moves it
abbrev pub slot_tick : SenderBus → ℕ
slot_tick b = steady_tick (b.clocks b.sender) (own_sample (sender_of b) (lengths_of b b.sender) (suc (length b.stuffed)))

-- The line ends after that sample, which is late by the jump width at most, and after so many quanta more of each other node as its sample is in a bit.
pub record EndsAfterSlot (b : SenderBus) : Type 0 where
  pub sender : steady_tick (b.clocks b.sender) (own_sample (sender_of b) (lengths_of b b.sender) (suc (length b.stuffed)) + (lengths_of b b.sender).sjw) < b.line.stop
  pub others : (j : ℕ) → IsListener b j → (b.clocks j).den * slot_tick b + sample_at (lengths_of b j) * (b.clocks j).num ≤ (b.clocks j).den * b.line.stop

-- After so many quanta, all before the end, a node is in this stretch of its machine, and has found no error.
pub record IsAtStretch (b : SenderBus) (i : ℕ) (s : Stretch) : Type 0 where
  pub quanta : ℕ
  pub inside : (k : ℕ) → k < quanta → b.line.instant i k < b.line.stop
  pub stretch : stretch_of (staying_history (b.setups i) (seen b.line i quanta)).inputs ≡ s
  pub fine : error_count (staying_history (b.setups i) (seen b.line i quanta)) ≡ 0

-- Each listener has sampled the frame's bits up to the CRC delimiter, and the sender those, and its acknowledgement. Some listener, as the first one, has driven and
-- sampled it (Bosch CAN 2.0 part B, section 3.2.1, ACK field).
pub record IsAcknowledged (b : SenderBus) : Type 0 where
  pub received : (j : ℕ) → IsListener b j → IsAtStretch b j (stretch_by (Framing None) (b.stuffed ++ Recessive ∷ []))
  pub sent : IsAtStretch b b.sender (stretch_by (Framing (Some b.frame)) (up_to_ack b.stuffed))
  pub answered : (j : ℕ) × IsListener b j × IsAtStretch b j (stretch_by (Framing None) (up_to_ack b.stuffed))
