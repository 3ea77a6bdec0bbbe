-- A bus on which one node has frames: what keeps each acknowledgement in its slot, and what becomes of all frames.
use Rattle.std.specs.Prelude.{◌≡◌, ◌≢◌, ℕ, zero, suc, ◌+◌, ◌*◌, ◌<◌, ◌≤◌, max, List, ◌++◌, length, map, ◌==◌, count_by, Some, slice_get, if◌then◌else◌}
use Rattle.wl_segments.specs.Lengths.{bit_quanta}
use Rattle.wl_level.specs.declared.Level.{Level}
use Rattle.wl_confine.specs.Counts.{no_counts}
use Rattle.wl_frame.specs.Stuffing.{Stuffs}
use Rattle.wl_frame.specs.Grammar.{Content, IsContent, bits_of}
use Rattle.wl_node.specs.declared.setup.Queued.{Queued}
use Rattle.wl_node.specs.History.{History, staying_history, counters_of, error_count, is_sent, unsent_of}
use Rattle.wl_phase.specs.Answer.{EndsAfterMove, EndsBeforeSample, EndsInTime, FitsBit}
use Rattle.wl_plan.specs.Simulation.{seen, AreInside}
use Rattle.wl_buses.specs.OneSender.OneSender.{SenderBus, IsListener, lengths_of, listener_of, sender_of}
use Rattle.wl_buses.specs.BothProofs.Queues.{ComeFrom, IsFifo, queued_contents, ready_at}

-- The acknowledgement of a listener is over at each node by that one's sample of the ACK delimiter. It may be early there, and then moves the node to which it comes first: it is
-- over then, and those of all others, by the sample of the ACK delimiter that has moved with it.
pub record EndsInSlots (b : SenderBus) : Type 0 where
  pub ends_there : (j : ℕ) → IsListener b j → EndsInTime (sender_of b) (lengths_of b b.sender) (listener_of b j) (b.line.delay j b.sender)
  pub ends : (i j : ℕ) → IsListener b i → IsListener b j → i ≢ j → EndsBeforeSample (sender_of b) (listener_of b i) (listener_of b j) (b.line.delay i j)
  pub fits : (i j : ℕ) → IsListener b i → IsListener b j → i ≢ j → FitsBit (listener_of b i) (b.clocks j) (lengths_of b j)
  pub moved : (i j w : ℕ) → IsListener b i → IsListener b j → i ≢ j → w < b.line.nodes → w ≢ i → w ≢ j
      → EndsAfterMove (sender_of b) (listener_of b i) (listener_of b j) (b.clocks w) (lengths_of b w) (b.line.delay i w) (b.line.delay j w)

-- the frames that the sender has
abbrev pub sender_queue : SenderBus → List Queued
sender_queue b = (b.setups b.sender).queue

-- The sender may send this frame after n others: it is one of its queue, and the next of a queue that is first in, first out.
pub record MaySend (b : SenderBus) (n : ℕ) (frame : Content) : Type 0 where
  pub some : (place : ℕ) × (slice_get (queued_contents (sender_queue b)) place ≡ Some frame)
  pub order : IsFifo (b.setups b.sender) → slice_get (queued_contents (sender_queue b)) n ≡ Some frame

-- each is a frame, with these stuff bits, and that which it sends after n others has no more bits than so many
pub record AreFrames (b : SenderBus) (stuffed : Content → List Level) (lengths : ℕ → ℕ) : Type 0 where
  pub content : (place : ℕ) (frame : Content) → slice_get (queued_contents (sender_queue b)) place ≡ Some frame → IsContent frame
  pub stuffs : (place : ℕ) (frame : Content) → slice_get (queued_contents (sender_queue b)) place ≡ Some frame → Stuffs (stuffed frame) (bits_of frame)
  pub short : (n : ℕ) (frame : Content) → MaySend b n frame → length (stuffed frame) ≤ lengths n

-- a node after its first k quanta: none leaves the bus
abbrev pub history_at : SenderBus → (i k : ℕ) → History
history_at b i k = staying_history (b.setups i) (seen b.line i k)

-- the frames that a node has sent or received
abbrev pub passed_at : SenderBus → (i k : ℕ) → List Content
passed_at b i k = map (λ p. p.frame) (history_at b i k).frames

-- So many quanta of the sender after its power-up its first n frames are sent, at the latest: each takes its bits, and 15 more, from when it is ready and the one before
-- it is sent. Those are the ten bits up to the end of frame, the intermission, and up to two that pass until the next sample.
abbrev pub due_quantum : SenderBus → (lengths : ℕ → ℕ) → ℕ → ℕ
due_quantum b lengths zero = 8 * bit_quanta (lengths_of b b.sender)
due_quantum b lengths (suc n) = max (due_quantum b lengths n) (ready_at (sender_queue b) n) + (lengths n + 15) * bit_quanta (lengths_of b b.sender)

-- At each quantum of each node up to the end there was no error and nothing that counts. The frames so far are the first of one line of frames of the sender's queue; it has sent them and all others
-- have received them. Each is sent in time, and whatever is sent by then each listener has received.
pub record GetThrough (b : SenderBus) (lengths : ℕ → ℕ) : Type 0 where
  pub fine : (i k : ℕ) → i < b.line.nodes → AreInside b.line i k → error_count (history_at b i k) ≡ 0
  pub counters : (i k : ℕ) → i < b.line.nodes → AreInside b.line i k → counters_of (history_at b i k) ≡ no_counts
  pub line : List Content
  pub left : List Content
  pub queue : ComeFrom (b.setups b.sender) line left
  pub frames : (i k : ℕ) → i < b.line.nodes → AreInside b.line i k → (rest : List Content) × (passed_at b i k ++ rest ≡ line)
  pub roles : (i k : ℕ) → i < b.line.nodes → AreInside b.line i k
      → count_by is_sent (history_at b i k).frames ≡ (if i == b.sender then length (history_at b i k).frames else 0)
  -- what each has sent and what its queue still has are as many as it had
  pub unsent : (i k : ℕ) → i < b.line.nodes → AreInside b.line i k
      → length (unsent_of (b.setups i) (history_at b i k)) + count_by is_sent (history_at b i k).frames ≡ length (b.setups i).queue
  pub sent : (n k : ℕ) → n ≤ length (sender_queue b) → AreInside b.line b.sender k → due_quantum b lengths n ≤ k → n ≤ length (passed_at b b.sender k)
  pub received : (j k q : ℕ) → IsListener b j → AreInside b.line b.sender k → AreInside b.line j q → b.line.instant b.sender k ≤ b.line.instant j q
      → length (passed_at b b.sender k) ≤ length (passed_at b j q)
