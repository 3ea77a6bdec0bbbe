-- Frames that the queues of nodes hand to a bus one after another, as numbers alone, whatever the order of each queue is.
use Rattle.std.specs.Prelude.{◌≡◌, ℕ, suc, ◌+◌, ◌<◌, ◌≤◌, Bool, true, false, if◌then◌else◌}
use Rattle.wl_counts.specs.Counts.{periods_in}
use Rattle.wl_counts.specs.Waits.{AreSporadic, Frames, Table}

-- Frame n is of a message. It is ready at an instant, and won by a node. `gap n` says that no node had one ready in time for frame n to follow the one before without a gap.
pub record QueuedFrames : Type 0 where
  pub count : ℕ
  pub message : ℕ → ℕ
  pub ready : ℕ → ℕ
  pub winner : ℕ → ℕ
  pub begin : ℕ → ℕ
  pub sent : ℕ → ℕ
  pub gap : ℕ → Bool

-- its frames
abbrev pub frames_in : QueuedFrames → Frames
frames_in x = record { message = x.message; ready = x.ready; begin = x.begin; sent = x.sent }

-- What is known of the messages of a bus: the time that each frame takes from its beginning to that of the next winner, its time to its end, and the period of its message. `joins m e` says that e
-- has a field within the level of m, and `mixed m i` that the queue of node i is first in, first out, and has one beyond it too. A frame that hasn't begun was ready less than `lead` before the one that has. After a gap a
-- ready frame is begun within `wake`, beside that (Davis, Burns, Bril, Lukkien 2007, section 3; Davis, Kollmann, Pollex, Slomka 2011, queues).
pub record Terms : Type 0 where
  pub messages : ℕ
  pub node : ℕ → ℕ
  pub cost : ℕ → ℕ
  pub tail : ℕ → ℕ
  pub period : ℕ → ℕ
  pub joins : ℕ → ℕ → Bool
  pub mixed : ℕ → ℕ → Bool
  pub lead : ℕ
  pub wake : ℕ

-- how long before the instant of a window of m a frame of e may have become ready, if no frame of a message waits longer than r
abbrev pub early_by : Terms → (r : ℕ → ℕ) → (m e : ℕ) → ℕ
early_by t r m e = t.lead + (if t.mixed m (t.node e) then r e else 0)

abbrev pub table_by : Terms → (blocking r : ℕ → ℕ) → Table
table_by t blocking r = record {
  messages = t.messages;
  cost = t.cost;
  tail = t.tail;
  most = λ e length. periods_in length (t.period e);
  blocking = blocking;
  joins = t.joins;
  early = early_by t r;
}

-- a frame beyond the level blocks no longer, nor does a gap
pub record BlockNoLonger (t : Terms) (blocking : ℕ → ℕ) : Type 0 where
  pub lesser : (m e : ℕ) → m < t.messages → e < t.messages → t.joins m e ≡ false → t.cost e ≤ blocking m
  pub wakes : (m : ℕ) → m < t.messages → t.wake ≤ blocking m

-- The frames are those of these messages.
pub record AreQueuedFrames (x : QueuedFrames) (t : Terms) : Type 0 where
  pub known : (n : ℕ) → n < x.count → x.message n < t.messages
  pub node : (n : ℕ) → n < x.count → t.node (x.message n) ≡ x.winner n
  pub sporadic : AreSporadic t.period x.message x.ready x.count
  -- each message is within its own level, and then its own queue isn't mixed
  pub own : (n : ℕ) → n < x.count → t.joins (x.message n) (x.message n) ≡ true
  pub pure : (n : ℕ) → n < x.count → t.mixed (x.message n) (x.winner n) ≡ false
  -- who wins has been ready, and how long its frame takes
  pub begun : (n : ℕ) → n < x.count → x.ready n ≤ x.begin n
  pub ended : (n : ℕ) → n < x.count → x.sent n ≤ x.begin n + t.tail (x.message n)
  pub next : (n : ℕ) → suc n < x.count → x.gap (suc n) ≡ false → x.begin (suc n) ≤ x.begin n + t.cost (x.message n)
  pub passes : (n k : ℕ) → n < k → k < x.count → x.begin n < x.sent k + t.lead
  -- If a frame beyond a level wins, no later one within it was ready in time, but for one of a mixed queue. And after a gap none was.
  pub late : (m n k : ℕ) → n < k → k < x.count → t.mixed m (x.winner k) ≡ false → t.joins m (x.message n) ≡ false → t.joins m (x.message k) ≡ true → x.begin n < x.ready k + t.lead
  pub first : x.gap 0 ≡ true
  pub idle : (n k : ℕ) → n ≤ k → k < x.count → x.gap n ≡ true → x.begin n < x.ready k + t.lead + t.wake
