-- Which stations take part in a frame, by when each has one ready.
use Rattle.std.specs.Prelude.{◌≡◌, ◌≢◌, ℕ, ◌+◌, ◌<◌, ◌≤◌, Bool, true, false, List, Some, slice_get}
use Rattle.wl_frame.specs.Grammar.{Content}
use Rattle.wl_phase.specs.Clocks.{steady_tick}
use Rattle.wl_wire.specs.Winner.{Beats}
use Rattle.wl_buses.specs.OneFrame.Stations.{Stations}
use Rattle.wl_buses.specs.OneFrame.Starts.{Start}
use Rattle.wl_buses.specs.FirstFrame.FirstStarts.{Waiting, decision_quantum, due_first, has_first}
use Rattle.wl_buses.specs.NextFrames.NextStarts.{Resting, decision_next, due_next, has_next}

-- Stations on a silent line: which of them have a frame to send, by which quantum each decides to, and with which its start of frame is due then (Bosch CAN 2.0 part B, section 3.2.5, bus idle).
pub record Offers : Type 0 where
  pub has : ℕ → Bool
  pub decision : ℕ → ℕ
  pub due : ℕ → ℕ

-- before the next frame, and before the first one
abbrev pub next_offers : Resting → Offers
next_offers r = record { has = has_next r; decision = decision_next r; due = due_next r }

abbrev pub first_offers : Waiting → Offers
first_offers w = record { has = has_first w; decision = decision_quantum w; due = due_first w }

-- A start of frame of another station reaches this one by its decision, if that begins when it is due.
pub record IsReachedFirst (s : Stations) (f : Offers) (i : ℕ) : Type 0 where
  pub by : ℕ
  pub inside : by < s.count
  pub other : by ≢ i
  pub offers : f.has by ≡ true
  pub reached : steady_tick (s.clocks by) (f.due by) + s.delay by i ≤ steady_tick (s.clocks i) (f.decision i)

-- Who begins the frame has one to send, and has decided before. Whoever has one begins its bit by the quantum with which its own is due. Nobody begins it later than the start of frame of another one
-- that has a frame can reach it. Who has a frame and doesn't begin it was reached first (Bosch CAN 2.0 part B, section 3.1, multimaster).
pub record TakePart (s : Stations) (f : Offers) (b : Start) : Type 0 where
  pub offers : (i : ℕ) → i < s.count → b.drives i ≡ true → f.has i ≡ true
  pub decided : (i : ℕ) → i < s.count → b.drives i ≡ true → f.decision i ≤ b.place i
  pub by_due : (i : ℕ) → i < s.count → f.has i ≡ true → b.place i ≤ f.due i
  pub near : (i j : ℕ) → i < s.count → j < s.count → i ≢ j → f.has i ≡ true
      → steady_tick (s.clocks j) (b.place j) < steady_tick (s.clocks i) (f.due i) + s.delay i j
  pub missed : (i : ℕ) → i < s.count → f.has i ≡ true → b.drives i ≡ false → IsReachedFirst s f i

-- Station k has begun with the one of its frames that it decided on, and the winner's frame beats it (Bosch CAN 2.0 part B, section 3.1, arbitration).
pub record BeganWith (frames : ℕ → List Content) (which : ℕ → ℕ) (k : ℕ) (winner : Content) : Type 0 where
  pub frame : Content
  pub is : slice_get (frames k) (which k) ≡ Some frame
  pub beaten : Beats winner frame
