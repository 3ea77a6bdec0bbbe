-- What a node shows since a silence.
use Rattle.std.specs.Prelude.{◌≡◌, IsPermutation, ℕ, zero, suc, ◌<◌, ◌≤◌, ◌==◌, Bool, List, [], ◌∷◌, ◌++◌, map}
use Rattle.wl_frame.specs.Grammar.{Content}
use Rattle.wl_node.specs.declared.setup.NodeSetup.{NodeSetup}
use Rattle.wl_node.specs.declared.setup.Passed.{Passed}
use Rattle.wl_node.specs.History.{History, counters_of, error_count, unsent_of}
use Rattle.wl_buses.specs.BothProofs.Queues.{IsFifo, queued_contents}
use Rattle.wl_buses.specs.CleanPlans.Clean.{sent_contents}
use Rattle.wl_plan.specs.Line.{Line}
use Rattle.wl_plan.specs.Simulation.{AreInside}
use Rattle.wl_buses.specs.CleanLines.Lines.{line_history}
use Rattle.wl_silence.specs.Restarts.{DoNotRise}
use Rattle.wl_silence.specs.Silences.{after_eleventh}

-- a frame that has passed, without its quantum
abbrev pub way_passed : Passed → Bool × Content
way_passed p = (p.sent, p.frame)

-- The first n frames of a list, each with its sender, as they pass node i: its own it has sent, all others it has received (Bosch CAN 2.0 part B, section 5).
abbrev pub frames_passing : (sender : ℕ → ℕ) → (content : ℕ → Content) → (i n : ℕ) → List (Bool × Content)
frames_passing sender content i zero = []
frames_passing sender content i (suc n) = frames_passing sender content i n ++ (i == sender n, content n) ∷ []

-- Since it was there before, node i has found no error, and its counters haven't risen. First frames of the list have passed it since. The frames that it has sent since, and those that are left in its queue, are those that
-- were left before, each once, and in their order if that is first in, first out.
pub record ShowsClean (setup : NodeSetup) (i : ℕ) (sender : ℕ → ℕ) (content : ℕ → Content) (count : ℕ) (before now : History) : Type 0 where
  pub errors : error_count now ≡ error_count before
  pub counters : DoNotRise (counters_of before) (counters_of now)
  pub since : List Passed
  pub frames : now.frames ≡ before.frames ++ since
  pub passed : (n : ℕ) × (n ≤ count) × (map way_passed since ≡ frames_passing sender content i n)
  pub left : IsPermutation (queued_contents (unsent_of setup before)) (sent_contents since ++ queued_contents (unsent_of setup now))
  pub order : IsFifo setup → sent_contents since ++ queued_contents (unsent_of setup now) ≡ queued_contents (unsent_of setup before)

-- One list of frames, each with its sender, is on a line since a silence, and each node is so at each of its quanta up to the end of the line.
abbrev pub ShowCleanSince : Line → (setups : ℕ → NodeSetup) → (first : ℕ → ℕ) → Type 0
ShowCleanSince l setups first =
    (sender : ℕ → ℕ) × (content : ℕ → Content) × (count : ℕ)
    × ((i k : ℕ) → i < l.nodes → after_eleventh l setups first i ≤ k → AreInside l i k → ShowsClean (setups i) i sender content count (line_history l setups i (after_eleventh l setups first i)) (line_history l setups i k))
