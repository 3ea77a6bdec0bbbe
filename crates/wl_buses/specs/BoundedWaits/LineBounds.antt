-- How long the frames on a line wait, whenever it ends.
use Rattle.std.specs.Prelude.{ℕ, ◌+◌, ◌*◌, ◌<◌, ◌≤◌, length}
use Rattle.wl_node.specs.declared.setup.NodeSetup.{NodeSetup}
use Rattle.wl_plan.specs.Line.{Line}
use Rattle.wl_plan.specs.Simulation.{AreInside}
use Rattle.wl_buses.specs.OneFrame.Stations.{Stations}
use Rattle.wl_buses.specs.CleanLines.Lines.{FramesOfLine, LineGetsThrough, line_history, waiting_with}
use Rattle.wl_buses.specs.FrameTimes.Times.{Times, passing_sample}
use Rattle.wl_buses.specs.BoundedWaits.Leaving.{ready_won}
use Rattle.wl_buses.specs.BoundedWaits.Messages.{Messages}

-- the quantum from which on a frame is ready, and that of the sample with which it is sent
abbrev pub line_ready : (setups : ℕ → NodeSetup) (s : Stations) → FramesOfLine setups (waiting_with setups s) → ℕ → ℕ
line_ready setups s bus n = ready_won s setups bus.frames bus.by.winner bus.by.content n

abbrev pub line_sent : (setups : ℕ → NodeSetup) (s : Stations) → FramesOfLine setups (waiting_with setups s) → ℕ → ℕ
line_sent setups s bus n = passing_sample s (bus.frames n) (bus.by.winner n) (bus.by.winner n)

-- No frame waits longer than r of its message, in units of time: its quanta from the one to the other take no longer by its winner's clock.
abbrev pub LineWaitsNoLonger : (setups : ℕ → NodeSetup) (s : Stations) → FramesOfLine setups (waiting_with setups s) → Times → Messages → (r : ℕ → ℕ) → Type 0
LineWaitsNoLonger setups s bus t ms r = (n : ℕ) → n < bus.count
    → t.unit * (line_sent setups s bus n * (s.clocks (bus.by.winner n)).num)
    ≤ t.unit * (line_ready setups s bus n * (s.clocks (bus.by.winner n)).num)
    + r (ms.of (bus.by.winner n) (bus.by.content n)) * (s.clocks (bus.by.winner n)).den

-- And if a node has been for longer than that after its frame was ready, up to the end of the line, the frame has passed it.
abbrev pub LinePassesInTime : (l : Line) (setups : ℕ → NodeSetup) (s : Stations) → LineGetsThrough l setups (waiting_with setups s) → Times → Messages → (r : ℕ → ℕ) → Type 0
LinePassesInTime l setups s all t ms r = (n k : ℕ) → n < all.bus.count → AreInside l (all.bus.by.winner n) k
    → t.unit * (line_ready setups s all.bus n * (s.clocks (all.bus.by.winner n)).num)
    + r (ms.of (all.bus.by.winner n) (all.bus.by.content n)) * (s.clocks (all.bus.by.winner n)).den
    < t.unit * (k * (s.clocks (all.bus.by.winner n)).num)
    → n < length (line_history l setups (all.bus.by.winner n) k).frames
