-- A node from one frame to the third bit of the next intermission.
use Rattle.std.specs.Prelude.{ℕ, suc, ◌+◌, ◌<◌}
use Rattle.wl_level.specs.declared.Level.{Level}
use Rattle.wl_frame.specs.Grammar.{Content}
use Rattle.wl_node.specs.History.{History}
use Rattle.wl_buses.specs.OneFrame.Stations.{Stations}
use Rattle.wl_buses.specs.OneFrame.Expected.{Outset}
use Rattle.wl_buses.specs.OneFrame.Nodes.{GoesToNext}
use Rattle.wl_buses.specs.FrameEnd.Third.{NodeEndsInThird}
use Rattle.wl_buses.specs.NextFrames.NextNodes.{BeginsSince}

-- It begins the frame as is expected, samples each bit as it is on the bus, the frame passes it, sent or received, and it is in its third bit then.
pub record GoesToThird (s : Stations) (o : Outset) (end sender i : ℕ) (frame : Content) (levels : ℕ → Level) (node : ℕ → History) (since : ℕ) : Type 0 where
  pub begins : BeginsSince s o i levels node since
  pub next : (n : ℕ) → suc n < end + 12 → GoesToNext s o i levels node n
  pub ends : NodeEndsInThird s o end sender i frame levels node
