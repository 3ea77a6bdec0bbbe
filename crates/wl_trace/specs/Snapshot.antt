-- What a waveform shows of a node, as a function of its setup and of the levels that it saw: what it drives, two marks that are low at first and turn at
-- each of its samples and at each start of a bit, and what it is at. The marks are this project's profile.
use Rattle.std.specs.Prelude.{ℕ, zero, suc, Bool, false, not, List, length}
use Rattle.wl_level.specs.declared.Level.{Level}
use Rattle.wl_sync.specs.Running.{clock_after}
use Rattle.wl_sync.specs.Skips.{free_quanta}
use Rattle.wl_node.specs.declared.setup.NodeSetup.{NodeSetup}
use Rattle.wl_node.specs.History.{history_of, staying_history}
use Rattle.wl_trace.specs.declared.snapshot.NodeSnapshot.{NodeSnapshot}
use Rattle.wl_trace.specs.Starts.{starts_of, staying_starts}
use Rattle.wl_trace.specs.States.{node_state_of}

-- what is low at first, and has turned so often
abbrev pub mark : ℕ → Bool
mark zero = false
mark (suc n) = not (mark n)

abbrev pub snapshot_of : NodeSetup → List Level → NodeSnapshot
snapshot_of setup levels = record {
  drive = (history_of setup levels).drive;
  sampled = mark (length (history_of setup levels).samples);
  started = mark (length (starts_of setup levels));
  state = node_state_of (history_of setup levels);
}

-- the same of a node that never leaves the bus
abbrev pub staying_snapshot : NodeSetup → List Level → NodeSnapshot
staying_snapshot setup levels = record {
  drive = (staying_history setup levels).drive;
  sampled = mark (length (staying_history setup levels).samples);
  started = mark (length (staying_starts setup levels));
  state = node_state_of (staying_history setup levels);
}

-- how many quanta of this level come before the next that samples or begins a bit, for such a node that saw these levels
abbrev pub plain_quanta : NodeSetup → List Level → Level → ℕ
plain_quanta setup levels level = free_quanta false (clock_after setup.segments (staying_history setup levels).seen) level
