use Rattle.std.proofs.Common.{◌≡◌, length, take}
use Rattle.wl_trace.specs.Replay.{IsReplay}
use Rattle.wl_trace.proofs.Replayed.{replay_of}
use Rattle.wl_trace.proofs.replay.node_events.Given as goal

-- what came of the samples so far
abbrev pub invariant-loop-bit : goal.invariant-loop-bit
invariant-loop-bit l = record {
  past : IsReplay l.setup l.replay (replay_of l.setup (take l.bit l.samples)).0;
  events : l.notes.events.items ≡ (replay_of l.setup (take l.bit l.samples)).1;
  counted : length (replay_of l.setup (take l.bit l.samples)).0.samples ≡ l.bit;
}
