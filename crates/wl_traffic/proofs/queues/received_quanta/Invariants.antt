use Rattle.std.proofs.Common.{◌≡◌, take}
use Rattle.wl_traffic.specs.Entries.{received_quanta}
use Rattle.wl_traffic.proofs.queues.received_quanta.Given as goal

-- those of the frames so far
abbrev pub invariant-loop-passed : goal.invariant-loop-passed
invariant-loop-passed l = l.received.items ≡ received_quanta (take l.passed-index l.frames)
