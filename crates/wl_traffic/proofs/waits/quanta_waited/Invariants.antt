use Rattle.std.proofs.Common.{◌≡◌, take}
use Rattle.wl_traffic.specs.Waits.{quanta_waited}
use Rattle.wl_traffic.proofs.waits.quanta_waited.Given as goal

-- those of the frames so far
abbrev pub invariant-loop-entry : goal.invariant-loop-entry
invariant-loop-entry l = l.waits.items ≡ quanta_waited (take l.entry-index l.mine)
