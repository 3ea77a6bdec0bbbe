use Rattle.std.proofs.Common.{◌≡◌, take}
use Rattle.wl_traffic.specs.Waits.{time_waited}
use Rattle.wl_traffic.proofs.waits.time_waited.Given as goal

-- those of the frames so far
abbrev pub invariant-loop-entry : goal.invariant-loop-entry
invariant-loop-entry l = l.waits.items ≡ time_waited l.tick l.clock (take l.entry-index l.mine)
