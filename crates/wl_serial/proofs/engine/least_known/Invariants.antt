use Rattle.wl_serial.proofs.Known.{IsLeast}
use Rattle.wl_serial.proofs.engine.least_known.Given as goal

abbrev pub invariant-loop-i : goal.invariant-loop-i
invariant-loop-i l = IsLeast l.known l.i l.node l.least
