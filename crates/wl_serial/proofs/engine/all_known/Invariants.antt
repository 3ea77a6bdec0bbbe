use Rattle.wl_serial.proofs.Known.{KnownSoFar}
use Rattle.wl_serial.proofs.engine.all_known.Given as goal

abbrev pub invariant-loop-i : goal.invariant-loop-i
invariant-loop-i l = KnownSoFar l.plan.end l.running l.known l.i
