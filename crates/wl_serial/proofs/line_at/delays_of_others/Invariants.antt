use Rattle.wl_serial.proofs.Known.{OthersSoFar}
use Rattle.wl_serial.proofs.line_at.delays_of_others.Given as goal

abbrev pub invariant-loop-i : goal.invariant-loop-i
invariant-loop-i l = OthersSoFar l.plan l.j l.others l.i
