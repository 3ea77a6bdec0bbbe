use Rattle.std.proofs.Common.{take}
use Rattle.wl_worker.specs.Faults.{IsLowestFault}
use Rattle.wl_worker.proofs.threads.first_fault.Given as goal

abbrev pub invariant-loop-i : goal.invariant-loop-i
invariant-loop-i l = IsLowestFault (take l.i l.ends) l.first
