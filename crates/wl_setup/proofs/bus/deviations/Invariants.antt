use Rattle.wl_setup.specs.Buses.{deviation_of}
use Rattle.wl_setup.proofs.PlanLemmas.{IsSoFar}
use Rattle.wl_setup.proofs.bus.deviations.Given as goal

abbrev pub invariant-loop-i : goal.invariant-loop-i
invariant-loop-i l = IsSoFar deviation_of l.all l.i l.nodes
