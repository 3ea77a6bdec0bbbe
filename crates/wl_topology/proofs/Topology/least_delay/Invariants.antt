use Rattle.wl_topology.specs.Delays.{IsLeastOf}
use Rattle.wl_topology.proofs.Topology.least_delay.Given as goal

abbrev pub invariant-loop-i : goal.invariant-loop-i
invariant-loop-i l = IsLeastOf l.self l.i l.least
