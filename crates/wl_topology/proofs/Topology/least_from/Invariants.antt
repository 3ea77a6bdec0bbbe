use Rattle.wl_topology.specs.Delays.{IsLeastFrom}
use Rattle.wl_topology.proofs.Topology.least_from.Given as goal

abbrev pub invariant-loop-j : goal.invariant-loop-j
invariant-loop-j l = IsLeastFrom l.self l.i l.j l.least
