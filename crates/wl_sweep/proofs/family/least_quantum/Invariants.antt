use Rattle.std.proofs.Common.{◌≡◌, drop, min}
use Rattle.std.specs.Prelude.{fold}
use Rattle.wl_sweep.specs.Family.{quantum_in, least_quantum}
use Rattle.wl_sweep.proofs.family.least_quantum.Given as goal

abbrev pub invariant-loop-node : goal.invariant-loop-node
invariant-loop-node l = fold (λ least node. min least (quantum_in node)) l.least (drop l.node-index l.nodes) ≡ least_quantum l.nodes
