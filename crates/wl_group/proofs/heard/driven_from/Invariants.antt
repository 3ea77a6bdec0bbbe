use Rattle.std.proofs.Common.{◌≡◌, ℕ, ◌-◌, ◌<◌, ◌≤◌, ◌&&◌, false, nat_le}
use Rattle.wl_topology.specs.Delays.{delay_of}
use Rattle.wl_plan.specs.PlanLine.{line_of}
use Rattle.wl_plan.specs.Simulation.{level}
use Rattle.wl_group.specs.Heard.{AreHeardOf}
use Rattle.wl_group.proofs.HeardProofs.{Turn, IsAsked}
use Rattle.wl_group.proofs.heard.driven_from.Given as goal

-- up to then none of the nodes that were asked drives dominant there
abbrev pub invariant-loop-asked : goal.invariant-loop-asked
invariant-loop-asked l = record {
  early : l.t < l.until;
  inside : l.i < l.nodes;
  turn : Turn l.first l.nodes l._asked l.i;
  sources : AreHeardOf (line_of l.plan) l.j l.sources;
  silent : (u : ℕ) → l.t ≤ u → u < l.until → (n : ℕ) → n < l.nodes → IsAsked l.first l.nodes l._asked n
      → (nat_le (delay_of l.plan.topology n l.j) u && level (line_of l.plan) n (u - delay_of l.plan.topology n l.j)) ≡ false;
}
