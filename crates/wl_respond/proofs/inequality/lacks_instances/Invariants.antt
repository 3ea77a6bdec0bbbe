use Rattle.std.proofs.Common.{◌≡◌}
use Rattle.wl_topology.specs.Driven.{any_below}
use Rattle.wl_respond.specs.Inequalities.{lacks_instance}
use Rattle.wl_respond.proofs.inequality.lacks_instances.Given as goal

abbrev pub invariant-loop-j : goal.invariant-loop-j
invariant-loop-j l = l.lacks ≡ any_below l.j (lacks_instance l.common.lead l.common.wake l.rows l.windows l.k)
