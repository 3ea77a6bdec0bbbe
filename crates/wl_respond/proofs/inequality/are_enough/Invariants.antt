use Rattle.std.proofs.Common.{◌≡◌}
use Rattle.wl_topology.specs.Driven.{any_below}
use Rattle.wl_respond.specs.Inequalities.{lacks_enough}
use Rattle.wl_respond.proofs.inequality.are_enough.Given as goal

abbrev pub invariant-loop-k : goal.invariant-loop-k
invariant-loop-k l = l.lacks ≡ any_below l.k (lacks_enough l.common.lead l.common.wake l.rows l.windows)
