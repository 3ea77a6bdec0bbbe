use Rattle.std.proofs.Common.{◌≡◌, ◌^◌, ◌-◌, min}
use Rattle.wl_counts.specs.Counts.{sum_below}
use Rattle.wl_respond.specs.Inequalities.{instance_share}
use Rattle.wl_respond.proofs.inequality.instance_demand.Given as goal

abbrev pub invariant-loop-e : goal.invariant-loop-e
invariant-loop-e l = l.demand ≡ min (sum_below (instance_share l.common.lead l.common.wake l.rows l.k l.it.j l.it.window) l.e) (2 ^ 128 - 1)
