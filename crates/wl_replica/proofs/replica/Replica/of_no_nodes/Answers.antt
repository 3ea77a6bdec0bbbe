use Rattle.std.proofs.Common.{length, ap, arith}
use Rattle.wl_replica.proofs.RunsTaken.{nothing_runs}
use Rattle.wl_replica.proofs.replica.Replica.of_no_nodes.Goals as goal

pub invariant_of-result : goal.invariant_of-result
invariant_of-result c =
    nothing_runs 0 c.of_no_nodes.result c.of_no_nodes.ensures c.new.result.items (ap length c.new.ensures.items)
    (λ i d lt. absurd (omega (arith, lt)))
