use Rattle.std.proofs.Common.{◌≡◌}
use Rattle.wl_sweep.specs.Worst.{free_id}
use Rattle.wl_sweep.proofs.worst.free_id.Given as goal

abbrev pub invariant-loop-id : goal.invariant-loop-id
invariant-loop-id l = free_id l.nodes l.id ≡ free_id l.nodes l.fn.below

abbrev pub decreases-loop-id : goal.decreases-loop-id
decreases-loop-id l = l.id
