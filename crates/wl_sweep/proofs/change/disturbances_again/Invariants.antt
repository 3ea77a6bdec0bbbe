use Rattle.std.proofs.Common.{◌≡◌, ◌++◌, drop}
use Rattle.wl_sweep.proofs.change.disturbances_again.Given as goal

abbrev pub invariant-loop-disturbance : goal.invariant-loop-disturbance
invariant-loop-disturbance l = l.copies ++ drop l.disturbance-index l.disturbances ≡ l.disturbances
