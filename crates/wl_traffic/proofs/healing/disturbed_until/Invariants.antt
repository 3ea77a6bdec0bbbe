use Rattle.std.proofs.Common.{◌≡◌, take}
use Rattle.wl_traffic.specs.Healing.{disturbed_until}
use Rattle.wl_traffic.proofs.healing.disturbed_until.Given as goal

-- that of those so far
abbrev pub invariant-loop-disturbance : goal.invariant-loop-disturbance
invariant-loop-disturbance l = l.last ≡ disturbed_until (take l.disturbance-index l.disturbances)
