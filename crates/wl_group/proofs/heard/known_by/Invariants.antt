use Rattle.std.proofs.Common.{◌≡◌, ℕ, ◌+◌, ◌-◌}
use Rattle.wl_replica.specs.State.{slots_of}
use Rattle.wl_replica.specs.Known.{horizon, least_up_to}
use Rattle.wl_group.specs.Ways.{way_in}
use Rattle.wl_group.proofs.heard.known_by.Given as goal

-- the least over the nodes so far
abbrev pub invariant-loop-i : goal.invariant-loop-i
invariant-loop-i l = l.least ≡ least_up_to (λ (i : ℕ). horizon (slots_of l.replica) i + way_in l.ways i) (l.i - 1)
