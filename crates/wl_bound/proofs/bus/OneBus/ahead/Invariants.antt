use Rattle.std.proofs.Common.{◌≡◌, ◌*◌, ◌==◌, ◌≤◌, not}
use Rattle.wl_bound.specs.Terms.{sum_of}
use Rattle.wl_bound.specs.OneBuses.{the_bus}
use Rattle.wl_bound.specs.Limits.{turns_limit}
use Rattle.wl_bound.proofs.bus.OneBus.ahead.Given as goal

-- what the nodes so far lose
abbrev pub invariant-loop-w : goal.invariant-loop-w
invariant-loop-w l =
    (l.sum ≡ sum_of l.w (λ w. not (w == l.j)) (the_bus l.self).turns) × (l.sum ≤ l.w * turns_limit)
