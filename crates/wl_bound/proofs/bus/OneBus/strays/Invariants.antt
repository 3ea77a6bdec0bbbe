use Rattle.std.proofs.Common.{◌≡◌, ◌==◌, ◌<◌, not}
use Rattle.wl_bound.specs.Terms.{drift, greatest}
use Rattle.wl_bound.specs.OneBuses.{the_bus}
use Rattle.wl_bound.specs.Limits.{drift_limit}
use Rattle.wl_bound.proofs.bus.OneBus.strays.Given as goal

-- the greatest drift against the nodes so far
abbrev pub invariant-loop-w : goal.invariant-loop-w
invariant-loop-w l =
    (l.greatest ≡ greatest l.w (λ w. not (w == l.j)) (λ w. drift (the_bus l.self) l.j w)) × (l.greatest < drift_limit)
